-- Registers: which call has a number, what it consumes, and what each change makes of them.
use Rattle.std.specs.Prelude.{ℕ, ◌≡◌, ◌+◌, ◌≤◌, Bool, true, ◌&&◌, not, List, [], ◌∷◌, ◌++◌, Option, Some, None, IsSome, IfSome, if◌then◌else◌, nat_eq, nat_lt, is_some, max, length, find}
use Rattle.lang_core.specs.declared.request.Request.{Request}
use Rattle.lang_core.specs.declared.request.Response.{Response}
use Rattle.call_registers.specs.Changes.{change, raised}
use Rattle.call_registers.specs.declared.register.Answer.{Answer}
use Rattle.call_registers.specs.declared.register.RegisterChange.{RegisterChange}
use Rattle.call_registers.specs.declared.register.RegisterChange.TheVariants.{Send, Ack, SeeAnswer, Note, Tell, Hold as HoldBack, Release}
use Rattle.call_registers.specs.declared.register.Hold.{Hold}
use Rattle.call_registers.specs.declared.register.Register.{Register}
use Rattle.call_registers.specs.declared.register.Why.{Why}

-- the registers in the order of their numbers, and how many more can be put behind them without memory
pub record KeptRegisters : Type 0 where
  pub list : List Register
  pub spare : ℕ

-- ---- which register has a number

abbrev pub has_number : ℕ → Register → Bool
has_number number r = nat_eq r.number number

-- the register of a number, if there is one
abbrev pub register : ℕ → List Register → Option Register
register number registers = find (has_number number) registers

abbrev pub IsThere : ℕ → List Register → Type 0
IsThere number registers = IsSome (register number registers)

-- numbers rise by 1, beginning with this
abbrev pub CountFrom : ℕ → List Register → Type 0
CountFrom number [] = Unit {0}
CountFrom number (r ∷ rs) = (r.number ≡ number) × CountFrom (number + 1) rs

-- the numbers are 1, 2, 3 and so on
abbrev pub IsNumbered : List Register → Type 0
IsNumbered registers = CountFrom 1 registers

-- ---- what a call consumes

-- the answer, where it answers this version
abbrev pub answer_to : ℕ → Option Answer → Option Response
answer_to version None = None
answer_to version (Some a) = if nat_eq a.version version then Some a.response else None

abbrev pub consumed_in : Option Register → Option Response
consumed_in None = None
consumed_in (Some r) = answer_to r.version r.answer

-- the answer that a number consumes: the one that is held, where it answers the register's version; None is the tentative one
abbrev pub consumed : ℕ → List Register → Option Response
consumed number registers = consumed_in (register number registers)

-- no answer is held for a later version of a call than its register's
abbrev pub IsTimely : List Register → Type 0
IsTimely registers =
    (number : ℕ) → IfSome (register number registers) (λ (r : Register). IfSome r.answer (λ (a : Answer). a.version ≤ r.version))

-- ---- a new call

abbrev pub first_register : ℕ → List ℕ → Request → ℕ → Register
first_register number dest q since =
    record {
      number = number;
      dest = dest;
      version = 1;
      desired = Some q;
      acked = 0;
      answer = None;
      noted = 0;
      noted_who = q.who;
      noted_rule = 0;
      noted_since = 0;
      told = None;
      held = None;
      repair_who = q.who;
      since = since;
    }

-- numbers are given in order and never again
abbrev pub next_number : List Register → ℕ
next_number registers = length registers + 1

abbrev pub with_call : List ℕ → Request → ℕ → List Register → List Register
with_call dest q since registers = registers ++ first_register (next_number registers) dest q since ∷ []

-- ---- changes of a call

-- the register of a number changed so
abbrev pub at_number : ℕ → (Register → Register) → List Register → List Register
at_number number f registers = change (has_number number) f registers

-- a new version, which nothing holds
abbrev pub sent_anew : Option Request → ℕ → Register → Register
sent_anew desired since r = record r { version = raised r.version; desired = desired; held = None; since = since }

abbrev pub with_ack : ℕ → Register → Register
with_ack version r = record r { acked = max r.acked version }

-- the answer version is the greatest so far
abbrev pub is_newer : Option Answer → ℕ → Bool
is_newer None answer_version = true
is_newer (Some held) answer_version = nat_lt held.answer_version answer_version

abbrev pub with_answer : Answer → Register → Register
with_answer a r = if is_newer r.answer a.answer_version then record r { answer = Some a } else r

-- the version of the answer that is held, or 0
abbrev pub held_version : Option Answer → ℕ
held_version None = 0
held_version (Some held) = held.answer_version

-- an answer of this version is news: it is above the one that is held, and above the one that was noted
abbrev pub is_news : Register → ℕ → Bool
is_news r answer_version = nat_lt (max (held_version r.answer) r.noted) answer_version

-- an answer was noted that is above the one that is held, and the call is wanted
abbrev pub owes_fetch : Register → Bool
owes_fetch r = is_some r.desired && nat_lt (held_version r.answer) r.noted

-- its last version is acknowledged, and it owes no fetch
abbrev pub is_done_with : Register → Bool
is_done_with r = not (nat_lt r.acked r.version) && not (owes_fetch r)

-- an answer of this version was announced, at this index of the journal
abbrev pub with_note : ℕ → List ℕ → ℕ → ℕ → Register → Register
with_note answer_version who rule since r =
    record r { noted = answer_version; noted_who = who; noted_rule = rule; noted_since = since }

abbrev pub with_cause : Why → Register → Register
with_cause why r = record r { told = Some why }

abbrev pub with_hold : Hold → Register → Register
with_hold hold r = record r { held = Some hold }

abbrev pub released : List ℕ → Register → Register
released who r = record r { held = None; repair_who = who }

-- what each change makes of a register
abbrev pub changed : RegisterChange → Register → Register
changed (Send desired since) r = sent_anew desired since r
changed (Ack version) r = with_ack version r
changed (SeeAnswer answer) r = with_answer answer r
changed (Note answer_version who rule since) r = with_note answer_version who rule since r
changed (Tell why) r = with_cause why r
changed (HoldBack hold) r = with_hold hold r
changed (Release who) r = released who r
