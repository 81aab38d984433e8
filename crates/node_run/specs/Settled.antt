-- Services that were brought to rest.
use Rattle.std.specs.Prelude.{◌≡◌, Bool, false, List, [], ◌∷◌, ◌++◌, ⊤, nat_lt}
use Rattle.std.specs.Option.{option_map_or}
use Rattle.journal_rows.specs.declared.row.Row.{Row}
use Rattle.call_registers.specs.Registers.{IsTimely}
use Rattle.call_registers.specs.declared.register.Answer.{Answer}
use Rattle.call_registers.specs.declared.register.Register.{Register}
use Rattle.local_repair.specs.Current.{AllCurrent}
use Rattle.service_events.specs.Commits.{live_rows}
use Rattle.service_events.specs.State.{Kept, answers, base, me, unfolded}
use Rattle.node_core.specs.Orders.{ordered_rows}

-- no entry of it is stale; folded ones never are
abbrev pub IsAtRest : Kept → Type 0
IsAtRest s = AllCurrent (answers s) (base s) (unfolded s)

-- a call holds an answer to a later version of it than its own
abbrev pub is_early : Register → Bool
is_early r = option_map_or (λ (a : Answer). nat_lt r.version a.version) r.answer false

-- a service of the same name, whose journal goes on from the one's, and answers no live request and has no order more
pub record GoesOnFrom (s t : Kept) : Type 0 where
  pub name : me t ≡ me s
  pub rows : List Row
  pub is : t.journal ≡ s.journal ++ rows
  pub silent : live_rows t.journal ≡ live_rows s.journal
  pub unordered : ordered_rows t.journal ≡ ordered_rows s.journal

-- and which is at rest, if it is timely
pub record HasSettled (s t : Kept) : Type 0 where
  pub goes : GoesOnFrom s t
  pub rests : IsTimely t.registers → IsAtRest t

-- each has, in order
abbrev pub HaveSettled : List Kept → List Kept → Type 0
HaveSettled [] [] = ⊤
HaveSettled (s ∷ ss) (t ∷ ts) = HasSettled s t × HaveSettled ss ts
HaveSettled ss ts = ⊥
