-- Orders that are tried on a service, one behind another.
use Rattle.std.specs.Prelude.{ℕ, ◌≡◌, ◌<◌, ◌⊎◌, ◌+◌, ◌^◌, Bool, true, false, List, [], ◌∷◌, ◌++◌, Result, Ok, Err, codes, decimal, is_none}
use Rattle.std.proofs.Math.Nat.{min-le_right}
use Rattle.lang_core.specs.declared.inputs.Inputs.{Inputs}
use Rattle.journal_rows.specs.Words.{ordered}
use Rattle.journal_rows.specs.declared.orders.Command.{Command}
use Rattle.journal_rows.specs.declared.orders.Command.TheVariants as command
use Rattle.journal_rows.specs.declared.row.Row.{Row}
use Rattle.service_events.specs.Orders.{order_event}
use Rattle.service_events.specs.State.{Kept, After, after}
use Rattle.service_events.specs.declared.answers.Ordered.{Ordered}
use Rattle.service_events.specs.declared.refusals.OrderRefused.{OrderRefused}
use Rattle.preview_core.specs.declared.refused.PreviewRefused.{PreviewRefused}
use Rattle.preview_core.specs.declared.refused.PreviewRefused.TheVariants.{NoMemory, Order}
use Rattle.preview_core.specs.declared.trial.Trial.{Trial}
use Rattle.preview_core.specs.declared.trial.Trial.TheVariants.{Cancel, Restore, Replace, Correct}

-- the order that a trial is
abbrev pub command_of : Trial → Command
command_of (Cancel id) = command.Cancel id
command_of (Restore id) = command.Restore id
command_of (Replace id method path body) = command.Replace id method path body
command_of (Correct k p) = command.Correct k p

-- ---- tokens

-- `p` and a number
abbrev pub token : ℕ → List ℕ
token n = codes "p" ++ decimal n

-- no order in the journal has the token of this number
abbrev pub is_free : List Row → ℕ → Bool
is_free journal n = is_none (ordered (token n) journal)

-- this is the first number behind the last one whose token is free; numbers are those of 64 bits
pub record IsNextFree (journal : List Row) (last n : ℕ) : Type 0 where
  pub behind : last < n
  pub counted : n < 2 ^ 64
  pub free : is_free journal n ≡ true
  pub first : (m : ℕ) → last < m → m < n → is_free journal m ≡ false

-- no such number is left, which takes more orders than a journal has rows
abbrev pub AreUsedUp : List Row → ℕ → Type 0
AreUsedUp journal last = (m : ℕ) → last < m → m < 2 ^ 64 → is_free journal m ≡ false

-- ---- the trials

-- what a request that is made draws: no trial makes one, so none looks at it
abbrev pub no_inputs : Inputs
no_inputs = record { moment = 0; w1 = 0; w2 = 0; w3 = 0; w4 = 0; w5 = 0; w6 = 0; w7 = 0; w8 = 0; in_range = min-le_right 0 9223372036854775807 }

-- the trial as an order of this user, under the token of this number
abbrev pub trial_event : List ℕ → Kept → Trial → ℕ → After (Result Ordered OrderRefused)
trial_event who s t n = order_event s (command_of t) (token n) who no_inputs

-- a trial that is refused as an order: at which place, and why
pub record RefusedTrial : Type 0 where
  pub at : ℕ
  pub refused : OrderRefused

-- what trials come to: the service after them, or the first that is refused
abbrev pub Tried : Type 0
Tried = Result Kept RefusedTrial

-- an order that was accepted is followed by the next one, and one that was refused by none
abbrev pub GoesOn : Result Ordered OrderRefused → Type 0 → ℕ → Tried → Type 0
GoesOn (Ok ordered) Next at out = Next
GoesOn (Err why) Next at out = out ≡ Err (record { at = at; refused = why })

-- The trials from this place on come to this as orders, one behind another, the first of them on this service. Each has the
-- first token behind that of this number which no order in the journal has. Where none is left, it is refused as out of memory.
abbrev pub AreTried : List Row → List ℕ → ℕ → ℕ → Kept → List Trial → Tried → Type 0
AreTried journal who at last s [] out = out ≡ Ok s
AreTried journal who at last s (t ∷ ts) out =
    ((n : ℕ) × IsNextFree journal last n
    × GoesOn (trial_event who s t n).answer (AreTried journal who (at + 1) n (trial_event who s t n).service ts out) at out)
    ⊎ (AreUsedUp journal last × (out ≡ Err (record { at = at; refused = OrderRefused.NoMemory })))

-- ---- on the way

-- why nothing is shown, where the trial of this place is refused so
abbrev pub refused_at : ℕ → OrderRefused → PreviewRefused
refused_at at OrderRefused.NoMemory = NoMemory
refused_at at why = Order at why

-- One trial, which has this place: it was accepted under the first free token behind that of this number, or it is why
-- nothing is shown.
abbrev pub TriesAt : List Row → List ℕ → ℕ → ℕ → Kept → Trial → Result ℕ PreviewRefused → Kept → Type 0
TriesAt journal who at last s t (Ok n) now =
    IsNextFree journal last n × (ordered : Ordered) × (after now (Ok ordered) ≡ trial_event who s t n)
TriesAt journal who at last s t (Err why) now =
    (n : ℕ) × IsNextFree journal last n × (refused : OrderRefused)
    × ((trial_event who s t n).answer ≡ Err refused) × (why ≡ Order at refused)

-- all trials were accepted, or one of them is why nothing is shown
abbrev pub TriesAll : {D : Type 0} → List Row → List ℕ → Kept → List Trial → Result D PreviewRefused → Kept → Type 0
TriesAll journal who s trials (Ok done) now = AreTried journal who 0 0 s trials (Ok now)
TriesAll journal who s trials (Err why) now =
    (r : RefusedTrial) × (why ≡ Order r.at r.refused) × AreTried journal who 0 0 s trials (Err r)
