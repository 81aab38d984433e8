-- Folds that a service orders by itself.
use Rattle.std.specs.Prelude.{ℕ, ◌⊎◌, ◌++◌, ◌&&◌, Bool, false, not, List, codes, decimal, is_none, length, nat_le, position, unwrap_or}
use Rattle.std.specs.List.{list_all}
use Rattle.std.specs.Option.{option_map_or}
use Rattle.lang_core.specs.declared.inputs.Inputs.{Inputs}
use Rattle.request_log.specs.declared.entry.Entry.{Entry}
use Rattle.journal_rows.specs.Words.{ordered}
use Rattle.journal_rows.specs.declared.orders.Command.TheVariants.{Fold}
use Rattle.journal_rows.specs.declared.row.Row.{Row}
use Rattle.call_registers.specs.Registers.{is_done_with, register}
use Rattle.call_registers.specs.declared.register.Answer.{Answer}
use Rattle.call_registers.specs.declared.register.Register.{Register}
use Rattle.service_events.specs.Orders.{is_due}
use Rattle.service_events.specs.State.{Kept}
use Rattle.service_events.specs.declared.event.Done.{Done as NodeDone}
use Rattle.service_events.specs.declared.event.Event.{Event as NodeEvent}
use Rattle.service_events.specs.declared.event.Event.TheVariants as events
use Rattle.node_core.specs.declared.notes.Notes.{Notes}
use Rattle.node_core.specs.declared.receipt.Receipt.{Receipt}
use Rattle.node_workers.specs.Turns.{IsUntouched, Made}

-- ---- which entries can go

-- it was answered, and by an answer to this version of it: so no token of its first answer is on its way
abbrev pub is_answered : Register → Bool
is_answered r = option_map_or (λ (a : Answer). nat_le r.version a.version) r.answer false

-- it is acknowledged at its version, owes no fetch, and was answered
abbrev pub is_over : Register → Bool
is_over r = is_done_with r && is_answered r

-- the call of this number is over
abbrev pub is_call_over : List Register → ℕ → Bool
is_call_over registers n = option_map_or is_over (register n registers) false

-- an entry whose reply isn't due, and whose calls are over
abbrev pub can_go : Kept → Entry → Bool
can_go s e = not (is_due s e) && list_all (is_call_over s.registers) e.slots

-- one that can't
abbrev pub stays : Kept → Entry → Bool
stays s e = not (can_go s e)

-- how many of the first of these can go
abbrev pub front_of : Kept → List Entry → ℕ
front_of s entries = unwrap_or (position (stays s) entries) (length entries)

-- ---- the order

-- `fold-` and a number
abbrev pub fold_token : ℕ → List ℕ
fold_token n = codes "fold-" ++ decimal n

-- no order in the journal has the token of this number
abbrev pub is_free : List Row → ℕ → Bool
is_free journal n = is_none (ordered (fold_token n) journal)

-- an order to fold, of the service of this name and by itself
abbrev pub own_fold : List ℕ → ℕ → ℕ → Inputs → NodeEvent
own_fold name id number i = events.Order (Fold id) (fold_token number) name i

-- such an order was made
pub record Folds (name : List ℕ) (before now : Notes) (had have : List Receipt) : Type 0 where
  pub id : ℕ
  pub number : ℕ
  pub inputs : Inputs
  pub done : NodeDone
  pub made : Made name before now had have (own_fold name id number inputs) done

-- or none
abbrev pub FoldsOnce : List ℕ → Notes → Notes → List Receipt → List Receipt → Type 0
FoldsOnce name before now had have = IsUntouched before now had have ⊎ Folds name before now had have
