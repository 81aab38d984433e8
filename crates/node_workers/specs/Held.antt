-- A node whose lock is held, and what an order is that is made there.
use Rattle.std.specs.Prelude.{ℕ, ◌≡◌, ◌⊎◌, List, Option, Result, Ok, Err}
use Rattle.lang_base.specs.declared.memory.NoMemory.{NoMemory as LacksMemory}
use Rattle.lang_core.specs.declared.inputs.Inputs.{Inputs}
use Rattle.repair_messages.specs.declared.refusals.Refusal.{Refusal}
use Rattle.journal_rows.specs.declared.orders.Command.{Command}
use Rattle.service_events.specs.State.{Kept, me}
use Rattle.service_events.specs.declared.answers.Ordered.{Ordered}
use Rattle.service_events.specs.declared.event.Done.{Done as NodeDone}
use Rattle.service_events.specs.declared.event.Done.TheVariants as done
use Rattle.service_events.specs.declared.event.Event.TheVariants as events
use Rattle.service_events.specs.declared.refusals.OrderRefused.{OrderRefused}
use Rattle.service_events.specs.declared.refusals.OrderRefused.TheVariants.{NoMemory}
use Rattle.node_core.specs.declared.notes.Notes.{Notes}
use Rattle.node_core.specs.declared.receipt.Receipt.{Receipt}
use Rattle.node_workers.specs.Turns.{Made}
use Rattle.node_workers.specs.declared.held.HeldNode.{HeldNode}

-- the service behind the lock
abbrev pub service_at : {R Q W : Type 0} → HeldNode R Q W → Kept
service_at held = held.state.now.service

-- why a fold of its own waits there, if one does
abbrev pub waits_at : {R Q W : Type 0} → HeldNode R Q W → Option Refusal
waits_at held = held.state.now.folds.waits

-- an event was answered as an order is
abbrev pub IsOrderAnswer : NodeDone → Type 0
IsOrderAnswer (done.Order answer) = Unit {0}
IsOrderAnswer other = ⊥

-- the order was answered so; where memory was wanting for its event, it is refused for that
abbrev pub AnswersAs : Result NodeDone LacksMemory → Result Ordered OrderRefused → Type 0
AnswersAs (Ok answered) answer = answered ≡ done.Order answer
AnswersAs (Err lacks) answer = answer ≡ Err NoMemory

-- Memory was wanting, and no event was made.
pub record IsUnmade (before now : Notes) (had have : List Receipt) (answer : Result Ordered OrderRefused) : Type 0 where
  pub lacks : answer ≡ Err NoMemory
  pub notes : now ≡ before
  pub receipts : have ≡ had

-- An order is one event of the pass at the service behind the lock, which answered this; or memory was wanting for that. The service keeps its name, and
-- the pass is the one that was lent.
pub record OrdersThere {R Q W : Type 0} (before : HeldNode R Q W) (command : Command) (token who : List ℕ) (i : Inputs) (answer : Result Ordered OrderRefused) (now : HeldNode R Q W) : Type 0 where
  pub same_pass : now.pass.ghost_name ≡ before.pass.ghost_name
  pub named : me now.state.now.service ≡ me before.state.now.service
  pub made : Made (me before.state.now.service) before.pass.now.notes now.pass.now.notes before.pass.now.receipts.items now.pass.now.receipts.items (events.Order command token who i) (done.Order answer)
      ⊎ IsUnmade before.pass.now.notes now.pass.now.notes before.pass.now.receipts.items now.pass.now.receipts.items answer
