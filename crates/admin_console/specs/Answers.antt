-- What an operator's request is answered at a desk, and what it changes there.
use Rattle.std.specs.Prelude.{ℕ, ◌≡◌, ◌⊎◌, List, Option, Some, None, Result}
use Rattle.lang_core.specs.declared.inputs.Inputs.{Inputs}
use Rattle.journal_rows.specs.declared.orders.Command.{Command}
use Rattle.repair_messages.specs.declared.refusals.Refusal.{Refusal}
use Rattle.service_events.specs.Doing.{Does, order_memory}
use Rattle.service_events.specs.Orders.{order_event}
use Rattle.service_events.specs.State.{Kept, me}
use Rattle.service_events.specs.declared.answers.Ordered.{Ordered}
use Rattle.service_events.specs.declared.refusals.OrderRefused.{OrderRefused}
use Rattle.http_front.specs.declared.message.WireResponse.{WireResponse}
use Rattle.wire_fields.specs.declared.console.ConsoleRequest.{ConsoleRequest}
use Rattle.admin_console.specs.Asking.{asked_in}
use Rattle.admin_console.specs.Replies.{bad, fault_reply, order_reply, report_reply}
use Rattle.admin_console.specs.Reports.{report_of}
use Rattle.admin_console.specs.declared.asking.Asked.{Asked}
use Rattle.admin_console.specs.declared.asking.Asked.TheVariants.{IllText, Order, Report}

-- what an order made at a desk is: the command, its token, its operator and its inputs, how it is answered, and the desk then
abbrev pub Makes : Type 0 → Type 1
Makes Desk = Desk → Command → List ℕ → List ℕ → Inputs → Result Ordered OrderRefused → Desk → Type 0

-- why a fold waits at a desk, if one does
abbrev pub Waits : Type 0 → Type 0
Waits Desk = Desk → Option Refusal

-- at a service it is the order of that service, unless memory is wanting
abbrev pub MakesOrder : Makes Kept
MakesOrder s command token who i answer s' = Does order_memory (order_event s command token who i) s answer s'

-- the order is made, once, and what is replied tells its answer
pub record IsOrdered {Desk : Type 0} (kept : Desk → Kept) (Made : Makes Desk) (desk : Desk) (command : Command) (token who : List ℕ) (i : Inputs) (response : WireResponse) (after : Desk) : Type 0 where
  pub answer : Result Ordered OrderRefused
  pub made : Made desk command token who i answer after
  pub told : response ≡ order_reply (me (kept after)) answer

-- What is asked is done. A report is of the service that the desk has at that moment, and changes nothing; neither does a body
-- that is ill, nor a text that is none.
abbrev pub IsDone : {Desk : Type 0} → (Desk → Kept) → Waits Desk → Makes Desk → Desk → Option Asked → List ℕ → Inputs → WireResponse → Desk → Type 0
IsDone kept waits Made desk None who i response after = (after ≡ desk) × (response ≡ bad)
IsDone kept waits Made desk (Some (Order token command)) who i response after = IsOrdered kept Made desk command token who i response after
IsDone kept waits Made desk (Some (Report report)) who i response after = (after ≡ desk) × (response ≡ report_reply (report_of report (waits desk) (kept desk)))
IsDone kept waits Made desk (Some (IllText fault)) who i response after = (after ≡ desk) × (response ≡ fault_reply fault)

-- what an operator's request is answered
abbrev pub IsAnswered : {Desk : Type 0} → (Desk → Kept) → Waits Desk → Makes Desk → Desk → ConsoleRequest → Inputs → WireResponse → Desk → Type 0
IsAnswered kept waits Made desk request i response after = IsDone kept waits Made desk (asked_in request) request.who i response after

-- ---- want of memory

-- Without a reply nothing changed; or an order was made, once, and there was no memory to tell it.
abbrev pub IsLeft : {Desk : Type 0} → Makes Desk → Desk → Option Asked → List ℕ → Inputs → Desk → Type 0
IsLeft Made desk (Some (Order token command)) who i after =
    (after ≡ desk) ⊎ ((answer : Result Ordered OrderRefused) × Made desk command token who i answer after)
IsLeft Made desk asked who i after = after ≡ desk

-- what an operator's request leaves that isn't answered
abbrev pub IsUnanswered : {Desk : Type 0} → Makes Desk → Desk → ConsoleRequest → Inputs → Desk → Type 0
IsUnanswered Made desk request i after = IsLeft Made desk (asked_in request) request.who i after
