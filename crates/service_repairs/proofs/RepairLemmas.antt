-- What a repair step and an order leave of a service.
use Rattle.std.proofs.Common.{◌≡◌, ap, ℕ, List, None, Result, Ok, Err, IfOk, OnErr}
use Rattle.lang_base.specs.declared.memory.NoMemory.{NoMemory}
use Rattle.lang_core.specs.declared.inputs.Inputs.{Inputs}
use Rattle.local_repair.specs.declared.stepped.Stepped.{Stepped}
use Rattle.journal_rows.specs.declared.orders.Command.{Command}
use Rattle.service_events.specs.State.{Kept, After, after}
use Rattle.service_events.specs.Orders.{order_event, refused}
use Rattle.service_events.specs.Steps.{step_event}
use Rattle.service_events.specs.declared.answers.Ordered.{Ordered}
use Rattle.service_events.specs.declared.event.Event.TheVariants as events
use Rattle.service_events.specs.declared.refusals.OrderRefused.{OrderRefused}
use Rattle.service_events.proofs.FreshLemmas.{unfound}
use Rattle.service_events.proofs.PartLemmas.{logged}
use Rattle.service_parts.specs.Parts.{kept}
use Rattle.service_parts.specs.declared.parts.Parts.{Parts}
use Rattle.service_events.proofs.OrderLaw.{well_named}
use Rattle.service_repairs.specs.Ordering.{MayOrder}
use Rattle.service_parts.specs.Services.{HasRoom, IsService}
use Rattle.service_repairs.specs.Answers.{Steps}
use Rattle.service_parts.proofs.ServiceLaws.{same_service, event_service}

-- ---- a step

pub step_done : (s s' : Kept) (result : Result Stepped NoMemory) → IfOk result (λ stepped. after s' stepped ≡ step_event s) → OnErr result (s' ≡ s) → Steps s result s'
step_done s s' (Ok stepped) ok err = ok
step_done s s' (Err why) ok err = err

pub step_service : (p p' : Parts) (result : Result Stepped NoMemory) → IsService p → IfOk result (λ stepped. after (kept p') stepped ≡ step_event (kept p))
    → OnErr result (kept p' ≡ kept p) → HasRoom p' → IsService p'
step_service p p' (Ok stepped) h ok err room =
    event_service p p' events.Step (ap (λ (a : After Stepped). a.service) ok) room h
step_service p p' (Err why) h ok err room = same_service p p' err room h

-- ---- an order

-- an order that isn't refused can be carried out
pub may_order : (p : Parts) (command : Command) (who : List ℕ) → IsService p → refused (kept p) command who ≡ None → MayOrder (kept p) command
may_order p command who h none = record {
  named = (well_named (kept p) command who none).0;
  quiet = (well_named (kept p) command who none).1;
  id = unfound (kept p).journal (kept p).entries (kept p).replies (logged (kept p) h.fits);
}

pub order_service : (p p' : Parts) (command : Command) (token who : List ℕ) (i : Inputs) (o : Ordered) → IsService p
    → after (kept p') (Ok o) ≡ order_event (kept p) command token who i → HasRoom p' → IsService p'
order_service p p' command token who i o h is room =
    event_service p p' (events.Order command token who i) (ap (λ (a : After (Result Ordered OrderRefused)). a.service) is) room h
