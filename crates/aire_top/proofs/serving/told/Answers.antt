use Rattle.std.proofs.Common.{List, ap, inr, ◌∙◌}
use Rattle.service_events.specs.State.{Kept}
use Rattle.node_run.specs.HandedOn.{Receipt}
use Rattle.aire_top.specs.Serves.{end_text}
use Rattle.aire_top.proofs.ServeLaws.{told_ends}
use Rattle.aire_top.proofs.serving.told.Goals as goal

pub returns-in-Ok : goal.returns-in-Ok
returns-in-Ok g c = λ setups good asked.
    let services = c.args.joined.services.items in
    let receipts = c.args.joined.receipts.items in
    let verdict = c.args.joined.verdict in
    let is = c.as_str.ensures.value ∙ c.in-Ok.ensures ∙ ap (λ (s : List Kept). end_text s c.deref-2.result.now verdict) c.deref.ensures.value ∙ ap (λ (r : List Receipt). end_text services r verdict) c.deref-2.ensures.value in
    told_ends setups services receipts verdict c.args.joined.last.service c.args.joined.last.console good asked
    (g.K.Sink.writes c.args.out.now) (g.K.Sink.writes c.print.new.out) c.print.result _ c.finished.ensures (rw is at c.print.ensures)

pub returns-in-Err : goal.returns-in-Err
returns-in-Err g c = λ setups good asked. inr c.lacking_end.ensures
