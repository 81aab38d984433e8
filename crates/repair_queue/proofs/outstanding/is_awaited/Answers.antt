use Rattle.std.proofs.Common.{◌∙◌, sym, nat_eq}
use Rattle.service_events.specs.Flying.{awaited}
use Rattle.repair_queue.proofs.FoldLemmas.{any_map}
use Rattle.repair_queue.proofs.outstanding.is_awaited.Goals as goal

pub returns : goal.returns
returns c = c.awaits.ensures ∙ sym (any_map (nat_eq c.args.number) awaited c.args.flights.now)
