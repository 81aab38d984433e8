use Rattle.std.proofs.Common.{true, false, ap, sym, ◌∙◌}
use Rattle.service_events.specs.State.{after}
use Rattle.world_core.proofs.OrderLemmas.{gives_up, not_there}
use Rattle.world_core.proofs.orders.abandon.Goals as goal

pub returns-then-abandon : goal.returns-then-abandon
returns-then-abandon c =
    gives_up c.args.service.now c.abandon.new.self c.args.flight c.unwritten.result c.unwritten.ensures (ap (after c.abandon.new.self) (sym c.if-abandon.true) ∙ c.abandon.ensures.does)

pub returns-else-abandon : goal.returns-else-abandon
returns-else-abandon c = not_there c.args.service.now c.abandon.new.self c.args.flight (ap (after c.abandon.new.self) (sym c.if-abandon.false) ∙ c.abandon.ensures.does)
