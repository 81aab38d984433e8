use Rattle.std.proofs.Common.{refl}
use Rattle.order_command.proofs.Lines.{cycle_told, fault_told, order_told}
use Rattle.order_command.proofs.ordering.order_of.Goals as goal

pub returns-in-Ok-Order : goal.returns-in-Ok-Order
returns-in-Ok-Order g c =
    let passes = rw c.in-Ok-Order.field-0-is at c.in-Ok-Order.ensures.order in
    let first = rw c.in-Ok-Order.field-0-is at c.in-Ok-Order.ensures.first in
    let runs = rw c.in-Ok-Order.field-0-is at c.in-Ok-Order.ensures.one_world in
    order_told c.args.dump.now.services (g.K.Sink.writes c.args.out.now) (g.K.Sink.writes c.ordered.new.out) c.ordered.result c.in-Ok-Order.order c.in-Ok-Order.ensures.legal passes first runs c.ordered.ensures

pub returns-in-Ok-Cycle : goal.returns-in-Ok-Cycle
returns-in-Ok-Cycle g c =
    let never = rw c.in-Ok-Cycle.field-0-is at c.in-Ok-Cycle.ensures.cycle in
    let shown = rw c.in-Ok-Cycle.field-0-is at c.in-Ok-Cycle.ensures.shown in
    cycle_told c.args.dump.now.services (g.K.Sink.writes c.args.out.now) (g.K.Sink.writes c.cycled.new.out) c.cycled.result c.in-Ok-Cycle.first c.in-Ok-Cycle.second _ c.in-Ok-Cycle.ensures.legal (never refl)
    shown c.cycled.ensures

pub returns-in-Err-NotLegal : goal.returns-in-Err-NotLegal
returns-in-Err-NotLegal g c =
    let ill = rw c.in-Err-NotLegal.field-0-is at c.in-Err-NotLegal.ensures.refused in
    fault_told c.args.dump.now.services (g.K.Sink.writes c.args.out.now) (g.K.Sink.writes c.told.new.out) c.told.result c.in-Err-NotLegal.found ill.0 ill.1 c.told.ensures
