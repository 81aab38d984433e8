use Rattle.std.proofs.Common.{arith}
use Rattle.flights.proofs.CorrectionLemmas.{corrected_more}
use Rattle.flights.proofs.flights.all_corrected.Goals as goal

pub loop-flight-preserved : goal.loop-flight-preserved
loop-flight-preserved c =
    corrected_more c.args.number c.args.program.now c.loop-flight.flight-index c.args.flights.now c.loop-flight.list.list c.push_corrected.new.list.list c.flight-item.result
    c.requires (omega arith) c.flight-item.is c.loop-flight.invariant c.in_ok-push_corrected.ensures
