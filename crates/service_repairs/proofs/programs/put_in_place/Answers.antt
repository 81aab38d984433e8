use Rattle.std.proofs.Common.{ap, ◌∙◌}
use Rattle.service_parts.specs.Rooms.{aloft}
use Rattle.service_parts.proofs.RoomLemmas.{aloft_corrected}
use Rattle.service_repairs.proofs.ProgramLemmas.{corrected_is}
use Rattle.service_repairs.proofs.programs.put_in_place.Goals as goal

pub returns-clause-ok : goal.returns-clause-ok
returns-clause-ok c =
    corrected_is c.args.parts.now c.correct.new.self c.args.number c.args.program c.in_ok-flights.flights.list c.renew.new.newest c.in_ok-correct.ensures.folded
    c.in_ok-correct.ensures.base c.in_ok-correct.ensures.entries c.in_ok-flights.ensures c.renew.ensures

pub returns-clause-aloft : goal.returns-clause-aloft
returns-clause-aloft c = ap aloft c.in_ok-flights.ensures ∙ aloft_corrected c.args.number c.args.program c.args.parts.now.flights.list
