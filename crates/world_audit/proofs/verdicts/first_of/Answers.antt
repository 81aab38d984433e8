use Rattle.world_audit.proofs.FirstLemmas.{found_first}
use Rattle.world_audit.proofs.verdicts.first_of.Goals as goal

pub returns-in-Some : goal.returns-in-Some
returns-in-Some c =
    found_first c.args.kind c.args.services.now c.loop-at.at c.in-Some.number c.index-services-at.result c.loop-at-test.true c.loop-at.invariant c.index-services-at.is
    c.in-Some.ensures
