use Rattle.std.proofs.lemmas.List.Elements.{AllWithin-more}
use Rattle.service_events.specs.Allowed.{IsAllowed}
use Rattle.service_events.specs.Fits.{Fits}
use Rattle.world_audit.specs.Verdicts.{IsJoinedIn}
use Rattle.world_audit.proofs.FirstLemmas.{found_forged, held_at}
use Rattle.world_audit.proofs.verdicts.forged.Goals as goal

pub loop-at-preserved : goal.loop-at-preserved
loop-at-preserved c =
    let services = c.args.services.now in
    let s = c.index-services-at.result in
    let joined : IsJoinedIn services s = rw (c.as_slice.ensures, c.journal.ensures.rows) at c.in_default.ensures in
    record {
      joined = AllWithin-more (IsJoinedIn services) services 0 c.loop-at.at c.loop-at.invariant.joined (held_at (IsJoinedIn services) services c.loop-at.at s c.loop-at-test.true c.index-services-at.is joined);
      fits = AllWithin-more Fits services 0 c.loop-at.at c.loop-at.invariant.fits (held_at Fits services c.loop-at.at s c.loop-at-test.true c.index-services-at.is c.journal.ensures.fits);
      allowed = AllWithin-more IsAllowed services 0 c.loop-at.at c.loop-at.invariant.allowed (held_at IsAllowed services c.loop-at.at s c.loop-at-test.true c.index-services-at.is c.journal.ensures.allowed);
    }

pub returns-in-Some-clause-first : goal.returns-in-Some-clause-first
returns-in-Some-clause-first c =
    found_forged c.args.services.now c.loop-at.at c.in-Some.index c.index-services-at.result c.loop-at-test.true c.loop-at.invariant.joined c.index-services-at.is
    (rw (c.as_slice.ensures, c.journal.ensures.rows) at c.in-Some.ensures)
