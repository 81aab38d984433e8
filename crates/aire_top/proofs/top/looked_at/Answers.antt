use Rattle.std.proofs.Common.{All, List, subst}
use Rattle.service_events.specs.Allowed.{IsAllowed}
use Rattle.service_events.specs.Fits.{Fits}
use Rattle.service_events.specs.State.{Kept}
use Rattle.aire_top.proofs.top.looked_at.Goals as goal

pub returns-clause-kept : goal.returns-clause-kept
returns-clause-kept g c =
    let P : List Kept → Type 0 = λ services. All Fits services × All IsAllowed services in
    subst P c.deref.ensures.value (c.look_at_all.ensures.fits, c.look_at_all.ensures.allowed)
