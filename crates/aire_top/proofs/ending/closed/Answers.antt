use Rattle.std.proofs.Common.{All, IfSome, List, Option, subst, sym}
use Rattle.journal_rows.specs.declared.verdict.Verdict.TheVariants.{Legal}
use Rattle.service_events.specs.Allowed.{IsAllowed}
use Rattle.service_events.specs.Fits.{Fits}
use Rattle.service_events.specs.State.{Kept}
use Rattle.world_agreement.specs.Legal.{AreLegal}
use Rattle.world_agreement.specs.Partners.{IsJoined}
use Rattle.world_events.specs.Worlds.{World}
use Rattle.aire_top.proofs.AllowedLaws.{allowed_where, never_where}
use Rattle.aire_top.proofs.Runs.{verdict_told}
use Rattle.aire_top.proofs.ending.closed.Goals as goal

pub returns-in-Some-clause-legal : goal.returns-in-Some-clause-legal
returns-in-Some-clause-legal g c = λ e.
    let P : List Kept → Type 0 = AreLegal in
    subst P (sym c.into_services.ensures) (c.judge-verdict.ensures.legal (verdict_told c.judge-verdict.result Legal e))

pub returns-in-Some-clause-joined : goal.returns-in-Some-clause-joined
returns-in-Some-clause-joined g c =
    let Joins : Option World → Type 0 = λ o. ∥ IfSome o (λ w. IsJoined w.services) ∥₁ in
    never_where (subst Joins c.in-Some.is c.args.outcome.joined) c.judge-verdict.ensures.joined

pub returns-in-Some-clause-allowed : goal.returns-in-Some-clause-allowed
returns-in-Some-clause-allowed g c =
    let Joins : Option World → Type 0 = λ o. ∥ IfSome o (λ w. IsJoined w.services) ∥₁ in
    let P : List Kept → Type 0 = λ services. All IsAllowed services in
    subst P (sym c.into_services.ensures) (allowed_where c.in-Some.world.services (subst Joins c.in-Some.is c.args.outcome.joined) c.judge-verdict.ensures.allowed)

pub returns-in-Some-clause-kept : goal.returns-in-Some-clause-kept
returns-in-Some-clause-kept g c =
    let P : List Kept → Type 0 = λ services. All Fits services × All IsAllowed services in
    subst P (sym c.into_services.ensures) (subst P c.services.ensures.services (c.look_at_all.ensures.fits, c.look_at_all.ensures.allowed))
