use Rattle.std.proofs.Common.{◌≡◌, All, List, subst}
use Rattle.journal_rows.specs.declared.verdict.Verdict.TheVariants.{Legal}
use Rattle.service_events.specs.Allowed.{IsAllowed}
use Rattle.service_events.specs.Fits.{Fits}
use Rattle.service_events.specs.State.{Kept}
use Rattle.world_agreement.specs.Legal.{AreLegal}
use Rattle.world_agreement.specs.Partners.{NamesDiffer}
use Rattle.world_audit.specs.Verdicts.{IsVerdict}
use Rattle.node_run.specs.Ends.{IsSealedBy}
use Rattle.node_run.proofs.EndingLemmas.{good_end}
use Rattle.node_run.proofs.WholeKept.{noted_kept}
use Rattle.node_run.proofs.ending.ended.Goals as goal

pub returns-clause-end : goal.returns-clause-end
returns-clause-end g c since whole =
    let services = c.in-Ok.services.items in
    let verdict = c.judge-verdict.result in
    let same : c.deref.result.now ≡ services = c.deref.ensures.value in
    let judged = c.judge-verdict.ensures in
    good_end since c.args.here.now c.args.closed.services.items services c.args.closed.receipts.items verdict c.requires.apart whole (subst (All (IsSealedBy c.args.here.now)) c.as_slice.ensures.value c.in-Ok.ensures.sealed) c.in-Ok.ensures.settled
    c.in-Ok.ensures.set_so (subst (All Fits) same judged.fits) (subst (All IsAllowed) same judged.allowed)
    (subst (λ (all : List Kept). IsVerdict all verdict) same judged.verdict)
    (subst (λ (all : List Kept). NamesDiffer all → verdict ≡ Legal → AreLegal all) same judged.legal)

pub returns-clause-noted : goal.returns-clause-noted
returns-clause-noted g c since noted =
    noted_kept since c.args.closed.services.items c.in-Ok.services.items c.args.closed.orders.items c.in-Ok.ensures.settled noted
