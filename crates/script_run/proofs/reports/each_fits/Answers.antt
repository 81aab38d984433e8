use Rattle.std.proofs.Common.{All, subst, arith}
use Rattle.std.proofs.lemmas.List.{take_all}
use Rattle.std.proofs.lemmas.List.Elements.{All-more}
use Rattle.service_events.specs.Fits.{Fits}
use Rattle.script_run.proofs.reports.each_fits.Goals as goal

pub loop-service-preserved : goal.loop-service-preserved
loop-service-preserved c =
    All-more Fits c.args.services.now c.loop-service.service-index c.service-item.result c.loop-service-test.true c.loop-service.invariant (subst Fits c.service-item.is c.journal-journal.ensures.fits)

pub returns : goal.returns
returns c = subst (All Fits) (take_all c.loop-service.service-index c.args.services.now (omega (arith, c.loop-service-test.false))) c.loop-service.invariant
