use Rattle.std.proofs.Common.{All, subst, arith}
use Rattle.std.proofs.lemmas.List.{take_all}
use Rattle.std.proofs.lemmas.List.Elements.{All-more}
use Rattle.service_events.specs.Allowed.{IsAllowed}
use Rattle.service_events.specs.Fits.{Fits}
use Rattle.node_run.proofs.judging.look_at_all.Goals as goal

pub loop-service-preserved : goal.loop-service-preserved
loop-service-preserved c = record {
  fits = All-more Fits c.args.services.now c.loop-service.service-index c.service-item.result c.loop-service-test.true c.loop-service.invariant.fits (subst Fits c.service-item.is c.journal-journal.ensures.fits);
  allowed = All-more IsAllowed c.args.services.now c.loop-service.service-index c.service-item.result c.loop-service-test.true c.loop-service.invariant.allowed (subst IsAllowed c.service-item.is c.journal-journal.ensures.allowed);
}

pub returns-clause-fits : goal.returns-clause-fits
returns-clause-fits c = subst (All Fits) (take_all c.loop-service.service-index c.args.services.now (omega (arith, c.loop-service-test.false))) c.loop-service.invariant.fits

pub returns-clause-allowed : goal.returns-clause-allowed
returns-clause-allowed c = subst (All IsAllowed) (take_all c.loop-service.service-index c.args.services.now (omega (arith, c.loop-service-test.false))) c.loop-service.invariant.allowed
