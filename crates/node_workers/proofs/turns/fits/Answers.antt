use Rattle.std.proofs.Common.{subst}
use Rattle.service_events.specs.Fits.{Fits}
use Rattle.node_workers.proofs.turns.fits.Goals as goal

pub returns : goal.returns
returns g c = subst Fits c.service-service.ensures c.journal-journal.ensures.fits
