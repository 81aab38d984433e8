use Rattle.service_core.proofs.PastLaws.{keeps_by}
use Rattle.service_core.proofs.service.Service.event.Goals as goal

pub returns-clause-past : goal.returns-clause-past
returns-clause-past c = keeps_by c.args.self.now c.happen.new.self c.args.event c.happen.result c.journal-fits.ensures.fits c.happen.ensures.happens
