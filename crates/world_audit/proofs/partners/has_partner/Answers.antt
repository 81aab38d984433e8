use Rattle.world_audit.proofs.PartnerLemmas.{partner_exactly}
use Rattle.world_audit.proofs.partners.has_partner.Goals as goal

pub returns : goal.returns
returns c = partner_exactly c.args.services.now c.args.service.now c.args.row.now c.is_partnered.result c.is_partnered.ensures
