use Rattle.std.specs.Option.{option_copied}
use Rattle.one_order.proofs.Lookups.{service_found, service_kept}
use Rattle.one_order.proofs.finding.service_in.Goals as goal

pub returns-clause-found : goal.returns-clause-found
returns-clause-found c = service_found c.args.name.now c.args.world.now (option_copied c.named.result) c.requires.kept c.named.ensures

pub returns-clause-kept : goal.returns-clause-kept
returns-clause-kept c = service_kept c.args.name.now c.args.world.now c.named.result c.requires.kept c.named.ensures
