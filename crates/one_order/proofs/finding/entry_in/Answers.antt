use Rattle.std.specs.Option.{option_copied}
use Rattle.one_order.proofs.Lookups.{entry_found}
use Rattle.one_order.proofs.finding.entry_in.Goals as goal

pub returns : goal.returns
returns c = entry_found c.args.id c.args.service.now (option_copied c.with_id.result) c.requires.kept c.with_id.ensures
