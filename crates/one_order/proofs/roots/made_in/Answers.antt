use Rattle.std.specs.Option.{option_copied}
use Rattle.one_order.proofs.Lookups.{number_found}
use Rattle.one_order.proofs.roots.made_in.Goals as goal

pub returns : goal.returns
returns c = number_found c.args.number c.args.service.now (option_copied c.with_number.result) c.requires.kept c.with_number.ensures
