use Rattle.std.specs.Option.{option_copied}
use Rattle.one_order.proofs.Lookups.{callee_found}
use Rattle.one_order.proofs.finding.callee_in.Goals as goal

pub returns : goal.returns
returns c = callee_found c.args.caller.now c.args.number c.args.service.now (option_copied c.of_call.result) c.requires.kept c.of_call.ensures
