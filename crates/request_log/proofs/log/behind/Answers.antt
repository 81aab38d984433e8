use Rattle.std.proofs.lemmas.List.{take_rest}
use Rattle.request_log.proofs.log.behind.Goals as goal

pub returns : goal.returns
returns c = take_rest c.args.items.now c.args.count
