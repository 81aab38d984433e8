use Rattle.std.proofs.lemmas.List.{take_rest}
use Rattle.log_index.proofs.numbers.left.Goals as goal

pub returns : goal.returns
returns c = take_rest c.args.numbers.now c.args.gone
