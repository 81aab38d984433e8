use Rattle.store_lines.proofs.WindowLemmas.{space_front}
use Rattle.store_lines.proofs.marks.number_in.Goals as goal

pub returns : goal.returns
returns c = λ n behind small is.
    c.number_of.ensures n small (space_front c.args.line.now behind n c.space_in.result small is c.space_in.ensures.within c.space_in.ensures.front c.space_in.ensures.space)
