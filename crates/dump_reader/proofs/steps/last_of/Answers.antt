use Rattle.std.proofs.Common.{◌∙◌}
use Rattle.dump_reader.proofs.RowLemmas.{last_is}
use Rattle.dump_reader.proofs.steps.last_of.Goals as goal

pub returns : goal.returns
returns c = c.last.ensures.value ∙ last_is c.args.rows.now
