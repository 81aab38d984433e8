use Rattle.authorise_rules.proofs.Stripped.{behind_from}
use Rattle.authorise_rules.proofs.words.behind_is.Goals as goal

pub returns : goal.returns
returns c = behind_from c.args.word.now _ c.strip_prefix.ensures.cases
