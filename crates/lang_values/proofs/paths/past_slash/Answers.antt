use Rattle.std.proofs.Common.{None, Some, lit<}
use Rattle.std.proofs.lemmas.Str.Pattern.{strip_prefix_char}
use Rattle.lang_values.proofs.PathLemmas.{past_slash_none, past_slash_some}
use Rattle.lang_values.proofs.paths.past_slash.Goals as goal

pub returns-in-None : goal.returns-in-None
returns-in-None c = past_slash_none _ (strip_prefix_char 47 c.args.path.now None c.in-None.ensures.cases (lit< tt))

pub returns-in-Some : goal.returns-in-Some
returns-in-Some c = past_slash_some _ _ (strip_prefix_char 47 c.args.path.now (Some c.in-Some.rest) c.in-Some.ensures.cases (lit< tt))
