use Rattle.std.proofs.Common.{None, lit<, ◌∙◌}
use Rattle.std.proofs.lemmas.Str.Pattern.{strip_prefix_char}
use Rattle.script_lines.proofs.Letters.{unlettered}
use Rattle.script_lines.proofs.parts.packet_part.Goals as goal

pub returns-in_err-strip_prefix : goal.returns-in_err-strip_prefix
returns-in_err-strip_prefix c = c.from_residual.ensures ∙ unlettered 112 c.args.word.now (strip_prefix_char 112 c.args.word.now None c.in_err-strip_prefix.ensures.cases (lit< tt))
