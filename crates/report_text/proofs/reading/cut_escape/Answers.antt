use Rattle.std.proofs.Common.{None, lit<}
use Rattle.std.proofs.lemmas.Str.Pattern.{strip_prefix_char}
use Rattle.report_text.proofs.EscapeLemmas.{none_of_three}
use Rattle.report_text.proofs.reading.cut_escape.Goals as goal

pub returns : goal.returns
returns c =
    let text = c.args.text.now in
    none_of_three text
    (strip_prefix_char 92 text None c.in_default.ensures.cases (lit< tt))
    (strip_prefix_char 110 text None c.in_default-strip_prefix.ensures.cases (lit< tt))
    (strip_prefix_char 114 text None c.in_default-strip_prefix-2.ensures.cases (lit< tt))
