use Rattle.std.proofs.Common.{None, lit<}
use Rattle.std.proofs.lemmas.Str.Pattern.{strip_prefix_char}
use Rattle.dump_words.proofs.KeyEscapes.{none_of_key, none_of_text}
use Rattle.dump_words.proofs.escapes.cut_escape.Goals as goal

pub returns-then-not-in_key : goal.returns-then-not-in_key
returns-then-not-in_key c =
    let text = c.args.text.now in
    none_of_text c.args.in_key text c.if-not-in_key.true
    (strip_prefix_char 92 text None c.in_default.ensures.cases (lit< tt))
    (strip_prefix_char 110 text None c.in_default-strip_prefix.ensures.cases (lit< tt))
    (strip_prefix_char 114 text None c.in_default-strip_prefix-2.ensures.cases (lit< tt))

pub returns : goal.returns
returns c =
    let text = c.args.text.now in
    none_of_key c.args.in_key text c.if-not-in_key.false
    (strip_prefix_char 92 text None c.in_default.ensures.cases (lit< tt))
    (strip_prefix_char 110 text None c.in_default-strip_prefix.ensures.cases (lit< tt))
    (strip_prefix_char 114 text None c.in_default-strip_prefix-2.ensures.cases (lit< tt))
    (strip_prefix_char 115 text None c.in_default-strip_prefix-3.ensures.cases (lit< tt))
