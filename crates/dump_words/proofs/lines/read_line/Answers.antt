use Rattle.std.proofs.Common.{◌∙◌, sym, ap}
use Rattle.dump_words.specs.Parts.{cut_at}
use Rattle.dump_words.proofs.Outcomes.{line_at-no_text, line_at-words}
use Rattle.dump_words.proofs.lines.read_line.Goals as goal

pub returns-in_default : goal.returns-in_default
returns-in_default c = sym (line_at-no_text _ c.in_default.ensures.cases.0)

pub returns : goal.returns
returns c =
    let e = line_at-words c.args.line.now c.in-Ok.ensures.cases.1 in
    let cut = c.cut_word.ensures ∙ ap (cut_at 32) c.in-Ok.ensures.cases.0 in
    rw (e, ← ap (λ p. p.0) cut, ← ap (λ p. p.1) cut) c.read_words.ensures
