use Rattle.std.proofs.Common.{◌≡◌, ◌∙◌, sym, ap, false}
use Rattle.script_lines.specs.Lines.{cut_at, is_passed_over}
use Rattle.script_lines.proofs.Outcomes.{line_at-passed, line_at-no_text, line_at-words}
use Rattle.script_lines.proofs.read.read_line.Goals as goal

pub returns-then-is_passed_over : goal.returns-then-is_passed_over
returns-then-is_passed_over c = sym (line_at-passed _ (sym c.is_passed_over.ensures ∙ c.if-is_passed_over.true))

pub returns-in_default : goal.returns-in_default
returns-in_default c = sym (line_at-no_text _ (sym c.is_passed_over.ensures ∙ c.if-is_passed_over.false) c.in_default.ensures.cases.0)

pub returns : goal.returns
returns c =
    let over : is_passed_over c.args.line.now ≡ false = sym c.is_passed_over.ensures ∙ c.if-is_passed_over.false in
    let e = line_at-words c.args.line.now over c.in-Ok.ensures.cases.1 in
    let cut = c.cut_word.ensures ∙ ap (cut_at 32) c.in-Ok.ensures.cases.0 in
    rw (e, ← ap (λ p. p.0) cut, ← ap (λ p. p.1) cut) c.read_words.ensures
