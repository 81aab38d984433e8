use Rattle.std.proofs.Common.{◌≡◌, ◌++◌, ◌∙◌, sym}
use Rattle.std.specs.Prelude.{decimal}
use Rattle.std.proofs.lemmas.Bool.Decides.{Decides-eqb}
use Rattle.std.proofs.lemmas.List.{append_cancel_left}
use Rattle.std.proofs.lemmas.Slice.Eq.{strip_prefix_is}
use Rattle.store_lines.proofs.reading.number_behind.Goals as goal

pub returns-in-Some-clause-number : goal.returns-in-Some-clause-number
returns-in-Some-clause-number c = λ n small is.
    let text = c.args.text.now in
    let word = c.args.word.now in
    let split : text ≡ word ++ c.in-Some.digits.now = rw c.in-Some.is at (strip_prefix_is Decides-eqb text word c.strip_prefix.result c.strip_prefix.ensures.cases) in
    c.number_of.ensures n small (append_cancel_left word c.in-Some.digits.now (decimal n) (sym split ∙ is))

pub returns-in-Some-clause-other : goal.returns-in-Some-clause-other
returns-in-Some-clause-other c = λ none.
    let text = c.args.text.now in
    let word = c.args.word.now in
    let split : text ≡ word ++ c.in-Some.digits.now = rw c.in-Some.is at (strip_prefix_is Decides-eqb text word c.strip_prefix.result c.strip_prefix.ensures.cases) in
    absurd (none c.in-Some.digits.now split)

pub returns-in-None-clause-number : goal.returns-in-None-clause-number
returns-in-None-clause-number c = λ n small is.
    let text = c.args.text.now in
    let word = c.args.word.now in
    let none = rw c.in-None.is at (strip_prefix_is Decides-eqb text word c.strip_prefix.result c.strip_prefix.ensures.cases) in
    absurd (none (decimal n) is)
