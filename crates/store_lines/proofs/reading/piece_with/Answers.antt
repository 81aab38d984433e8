use Rattle.std.proofs.Common.{◌∙◌, ap, sym, List, ℕ}
use Rattle.std.proofs.lemmas.Option.{none-some, same_Some}
use Rattle.store_lines.specs.declared.piece.Piece.TheVariants.{Text}
use Rattle.store_lines.proofs.MarkLemmas.{great_is_mark, small_is_text}
use Rattle.store_lines.proofs.reading.piece_with.Goals as goal

pub returns-then-ends_small : goal.returns-then-ends_small
returns-then-ends_small c = λ at piece fits is has.
    ap (λ (l : List ℕ). Text l) c.new.ensures ∙ small_is_text at piece c.args.line.now c.args.text.items (sym c.ends_small.ensures ∙ c.if-ends_small.true) is has

pub returns-in-Some : goal.returns-in-Some
returns-in-Some c = λ at piece fits is has.
    let mark = great_is_mark at piece c.args.line.now (sym c.ends_small.ensures ∙ c.if-ends_small.false) is in
    same_Some _ piece (sym c.in-Some.is ∙ c.mark_with.ensures piece mark fits (has ∙ sym c.deref.ensures.value))

pub returns-in-None : goal.returns-in-None
returns-in-None c = λ at piece fits is has.
    let mark = great_is_mark at piece c.args.line.now (sym c.ends_small.ensures ∙ c.if-ends_small.false) is in
    absurd (none-some piece (sym c.in-None.is ∙ c.mark_with.ensures piece mark fits (has ∙ sym c.deref.ensures.value)))
