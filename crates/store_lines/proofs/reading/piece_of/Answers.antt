use Rattle.std.proofs.Common.{◌≡◌, ◌∙◌, ap, sym}
use Rattle.store_lines.specs.Seals.{spelled, words}
use Rattle.store_lines.specs.declared.piece.Piece.{Piece}
use Rattle.store_lines.proofs.MarkLemmas.{spelled_words}
use Rattle.store_lines.proofs.reading.piece_of.Goals as goal

pub returns-else-branch-clause-wrong : goal.returns-else-branch-clause-wrong
returns-else-branch-clause-wrong c = λ piece fits is.
    let first = spelled_words c.args.at piece in
    let text : c.in_ok-text.text.items ≡ words piece = c.in_ok-text.ensures first.0 (words piece) (first.1 ∙ is) in
    let same : c.piece_with-piece.result ≡ piece = c.piece_with-piece.ensures c.args.at piece fits is (sym text) in
    c.in_ok-is_spelled.ensures.no c.if-branch.false (ap (λ (p : Piece). spelled c.args.at p) same ∙ is)
