use Rattle.std.proofs.Common.{◌≡◌, ◌+◌, ◌++◌, List, ℕ, drop, refl, ◌∙◌, ap, arith}
use Rattle.std.proofs.lemmas.List.{take_rest}
use Rattle.store_disk.proofs.ReadLemmas.{reading_more}
use Rattle.store_disk.proofs.reader.Reader.more.Goals as goal

pub returns-clause-reading : goal.returns-clause-reading
returns-clause-reading g c = λ is reading.
    let old = c.args.self.now in
    let unread : c.in_ok-piece.piece.items ≡ drop old.start old.piece.items =
    c.in_ok-piece.ensures.items ∙ take_rest c.deref.result.now old.start ∙ ap (λ (l : List ℕ). drop old.start l) c.deref.ensures.value in
    let items : c.extend_from_slice.new.self.items ≡ drop old.start old.piece.items ++ c.in_ok-next.next.items =
    c.in_ok-extend_from_slice.ensures.items ∙ ap (λ (l : List ℕ). l ++ c.deref-2.result.now) unread ∙ ap (λ (l : List ℕ). drop old.start old.piece.items ++ l) c.deref-2.ensures.value in
    reading_more g.D.Disk.seen old _ c.in_ok-next.next.items (old.at + c.len.result) c.min.result reading c.read_piece.ensures.seen refl refl items
    (omega (arith, old.taken, old.piece.ok.0)) (omega (arith, c.len.ensures, old.piece.ok.0)) (c.in_ok-next.ensures.bytes is) c.in_ok-next.ensures.long
