use Rattle.std.proofs.Common.{◌≡◌, ◌⊎◌, ◌+◌, ◌-◌, ◌<◌, ◌≤◌, List, ℕ, Ok, take, drop, get_or, length, sym, ◌∙◌, ap, arith, ⊎_elim}
use Rattle.std.proofs.lemmas.List.{get_or_read}
use Rattle.store_lines.specs.Lines.{IsText}
use Rattle.store_disk.proofs.ReadLemmas.{reader_empty, reader_ends, reader_line, reader_none}
use Rattle.store_disk.proofs.reader.Reader.next.Goals as goal
use Rattle.store_disk.proofs.reader.Reader.next.Goals.{then-n-eq0-via-then-n-eq0, then-n-eq0-via-else-n-eq0+then-index-eq0}

pub returns-in_default-clause-line : goal.returns-in_default-clause-line
returns-in_default-clause-line g c = λ is reading.
    let now = c.line_end.new.self in
    let le : now.start ≤ length now.piece.items = omega (arith, now.taken, now.piece.ok.0) in
    let none = c.line_end.ensures.none (c.in_ok-n.was ∙ ap Ok c.in_default.is) in
    reader_none g.D.Disk.seen c.args.self.now now (c.line_end.ensures.reading is reading) le c.line_end.ensures.seen c.line_end.ensures.place none.0 none.1

pub returns-then-n-eq0-clause-line : goal.returns-then-n-eq0-clause-line
returns-then-n-eq0-clause-line g c = λ is reading.
    let now = c.line_end.new.self in
    let n = c.in-Some.n in
    let le : now.start ≤ length now.piece.items = omega (arith, now.taken, now.piece.ok.0) in
    let within : now.start + n < length now.piece.items = rw c.in-Some.is at c.in_ok-n.ensures.within in
    let text : IsText (take n (drop now.start now.piece.items)) = rw c.in-Some.is at c.in_ok-n.ensures.front in
    let ends : (get_or now.piece.items (now.start + n) 0 ≡ 0) ⊎ (get_or now.piece.items (now.start + n) 0 ≡ 10) = rw c.in-Some.is at c.in_ok-n.ensures.ends in
    let there = c.line_end.ensures.reading is reading in
    elim c.then-n-eq0.branch [
      | then-n-eq0-via-then-n-eq0 w ↦ reader_empty g.D.Disk.seen c.args.self.now now there le c.line_end.ensures.seen c.line_end.ensures.place n w.if-n-eq0.true within ends text
      | then-n-eq0-via-else-n-eq0+then-index-eq0 w ↦
          reader_ends g.D.Disk.seen c.args.self.now now there le c.line_end.ensures.seen c.line_end.ensures.place n within text
          (sym (get_or_read now.piece.items (now.start + n) w.index.result.now within w.index.ensures 0) ∙ w.if-index-eq0.true)
    ]

pub returns-clause-line : goal.returns-clause-line
returns-clause-line g c = λ is reading.
    let now = c.line_end.new.self in
    let n = c.in-Some.n in
    let le : now.start ≤ length now.piece.items = omega (arith, now.taken, now.piece.ok.0) in
    let within : now.start + n < length now.piece.items = rw c.in-Some.is at c.in_ok-n.ensures.within in
    let text : IsText (take n (drop now.start now.piece.items)) = rw c.in-Some.is at c.in_ok-n.ensures.front in
    let ends : (get_or now.piece.items (now.start + n) 0 ≡ 0) ⊎ (get_or now.piece.items (now.start + n) 0 ≡ 10) = rw c.in-Some.is at c.in_ok-n.ensures.ends in
    let read : c.index.result.now ≡ get_or now.piece.items (now.start + n) 0 = get_or_read now.piece.items (now.start + n) c.index.result.now within c.index.ensures 0 in
    let ten : get_or now.piece.items (now.start + n) 0 ≡ 10 = ⊎_elim (λ zeros. absurd (c.if-index-eq0.false (read ∙ zeros))) (λ end. end) ends in
    let size : now.start + n - now.start ≡ n = omega arith in
    let line : c.new.result ≡ take n (drop now.start now.piece.items) =
    c.new.ensures ∙ c.in_ok-line.ensures.items ∙ ap (λ (k : ℕ). take k (drop now.start c.deref.result.now)) size ∙ ap (λ (l : List ℕ). take n (drop now.start l)) c.deref.ensures.value in
    reader_line g.D.Disk.seen c.args.self.now now (c.line_end.ensures.reading is reading) le c.line_end.ensures.seen c.line_end.ensures.place c.new.result n within text ten (omega (arith, c.if-n-eq0.false)) line
