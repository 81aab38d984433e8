use Rattle.std.proofs.Common.{◌≡◌, ◌<◌, ℕ, true, false, length, get_or, refl, ap, inl, inr, arith}
use Rattle.std.proofs.lemmas.Bool.{cases_lt}
use Rattle.std.proofs.lemmas.List.Elements.{All-get_or}
use Rattle.local_repair.specs.Held.{IsCurrentAt}
use Rattle.local_repair.proofs.MarkingLemmas.{marked_below, marked_in}
use Rattle.local_repair.proofs.StaleLemmas.{current_here, stale_here}
use Rattle.local_repair.proofs.WrittenLemmas.{seen_before}
use Rattle.local_repair.proofs.current.place_of_marked.Goals as goal

pub loop-mark-preserved : goal.loop-mark-preserved
loop-mark-preserved g c = λ j lt.
    let consumed = g.S.Slots.consumed_of c.args.slots.now in
    let es = c.args.entries.now in
    let marks = c.args.marks.now in
    let i = c.loop-mark.mark-index in
    let place = get_or marks i 0 in
    let P : ℕ → Type 0 = λ k. k < length es in
    let inside : i < length marks = omega arith in
    let within : place < length es = All-get_or P marks i 0 inside c.requires.marks.within in
    elim (cases_lt j i) [
      | inl less ↦ c.loop-mark.invariant j less
      | inr more ↦ (let same : j ≡ i = omega arith in
          current_here consumed c.args.rows.now.base es (get_or marks j 0) place c.index-entries-place.result _ within c.index-entries-place.is (seen_before c.args.rows.now es place c.requires.tied)
          ((rw c.entry.ensures at c.if-not-is_current.ensures).0 refl) (ap (λ n. get_or marks n 0) same))
    ]

pub returns-then-not-is_current : goal.returns-then-not-is_current
returns-then-not-is_current g c =
    let consumed = g.S.Slots.consumed_of c.args.slots.now in
    let es = c.args.entries.now in
    let marks = c.args.marks.now in
    let i = c.loop-mark.mark-index in
    let place = get_or marks i 0 in
    let P : ℕ → Type 0 = λ k. k < length es in
    let inside : i < length marks = omega arith in
    let within : place < length es = All-get_or P marks i 0 inside c.requires.marks.within in
    record {
      within = within;
      before = λ q lt told.
          marked_below (IsCurrentAt consumed c.args.rows.now.base es) marks i q c.requires.marks.rising inside lt told c.loop-mark.invariant;
      stale = stale_here consumed c.args.rows.now.base es place c.index-entries-place.result _ within c.index-entries-place.is (seen_before c.args.rows.now es place c.requires.tied)
          (λ current. let never : false ≡ true = (rw c.entry.ensures at c.if-not-is_current.ensures).1 current in cc);
    }

pub returns : goal.returns
returns g c = λ q lt told. marked_in (IsCurrentAt (g.S.Slots.consumed_of c.args.slots.now) c.args.rows.now.base c.args.entries.now) c.args.marks.now q told (λ j less. c.loop-mark.invariant j (omega arith))
