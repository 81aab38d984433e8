use Rattle.std.proofs.Common.{◌≡◌, ◌+◌, ◌<◌, ◌∷◌, length, get_or, drop, sym, ap, ◌∙◌, arith, add-one, drop-cons}
use Rattle.dependency_index.specs.Numbers.{with_numbers}
use Rattle.log_index.specs.Marks.{places_behind}
use Rattle.log_index.proofs.BehindLemmas.{one_label}
use Rattle.log_index.proofs.behind.put_behind.Goals as goal

pub loop-label-preserved : goal.loop-label-preserved
loop-label-preserved c =
    let found = c.args.found.now in
    let i = c.loop-label.label-index in
    let lt : i < length found = omega arith in
    let labels = c.args.places.now.labels in
    let marks = c.loop-label.marks.items in
    let next : drop i found ≡ get_or found i 0 ∷ drop (i + 1) found = rw add-one (drop-cons found i 0 lt) in
    let more = c.put_one.ensures.spots in
    let room = c.loop-label.invariant.room in
    record {
      rest = ap (with_numbers (places_behind labels c.args.place (drop (i + 1) found))) c.put_one.ensures.items
          ∙ one_label labels (drop (i + 1) found) marks c.args.place (get_or found i 0)
          ∙ sym (ap (λ l. with_numbers (places_behind labels c.args.place l) marks) next) ∙ c.loop-label.invariant.rest;
      marks = c.put_one.ensures.marks;
      room = omega arith;
    }
