use Rattle.std.proofs.Common.{◌≡◌, ◌+◌, ◌<◌, ◌∷◌, List, ℕ, length, get_or, drop, sym, ap, ◌∙◌, subst, arith, add-one, drop-cons}
use Rattle.dependency_index.specs.Numbers.{Rises, with_number, with_numbers}
use Rattle.dependency_index.proofs.NumberLemmas.{rises_put}
use Rattle.dependency_index.proofs.index.put_all.Goals as goal

pub loop-label-preserved : goal.loop-label-preserved
loop-label-preserved c =
    let labels = c.args.labels.now in
    let i = c.loop-label.label-index in
    let lt : i < length labels = omega arith in
    let found = c.loop-label.found.items in
    let put : c.put_number.new.numbers.items ≡ with_number (get_or labels i 0) found = c.in_ok-put_number.ensures.ok in
    let P : List ℕ → Type 0 = λ l. Rises l in
    let next : drop i labels ≡ get_or labels i 0 ∷ drop (i + 1) labels = rw add-one (drop-cons labels i 0 lt) in
    record {
      rising = subst P (sym put) (rises_put (get_or labels i 0) found c.loop-label.invariant.rising);
      rest = ap (with_numbers (drop (i + 1) labels)) put ∙ sym (ap (λ l. with_numbers l found) next) ∙ c.loop-label.invariant.rest;
    }
