use Rattle.std.proofs.Common.{◌≡◌, ◌+◌, ◌<◌, ◌≤◌, Bool, true, false, cond, ℕ, List, length, map, sym, ap, ◌∙◌, subst, arith}
use Rattle.std.specs.List.{filter, list_any}
use Rattle.key_labels.specs.Labels.{is_other}
use Rattle.dependency_index.specs.Numbers.{Rises, with_number}
use Rattle.dependency_index.specs.Reads.{is_at, label_of, labels_with}
use Rattle.dependency_index.specs.Rows.{labels_by, spare_by}
use Rattle.dependency_index.specs.declared.noted.Noted.{Noted}
use Rattle.dependency_index.proofs.NumberLemmas.{one_longer, rises_kept}
use Rattle.dependency_index.proofs.IndexLemmas.{labels_rise, noted_anew, noted_rise}
use Rattle.dependency_index.proofs.index.note.Goals as goal

fits_by : (n : ℕ) (l : List ℕ) (before now : ℕ) → 0 < before → before ≤ now → length (with_number n l) ≤ length l + now
fits_by n l before now some more = let long = one_longer n l in omega arith

left_by : (b : Bool) (n : ℕ) (old new : List ℕ) (before between after : ℕ) → new ≡ cond b (with_number n old) old → length old + between ≤ length new + after → before ≤ between → before ≤ after + cond b 1 0
left_by true n old new before between after h places le = let e = ap length h in let long = one_longer n old in omega arith
left_by false n old new before between after h places le = let e = ap length h in omega arith

pub put_labels-requires-clause-rising : goal.put_labels-requires-clause-rising
put_labels-requires-clause-rising c = λ kind t k.
    let P : List ℕ → Type 0 = λ l. Rises l in
    let e : labels_by c.drop_noted.new.rows kind t k ≡ filter (is_other c.args.own.label) (labels_with (is_at kind t k) c.args.noted.now.items) =
    c.drop_noted.ensures.each kind t k ∙ ap (filter (is_other c.args.own.label)) (c.requires.indexed.each kind t k) in
    subst P (sym e) (rises_kept (is_other c.args.own.label) (labels_with (is_at kind t k) c.args.noted.now.items) (labels_rise (is_at kind t k) c.args.noted.now.items c.requires.indexed.rising))

pub put_labels-requires-clause-fits : goal.put_labels-requires-clause-fits
put_labels-requires-clause-fits c = λ kind t k h.
    let noted : list_any (is_at kind t k) c.args.own.reads ≡ true = ap (list_any (is_at kind t k)) (sym c.as_slice.ensures) ∙ h in
    fits_by c.args.own.label (labels_by c.drop_noted.new.rows kind t k) (spare_by c.args.rows.now kind t k) (spare_by c.drop_noted.new.rows kind t k) (c.requires.spare kind t k noted) (c.drop_noted.ensures.spare kind t k)

pub returns-clause-indexed : goal.returns-clause-indexed
returns-clause-indexed c =
    let own : Noted = c.args.own in
    let ns = c.args.noted.now.items in
    let each = rw c.as_slice.ensures at c.put_labels.ensures.each in
    let P : List Noted → Type 0 = λ l. Rises (map label_of l) in
    record {
      rising = subst P (sym c.set_noted.ensures.noted) (noted_rise own ns c.requires.indexed.rising);
      ordered = c.put_labels.ensures.ordered;
      each = λ kind t k.
          let test = is_at kind t k in
          let e : labels_by c.drop_noted.new.rows kind t k ≡ filter (is_other own.label) (labels_with test ns) = c.drop_noted.ensures.each kind t k ∙ ap (filter (is_other own.label)) (c.requires.indexed.each kind t k) in
          each kind t k ∙ ap (λ l. cond (list_any test own.reads) (with_number own.label l) l) e
          ∙ sym (ap (labels_with test) c.set_noted.ensures.noted ∙ noted_anew test own ns c.requires.indexed.rising);
    }

pub returns-clause-spare : goal.returns-clause-spare
returns-clause-spare c = λ kind t k.
    let each = rw c.as_slice.ensures at c.put_labels.ensures.each in
    left_by (list_any (is_at kind t k) c.args.own.reads) c.args.own.label (labels_by c.drop_noted.new.rows kind t k) (labels_by c.put_labels.new.rows kind t k)
    (spare_by c.args.rows.now kind t k) (spare_by c.drop_noted.new.rows kind t k) (spare_by c.put_labels.new.rows kind t k) (each kind t k) (c.put_labels.ensures.places kind t k) (c.drop_noted.ensures.spare kind t k)
