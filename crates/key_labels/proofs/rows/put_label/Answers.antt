use Rattle.std.proofs.Common.{◌≡◌, ℕ, List, ◌∷◌, ◌++◌, Some, not, length, filter, take, drop, sym, ap, ◌∙◌, subst, arith}
use Rattle.std.proofs.lemmas.List.{map-id}
use Rattle.place_order.specs.Rising.{is_before}
use Rattle.key_labels.specs.Rows.{IsEdited}
use Rattle.key_labels.specs.Labels.{with_label}
use Rattle.key_labels.proofs.RisingLemmas.{filter_rest}
use Rattle.key_labels.proofs.rows.put_label.Goals as goal

pub count_before-n-requires-clause-rising : goal.count_before-n-requires-clause-rising
count_before-n-requires-clause-rising c = rw (map-id, c.labels_near.ensures) c.requires.rising

pub insert_label-requires-clause-within : goal.insert_label-requires-clause-within
insert_label-requires-clause-within c =
    let le = c.count_before-n.ensures.within in
    let long = ap length c.labels_near.ensures in
    omega (arith, le, long)

pub returns-clause-edited : goal.returns-clause-edited
returns-clause-edited c =
    let rows = c.args.rows.now.items in
    let t = c.args.table.now in
    let k = c.args.key.now in
    let seen = c.labels_near.result.now in
    let n = c.count_before-n.result in
    let order = c.args.order.now.labels in
    let label = c.args.label in
    let front : filter (is_before order (Some label)) seen ≡ take n seen = c.count_before-n.ensures.count in
    let rest : filter (λ y. not (is_before order (Some label) y)) seen ≡ drop n seen =
    filter_rest (is_before order (Some label)) seen n c.count_before-n.ensures.within c.count_before-n.ensures.front c.count_before-n.ensures.rest in
    let all : take n seen ++ label ∷ drop n seen ≡ with_label order label seen =
    sym (ap (λ f. f ++ label ∷ drop n seen) front) ∙ sym (ap (λ r. filter (is_before order (Some label)) seen ++ label ∷ r) rest) in
    let P : List ℕ → Type 0 = λ l. take n l ++ label ∷ drop n l ≡ with_label order label l in
    let Q : List ℕ → Type 0 = λ l. IsEdited t k l rows c.insert_label.new.rows.items in
    subst Q (subst P c.labels_near.ensures all) c.insert_label.ensures.edited
