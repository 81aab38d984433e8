use Rattle.std.proofs.Common.{◌≡◌, ℕ, List, Some, position, nat_eq, sym, ap, ◌∙◌, subst, arith}
use Rattle.std.specs.List.{remove}
use Rattle.std.proofs.lemmas.List.{map-id}
use Rattle.key_labels.specs.Labels.{IsApart}
use Rattle.key_labels.proofs.ApartLemmas.{not_there, position_is, removed, rising_apart}
use Rattle.key_labels.proofs.rows.KeyLabels.drop_in.Goals as goal

pub position_in-requires-clause-rising : goal.position_in-requires-clause-rising
position_in-requires-clause-rising c = rw (map-id, c.labels.ensures) c.requires.rising

pub returns-in-None-clause-labels : goal.returns-in-None-clause-labels
returns-in-None-clause-labels c =
    let found = rw c.labels.ensures at (sym c.position_in.ensures ∙ c.in-None.is) in
    not_there (λ x. x) c.args.label c.args.self.now.labels.items found

pub returns-in-Some-clause-labels : goal.returns-in-Some-clause-labels
returns-in-Some-clause-labels c =
    let xs = c.args.self.now.labels.items in
    let found : position (λ x. nat_eq x c.args.label) xs ≡ Some c.in-Some.at = rw c.labels.ensures at (sym c.position_in.ensures ∙ c.in-Some.is) in
    let P : List ℕ → Type 0 = λ l. IsApart l in
    c.remove.ensures.items
    ∙ ap (remove xs) (position_is (λ x. nat_eq x c.args.label) xs c.in-Some.at found).0
    ∙ removed (λ x. x) c.args.label xs (subst P (sym (map-id xs)) (rising_apart c.args.order.now.labels xs c.requires.rising))

pub remove-requires : goal.remove-requires
remove-requires c =
    let xs = c.args.self.now.labels.items in
    let found : position (λ x. nat_eq x c.args.label) xs ≡ Some c.in-Some.at = rw c.labels.ensures at (sym c.position_in.ensures ∙ c.in-Some.is) in
    let within = (position_is (λ x. nat_eq x c.args.label) xs c.in-Some.at found).1 in
    omega arith
