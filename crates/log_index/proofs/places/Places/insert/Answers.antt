use Rattle.std.proofs.Common.{◌≡◌, ℕ, List, sym, ap, ◌∙◌, subst, arith}
use Rattle.std.specs.List.{insert}
use Rattle.dependency_index.proofs.HandedOn.{ok_is}
use Rattle.place_order.specs.Labels.{IsNew}
use Rattle.log_index.specs.Rows.{IsApart}
use Rattle.log_index.proofs.LabelLemmas.{apart_insert}
use Rattle.log_index.specs.Places.{KeptPlaces}
use Rattle.log_index.proofs.places.Places.insert.Goals as goal

-- the list has the label at its place
inserted : (c : goal.After-insert) → c.insert.new.self.items ≡ insert c.self.inside.labels.items c.args.place c.new_label-label.result
inserted c =
    let spare = ap (λ (k : KeptPlaces). k.spare) c.self.view_is in
    let some = c.requires.ready.spare in
    ok_is c.insert.result _ _ _ (c.insert.ensures.succeeds (omega arith)) c.insert.ensures.items

pub invariant_of-self : goal.invariant_of-self
invariant_of-self c =
    let labels = c.self.inside.labels.items in
    let P : List ℕ → Type 0 = λ l. IsApart l in
    let N : List ℕ → Type 0 = λ l. IsNew c.new_label-label.result l in
    record {
      same = inserted c ∙ sym (c.new_label-label.ensures.labels ∙ ap (λ l. insert l c.args.place c.new_label-label.result) c.deref.ensures.value);
      apart = subst P (sym (inserted c)) (apart_insert labels c.args.place c.new_label-label.result (subst N c.deref.ensures.value c.new_label-label.ensures.is_new) c.self.invariant.apart);
    }

pub returns-clause-labels : goal.returns-clause-labels
returns-clause-labels c = inserted c ∙ ap (λ (k : KeptPlaces). insert k.labels c.args.place c.new_label-label.result) c.self.view_is

pub returns-clause-is_new : goal.returns-clause-is_new
returns-clause-is_new c =
    let N : List ℕ → Type 0 = λ l. IsNew c.new_label-label.result l in
    subst N (c.deref.ensures.value ∙ ap (λ (k : KeptPlaces). k.labels) c.self.view_is) c.new_label-label.ensures.is_new
