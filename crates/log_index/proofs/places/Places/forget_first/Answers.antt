use Rattle.std.proofs.Common.{ℕ, List, length, drop, sym, ap, ◌∙◌, subst, arith}
use Rattle.log_index.specs.Places.{KeptPlaces}
use Rattle.log_index.specs.Rows.{IsApart}
use Rattle.log_index.proofs.LabelLemmas.{apart_drop}
use Rattle.log_index.proofs.places.Places.forget_first.Goals as goal

pub forget_first-requires : goal.forget_first-requires
forget_first-requires c =
    let seen = ap length (ap (λ (k : KeptPlaces). k.labels) c.self.view_is) in
    let same = ap length c.self.invariant.same in
    let within = c.requires in
    omega arith

pub drop_front-requires : goal.drop_front-requires
drop_front-requires c =
    let seen = ap length (ap (λ (k : KeptPlaces). k.labels) c.self.view_is) in
    let within = c.requires in
    omega arith

pub invariant_of-self : goal.invariant_of-self
invariant_of-self c =
    let n = c.args.n in
    let P : List ℕ → Type 0 = λ l. IsApart l in
    record {
      same = c.drop_front.ensures.items ∙ ap (drop n) c.self.invariant.same ∙ sym c.forget_first.ensures.labels;
      apart = subst P (sym c.drop_front.ensures.items) (apart_drop n c.self.inside.labels.items c.self.invariant.apart);
    }
