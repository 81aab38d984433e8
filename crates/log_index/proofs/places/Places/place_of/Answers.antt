use Rattle.std.proofs.Common.{◌≡◌, ◌∙◌, ◌<◌, sym, ap, subst, ℕ, List, length, nat_lt, rules, arith}
use Rattle.std.specs.List.{Contains}
use Rattle.place_order.specs.Labels.{place_in}
use Rattle.log_index.specs.Places.{KeptPlaces}
use Rattle.log_index.specs.Rows.{IsApart}
use Rattle.log_index.proofs.BehindLemmas.{known_place}
use Rattle.log_index.proofs.LabelLemmas.{parted_by_order, placed_by_order}
use Rattle.log_index.proofs.places.Places.place_of.Goals as goal

pub count_front-requires : goal.count_front-requires
count_front-requires c = λ x there.
    let seen = ap (λ (k : KeptPlaces). k.labels) c.self.view_is in
    let same = c.self.invariant.same in
    let P : List ℕ → Type 0 = λ l. Contains l x.now in
    let Q : List ℕ → Type 0 = λ l. Contains l c.args.label in
    let first : Contains c.self.inside.order.labels x.now = subst P (c.deref.ensures.value ∙ same) there in
    let second : Contains c.self.inside.order.labels c.args.label = subst Q (sym seen ∙ same) c.requires in
    search rules

pub returns-clause-place : goal.returns-clause-place
returns-clause-place c =
    let items = c.self.inside.labels.items in
    let order = c.self.inside.order.labels in
    let same = c.self.invariant.same in
    let apart = c.self.invariant.apart in
    let seen = ap (λ (k : KeptPlaces). k.labels) c.self.view_is in
    let shown = c.deref.ensures.value in
    let P : List ℕ → Type 0 = λ l. IsApart l in
    let Q : List ℕ → Type 0 = λ l. Contains l c.args.label in
    let place = place_in order c.args.label in
    let within : place < length c.deref.result.now =
    let known = (known_place order (subst P same apart) c.args.label (subst Q (sym seen ∙ same) c.requires)).1 in
    rw (shown, same) known in
    placed_by_order c.deref.result.now order (shown ∙ same) (subst P (sym shown) apart) place c.count_front.result within
    (c.count_front.ensures.parted (λ l. nat_lt (place_in order l) place) (λ x r there e. search rules)
    (parted_by_order c.deref.result.now order (shown ∙ same) (subst P (sym shown) apart) place))
    ∙ ap (λ o. place_in o c.args.label) (sym same ∙ seen)

pub returns-clause-within : goal.returns-clause-within
returns-clause-within c =
    let seen = ap (λ (k : KeptPlaces). k.labels) c.self.view_is in
    let P : List ℕ → Type 0 = λ l. IsApart l in
    let known = (known_place c.args.self.now.labels (subst P seen c.self.invariant.apart) c.args.label c.requires).1 in
    let is : c.count_front.result ≡ place_in c.args.self.now.labels c.args.label = returns-clause-place c in
    omega arith
