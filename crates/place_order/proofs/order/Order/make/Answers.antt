use Rattle.std.proofs.Common.{◌≡◌, ℕ, List, sym, ap, ◌∙◌, subst}
use Rattle.std.specs.List.{insert}
use Rattle.place_order.specs.Labels.{IsNew}
use Rattle.place_order.specs.Rising.{IsRising}
use Rattle.place_order.proofs.RiseLemmas.{rising_still}
use Rattle.place_order.proofs.order.Order.make.Goals as goal

pub returns-clause-rising : goal.returns-clause-rising
returns-clause-rising c = λ labels rises.
    let items = c.self.inside.labels.items in
    let made = c.put_label.result in
    let same : c.args.self.now.labels ≡ items = sym (ap (λ v. v.labels) c.self.view_is) in
    let taken : c.take_places.new.labels.items ≡ items = c.take_places.ensures.labels in
    let put : c.put_label.new.labels.items ≡ insert items c.args.at made = c.put_label.ensures.labels ∙ ap (λ l. insert l c.args.at made) taken in
    let New : List ℕ → Type 0 = λ l. IsNew made l in
    let Rise : List ℕ → Type 0 = λ l. IsRising l labels in
    subst Rise (sym put) (rising_still items c.args.at made (subst New taken c.put_label.ensures.fresh) labels (subst Rise same rises))
