use Rattle.std.proofs.Common.{◌≡◌, sym, ap}
use Rattle.place_order.proofs.TagLemmas.{same_order}
use Rattle.place_order.proofs.order.Order.compare.Goals as goal

pub returns : goal.returns
returns c =
    let same : c.args.self.now.labels ≡ c.self.inside.labels.items = sym (ap (λ k. k.labels) c.self.view_is) in
    rw (c.cmp.ensures, c.tag_of.ensures, c.tag_of-2.ensures, c.deref-2.ensures.value, c.deref-4.ensures.value, same)
    (same_order c.self.inside.labels.items c.self.inside.tags.items c.self.invariant.0 c.args.a c.args.b (rw same at c.requires.first) (rw same at c.requires.second))
