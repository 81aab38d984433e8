use Rattle.std.proofs.Common.{◌∙◌, ap, map}
use Rattle.std.proofs.lemmas.Result.{IfOk-weaker}
use Rattle.dump_audit.specs.Histories.{histories_of}
use Rattle.one_order.specs.Pairs.{pair_in}
use Rattle.one_order.specs.Roots.{rooted, rooted_at, sought_of}
use Rattle.one_order.proofs.RootLaws.{rooted_places}
use Rattle.one_order.proofs.pairs.pair_left.Goals as goal

pub returns : goal.returns
returns c =
    let world = histories_of c.args.world.now in
    let left = ap (map (rooted_at world)) c.as_slice.ensures.value ∙ rooted_places world c.in_ok-places.places.items ∙ ap (map (rooted world)) c.in_ok-places.ensures in
    IfOk-weaker c.pair_in.result _ _ (λ found is. is ∙ ap (pair_in (sought_of c.args.sought.now)) left) c.pair_in.ensures
