use Rattle.lang_core.proofs.PlaceLemmas.{ordered-set}
use Rattle.lang_core.proofs.place.ByPlace.set.Goals as goal

pub invariant_of-self-2 : goal.invariant_of-self-2
invariant_of-self-2 g c =
    rw (c.set_in_room.ensures.items, c.make_place.ensures.items) (ordered-set g.T.Placed.place c.args.item c.self.inside.items.items c.self.invariant)
