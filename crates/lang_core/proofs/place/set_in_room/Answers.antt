use Rattle.lang_core.proofs.PlaceLemmas.{set_at}
use Rattle.lang_core.proofs.place.set_in_room.Goals as goal

pub returns-clause-items : goal.returns-clause-items
returns-clause-items g c =
    let rank = rw c.deref.ensures.value at c.seek-at.ensures.rank in
    let taken = rw c.deref.ensures.value at c.seek-at.ensures.taken in
    let edited = rw c.unwrap.ensures at c.put_at.ensures.ok in
    set_at g.T.Placed.place c.args.item c.args.items.now.items c.put_at.new.items.items c.table.result.now c.key.result.now c.seek-at.result.0 c.seek-at.result.1
    c.table.ensures c.key.ensures rank taken edited
