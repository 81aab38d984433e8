use Rattle.std.proofs.Common.{◌≢◌, length, arith}
use Rattle.request_log.proofs.EntryLemmas.{log-insert}
use Rattle.request_log.proofs.log.Log.insert.Goals as goal

pub invariant_of-self-2 : goal.invariant_of-self-2
invariant_of-self-2 c =
    let room : length c.self.inside.items.items ≢ 100000 = λ full. grind (arith, full) in
    rw (c.in_ok-insert.ensures.items, c.insert-2.ensures.keys, c.insert-3.ensures.keys, c.make_room.ensures.numbers, c.make_room.ensures.origins, c.origin_key-key.ensures, c.entry-own.ensures)
    (log-insert c.self.inside.folded c.self.inside.items.items c.self.inside.numbers.keys c.self.inside.origins.keys c.args.self.now c.args.at c.args.entry c.self.view_is c.requires.within room c.requires.is_new c.self.invariant)
