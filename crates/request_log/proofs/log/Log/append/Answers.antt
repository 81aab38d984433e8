use Rattle.std.proofs.Common.{◌≢◌, length, arith}
use Rattle.request_log.proofs.EntryLemmas.{log-append}
use Rattle.request_log.proofs.log.Log.append.Goals as goal

pub invariant_of-self-2 : goal.invariant_of-self-2
invariant_of-self-2 c =
    let room : length c.self.inside.items.items ≢ 100000 = λ full. grind (arith, full) in
    rw (c.in_ok-push.ensures.items, c.push-2.ensures.keys, c.push-3.ensures.keys, c.make_room.ensures.numbers, c.make_room.ensures.origins, c.origin_key-key.ensures, c.entry-own.ensures)
    (log-append c.self.inside.folded c.self.inside.items.items c.self.inside.numbers.keys c.self.inside.origins.keys c.args.self.now c.args.entry c.self.view_is room c.requires c.self.invariant)
