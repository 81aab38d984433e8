use Rattle.std.proofs.Common.{[], ◌∷◌, length-append, arith}
use Rattle.call_registers.proofs.ChangeLemmas.{numbered_push}
use Rattle.call_registers.proofs.QueueLemmas.{queue_has_room, pushed}
use Rattle.call_registers.specs.Waiting.{fetch_key, waiting_key}
use Rattle.call_registers.proofs.register_list.push_in.Goals as goal

pub exchange-requires-clause-room_waiting : goal.exchange-requires-clause-room_waiting
exchange-requires-clause-room_waiting c =
    let room = queue_has_room waiting_key c.args.list.now.items c.args.queues.now.waiting c.args.register c.args.queues.now.places c.requires.listed.waiting c.requires.place in
    rw (c.keys_of-keys.ensures.waiting, c.no_keys.ensures.waiting) (omega arith)

pub exchange-requires-clause-room_fetched : goal.exchange-requires-clause-room_fetched
exchange-requires-clause-room_fetched c =
    let room = queue_has_room fetch_key c.args.list.now.items c.args.queues.now.fetched c.args.register c.args.queues.now.places c.requires.listed.fetched c.requires.place in
    rw (c.keys_of-keys.ensures.fetched, c.no_keys.ensures.fetched) (omega arith)

pub returns-clause-listed : goal.returns-clause-listed
returns-clause-listed c =
    let items = c.args.list.now.items in
    let waited = rw (c.no_keys.ensures.waiting, c.keys_of-keys.ensures.waiting) at c.exchange.ensures.waiting in
    let fetched = rw (c.no_keys.ensures.fetched, c.keys_of-keys.ensures.fetched) at c.exchange.ensures.fetched in
    let long = length-append items (c.args.register ∷ []) in
    rw c.push_reserved.ensures.items
    (record {
      numbered = numbered_push items c.args.register c.requires.listed.numbered c.requires.number;
      waiting = pushed waiting_key items c.args.queues.now.waiting c.exchange.new.self.waiting c.args.register c.requires.listed.waiting waited;
      fetched = pushed fetch_key items c.args.queues.now.fetched c.exchange.new.self.fetched c.args.register c.requires.listed.fetched fetched;
      fits = omega (arith, long, c.requires.place, c.exchange.ensures.places);
    })
