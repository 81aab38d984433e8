use Rattle.std.proofs.Common.{arith}
use Rattle.std.proofs.lemmas.List.{length-set}
use Rattle.call_registers.proofs.OverlayLemmas.{numbered_put, put_none, put_set}
use Rattle.call_registers.proofs.QueueLemmas.{key_room, key_there, replaced}
use Rattle.call_registers.specs.Waiting.{fetch_key, waiting_key}
use Rattle.call_registers.proofs.register_list.put_in.Goals as goal

pub exchange-requires-clause-there_waiting : goal.exchange-requires-clause-there_waiting
exchange-requires-clause-there_waiting c =
    let within = rw c.deref-then-is_there.ensures.value at c.place_of-place.ensures.within in
    rw c.keys_of-before.ensures.waiting
    (key_there waiting_key c.args.list.now.items c.args.queues.now.waiting c.requires.waiting c.place_of-place.result c.index.result.now within c.index.ensures)

pub exchange-requires-clause-there_fetched : goal.exchange-requires-clause-there_fetched
exchange-requires-clause-there_fetched c =
    let within = rw c.deref-then-is_there.ensures.value at c.place_of-place.ensures.within in
    rw c.keys_of-before.ensures.fetched
    (key_there fetch_key c.args.list.now.items c.args.queues.now.fetched c.requires.fetched c.place_of-place.result c.index.result.now within c.index.ensures)

pub exchange-requires-clause-room_waiting : goal.exchange-requires-clause-room_waiting
exchange-requires-clause-room_waiting c =
    let within = rw c.deref-then-is_there.ensures.value at c.place_of-place.ensures.within in
    let room = key_room waiting_key c.args.list.now.items c.args.queues.now.waiting c.requires.waiting c.place_of-place.result c.index.result.now within c.index.ensures c.args.register in
    let fits = c.requires.fits in
    rw (c.keys_of-before.ensures.waiting, c.keys_of-after.ensures.waiting) (omega arith)

pub exchange-requires-clause-room_fetched : goal.exchange-requires-clause-room_fetched
exchange-requires-clause-room_fetched c =
    let within = rw c.deref-then-is_there.ensures.value at c.place_of-place.ensures.within in
    let room = key_room fetch_key c.args.list.now.items c.args.queues.now.fetched c.requires.fetched c.place_of-place.result c.index.result.now within c.index.ensures c.args.register in
    let fits = c.requires.fits in
    rw (c.keys_of-before.ensures.fetched, c.keys_of-after.ensures.fetched) (omega arith)

pub returns-then-is_there-clause-items : goal.returns-then-is_there-clause-items
returns-then-is_there-clause-items c =
    put_set c.args.list.now.items c.place_of-place.result c.args.register c.requires.numbered c.place_of-place.ensures.place

pub returns-then-is_there-clause-listed : goal.returns-then-is_there-clause-listed
returns-then-is_there-clause-listed c =
    let items = c.args.list.now.items in
    let place = c.place_of-place.result in
    let within = rw c.deref-then-is_there.ensures.value at c.place_of-place.ensures.within in
    let waited = rw (c.keys_of-before.ensures.waiting, c.keys_of-after.ensures.waiting) at c.exchange.ensures.waiting in
    let fetched = rw (c.keys_of-before.ensures.fetched, c.keys_of-after.ensures.fetched) at c.exchange.ensures.fetched in
    let same = length-set items place c.args.register in
    record {
      numbered = numbered_put items place c.args.register c.requires.numbered c.place_of-place.ensures.place;
      waiting = replaced waiting_key items c.args.queues.now.waiting c.requires.waiting place c.index.result.now within c.index.ensures c.args.register c.exchange.new.self.waiting waited;
      fetched = replaced fetch_key items c.args.queues.now.fetched c.requires.fetched place c.index.result.now within c.index.ensures c.args.register c.exchange.new.self.fetched fetched;
      fits = omega (arith, same, c.requires.fits, c.exchange.ensures.places);
    }

pub returns-else-is_there-clause-items : goal.returns-else-is_there-clause-items
returns-else-is_there-clause-items c =
    put_none c.args.list.now.items c.deref.result.now c.args.register c.is_there.result c.deref.ensures.value c.is_there.ensures c.if-is_there.false
