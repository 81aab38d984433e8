use Rattle.std.proofs.Common.{arith}
use Rattle.std.proofs.lemmas.List.{length-set}
use Rattle.call_registers.proofs.ChangeLemmas.{change_set, numbered_set, number_stays}
use Rattle.call_registers.proofs.QueueLemmas.{key_room, key_there, replaced}
use Rattle.call_registers.specs.Waiting.{fetch_key, waiting_key}
use Rattle.call_registers.specs.Registers.{changed}
use Rattle.call_registers.proofs.register_list.change_in.Goals as goal

pub exchange-requires-clause-there_waiting : goal.exchange-requires-clause-there_waiting
exchange-requires-clause-there_waiting c =
    let within = rw c.deref.ensures.value at c.place_of-place.ensures.within in
    rw c.change_keys.ensures.waiting_before
    (key_there waiting_key c.args.list.now.items c.args.queues.now.waiting c.requires.listed.waiting c.place_of-place.result c.index_mut.result.now within c.index_mut.ensures.value)

pub exchange-requires-clause-there_fetched : goal.exchange-requires-clause-there_fetched
exchange-requires-clause-there_fetched c =
    let within = rw c.deref.ensures.value at c.place_of-place.ensures.within in
    rw c.change_keys.ensures.fetched_before
    (key_there fetch_key c.args.list.now.items c.args.queues.now.fetched c.requires.listed.fetched c.place_of-place.result c.index_mut.result.now within c.index_mut.ensures.value)

pub exchange-requires-clause-room_waiting : goal.exchange-requires-clause-room_waiting
exchange-requires-clause-room_waiting c =
    let within = rw c.deref.ensures.value at c.place_of-place.ensures.within in
    let room = key_room waiting_key c.args.list.now.items c.args.queues.now.waiting c.requires.listed.waiting c.place_of-place.result c.index_mut.result.now within c.index_mut.ensures.value c.change_keys.new.register in
    let fits = c.requires.listed.fits in
    rw (c.change_keys.ensures.waiting_before, c.change_keys.ensures.waiting_after) (omega arith)

pub exchange-requires-clause-room_fetched : goal.exchange-requires-clause-room_fetched
exchange-requires-clause-room_fetched c =
    let within = rw c.deref.ensures.value at c.place_of-place.ensures.within in
    let room = key_room fetch_key c.args.list.now.items c.args.queues.now.fetched c.requires.listed.fetched c.place_of-place.result c.index_mut.result.now within c.index_mut.ensures.value c.change_keys.new.register in
    let fits = c.requires.listed.fits in
    rw (c.change_keys.ensures.fetched_before, c.change_keys.ensures.fetched_after) (omega arith)

pub returns-clause-items : goal.returns-clause-items
returns-clause-items c =
    rw c.change_keys.ensures.register
    (change_set c.args.list.now.items c.args.number c.place_of-place.result (changed c.args.change) c.index_mut.result.now c.requires.listed.numbered c.place_of-place.ensures.place c.index_mut.ensures.value)

pub returns-clause-listed : goal.returns-clause-listed
returns-clause-listed c =
    let items = c.args.list.now.items in
    let place = c.place_of-place.result in
    let old = c.index_mut.result.now in
    let new = c.change_keys.new.register in
    let within = rw c.deref.ensures.value at c.place_of-place.ensures.within in
    let waited = rw (c.change_keys.ensures.waiting_before, c.change_keys.ensures.waiting_after) at c.exchange.ensures.waiting in
    let fetched = rw (c.change_keys.ensures.fetched_before, c.change_keys.ensures.fetched_after) at c.exchange.ensures.fetched in
    let same = length-set items place new in
    record {
      numbered = rw c.change_keys.ensures.register (numbered_set items place old (changed c.args.change old) c.requires.listed.numbered c.index_mut.ensures.value (number_stays c.args.change old));
      waiting = replaced waiting_key items c.args.queues.now.waiting c.requires.listed.waiting place old within c.index_mut.ensures.value new c.exchange.new.self.waiting waited;
      fetched = replaced fetch_key items c.args.queues.now.fetched c.requires.listed.fetched place old within c.index_mut.ensures.value new c.exchange.new.self.fetched fetched;
      fits = omega (arith, same, c.requires.listed.fits, c.exchange.ensures.places);
    }
