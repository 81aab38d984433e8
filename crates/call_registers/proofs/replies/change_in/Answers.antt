use Rattle.std.proofs.Common.{List, subst, arith}
use Rattle.lang_lists.specs.Numbers.{IsAt, IsMissing}
use Rattle.call_registers.proofs.QueueLemmas.{key_room, key_there, replaced}
use Rattle.call_registers.proofs.ReplyLemmas.{numbers_rise, not_there, change_placed, rising_set, entry_stays}
use Rattle.call_registers.specs.Replies.{changed, due_key}
use Rattle.call_registers.specs.declared.reply.Reply.{Reply}
use Rattle.call_registers.proofs.replies.change_in.Goals as goal

pub search_number-requires : goal.search_number-requires
search_number-requires c = rw c.deref.ensures.value (numbers_rise c.args.list.now.items c.requires.rising)

pub exchange-requires-clause-there : goal.exchange-requires-clause-there
exchange-requires-clause-there c =
    let items = c.args.list.now.items in
    let at : IsAt (λ (p : Reply). p.id) c.args.id items c.in-Ok.place = subst (λ (l : List Reply). IsAt (λ (p : Reply). p.id) c.args.id l c.in-Ok.place) c.deref.ensures.value c.in-Ok.ensures in
    rw c.change_key-before.ensures.before
    (key_there due_key items c.args.due.now.keys c.requires.queued c.in-Ok.place c.index_mut.result.now at.within c.index_mut.ensures.value)

pub exchange-requires-clause-room : goal.exchange-requires-clause-room
exchange-requires-clause-room c =
    let items = c.args.list.now.items in
    let at : IsAt (λ (p : Reply). p.id) c.args.id items c.in-Ok.place = subst (λ (l : List Reply). IsAt (λ (p : Reply). p.id) c.args.id l c.in-Ok.place) c.deref.ensures.value c.in-Ok.ensures in
    let room = key_room due_key items c.args.due.now.keys c.requires.queued c.in-Ok.place c.index_mut.result.now at.within c.index_mut.ensures.value c.change_key-before.new.reply in
    let fits = c.requires.places in
    rw (c.change_key-before.ensures.before, c.change_key-before.ensures.after) (omega arith)

pub returns-in-Ok-clause-items : goal.returns-in-Ok-clause-items
returns-in-Ok-clause-items c =
    let P : List Reply → Type 0 = λ l. IsAt (λ (p : Reply). p.id) c.args.id l c.in-Ok.place in
    rw c.change_key-before.ensures.reply
    (change_placed c.args.id c.in-Ok.place (changed c.args.change) c.args.list.now.items c.index_mut.result.now (subst P c.deref.ensures.value c.in-Ok.ensures) c.index_mut.ensures.value)

pub returns-in-Ok-clause-rising : goal.returns-in-Ok-clause-rising
returns-in-Ok-clause-rising c =
    rw c.change_key-before.ensures.reply
    (rising_set c.in-Ok.place c.args.list.now.items c.index_mut.result.now (changed c.args.change c.index_mut.result.now) c.requires.rising c.index_mut.ensures.value (entry_stays c.args.change c.index_mut.result.now))

pub returns-in-Ok-clause-queued : goal.returns-in-Ok-clause-queued
returns-in-Ok-clause-queued c =
    let items = c.args.list.now.items in
    let at : IsAt (λ (p : Reply). p.id) c.args.id items c.in-Ok.place = subst (λ (l : List Reply). IsAt (λ (p : Reply). p.id) c.args.id l c.in-Ok.place) c.deref.ensures.value c.in-Ok.ensures in
    let exchanged = rw (c.change_key-before.ensures.before, c.change_key-before.ensures.after) at c.exchange.ensures.keys in
    replaced due_key items c.args.due.now.keys c.requires.queued c.in-Ok.place c.index_mut.result.now at.within c.index_mut.ensures.value c.change_key-before.new.reply c.exchange.new.self.keys exchanged

pub returns-in-Err-clause-items : goal.returns-in-Err-clause-items
returns-in-Err-clause-items c =
    let P : List Reply → Type 0 = λ l. IsMissing (λ (p : Reply). p.id) c.args.id l c.in-Err.field-0 in
    not_there c.args.id c.in-Err.field-0 c.args.list.now.items c.requires.rising (subst P c.deref.ensures.value c.in-Err.ensures) c.requires.there
