use Rattle.std.proofs.Common.{◌<◌, ◌∙◌, List, Option, IfSome, ap, arith, sym, subst, vec_capacity, vec_len}
use Rattle.lang_core.specs.declared.setting.Setting.{Setting}
use Rattle.service_core.proofs.GrowthLaws.{grown}
use Rattle.node_core.proofs.EventLemmas.{all_noted, answered_by, committed_so, counted_by, done_so, gets_by, gone_counts, gone_done, gone_noted, gone_receipts, has_room, may_happen, notes_so, orders_noted, told_by}
use Rattle.node_core.proofs.OrderLemmas.{gone_orders, orders_so, written_so}
use Rattle.node_core.proofs.SearchLemmas.{affirmed, refuted}
use Rattle.node_core.proofs.SinceLemmas.{within_grown}
use Rattle.node_core.specs.Doings.{HasReceipts}
use Rattle.node_core.specs.Memos.{committed_by, count_of, memo_of, IsGivenReceipt, IsIn}
use Rattle.node_core.specs.declared.orders.OrderNote.{OrderNote}
use Rattle.node_core.specs.declared.receipt.Receipt.{Receipt}
use Rattle.node_core.specs.declared.receipts.Committed.{Committed}
use Rattle.node_core.proofs.events.event.Goals as goal

pub event-done-requires : goal.event-done-requires
event-done-requires g c = record { may = may_happen c.args.kept.now.service c.args.pass.now.notes.begun c.args.event c.requires.may }

pub count-requires-clause-room : goal.count-requires-clause-room
count-requires-clause-room g c =
    let before = c.args.pass.now.notes in
    let ready = c.prepared.new.pass in
    let d = c.event-done.result in
    let is = committed_so before ready.notes c.in_ok-memo.memo c.args.event d c.note-committed.result c.in_ok-memo.ensures.same.2 c.in_ok-memo.ensures.memo
    c.note-committed.ensures.committed in
    let P = vec_len ready.receipts < vec_capacity ready.receipts in
    subst (λ (o : Option Committed). IfSome o (λ (x : Committed). P)) (sym is) (has_room before.begun c.args.event d P c.in_ok-memo.ensures.room)

pub count-requires-clause-answered : goal.count-requires-clause-answered
count-requires-clause-answered g c =
    let s = c.args.kept.now.service in
    let t = c.event-done.new.self in
    let before = c.args.pass.now.notes in
    let d = c.event-done.result in
    let there = affirmed c.finds_flight.result c.finds_flight.ensures c.if-not-finds_flight.false in
    let is = committed_so before c.prepared.new.pass.notes c.in_ok-memo.memo c.args.event d c.note-committed.result c.in_ok-memo.ensures.same.2
    c.in_ok-memo.ensures.memo c.note-committed.ensures.committed in
    subst (λ (o : Option Committed). IfSome o (IsIn t.journal)) (sym is)
    (answered_by s t before.begun c.args.event d c.requires.may there c.event-done.ensures.answers)

pub invariant_of-kept-2-clause-within : goal.invariant_of-kept-2-clause-within
invariant_of-kept-2-clause-within g c =
    let s = c.args.kept.now.service in
    let t = c.event-done.new.self in
    within_grown c.args.kept.now.since s t c.args.kept.now.within (grown s t c.args.event c.event-done.result c.event-done.ensures.happens)

pub invariant_of-kept-2-clause-counted : goal.invariant_of-kept-2-clause-counted
invariant_of-kept-2-clause-counted g c =
    let k = c.args.kept.now in
    let t = c.event-done.new.self in
    let before = c.args.pass.now.notes in
    let d = c.event-done.result in
    let there = affirmed c.finds_flight.result c.finds_flight.ensures c.if-not-finds_flight.false in
    let committed = ap count_of
    (committed_so before c.prepared.new.pass.notes c.in_ok-memo.memo c.args.event d c.note-committed.result c.in_ok-memo.ensures.same.2 c.in_ok-memo.ensures.memo
    c.note-committed.ensures.committed) in
    let written = ap (λ (o : Option OrderNote). count_of o)
    (written_so k.service t c.args.event d c.row_count-index.result c.note_if_ordered-written.result c.event-done.ensures.answers c.row_count-index.ensures c.note_if_ordered-written.ensures) in
    let told = told_by k.service t before.begun k.since c.args.event d k.within c.requires.may there c.event-done.ensures.happens c.event-done.ensures.answers in
    let commits = c.count.ensures.amount in
    let orders = c.count_order.ensures.amount in
    let counted = k.counted in
    omega (arith, committed, written, told, commits, orders, counted)

pub returns-clause-done : goal.returns-clause-done
returns-clause-done g c =
    let there = affirmed c.finds_flight.result c.finds_flight.ensures c.if-not-finds_flight.false in
    done_so c.args.kept.now.service c.event-done.new.self c.args.pass.now.notes.begun c.args.event c.event-done.result there c.event-done.ensures.answers

pub returns-clause-rows : goal.returns-clause-rows
returns-clause-rows g c =
    let before = c.args.pass.now.notes in
    let d = c.event-done.result in
    let there = affirmed c.finds_flight.result c.finds_flight.ensures c.if-not-finds_flight.false in
    let is = committed_so before c.prepared.new.pass.notes c.in_ok-memo.memo c.args.event d c.note-committed.result c.in_ok-memo.ensures.same.2
    c.in_ok-memo.ensures.memo c.note-committed.ensures.committed in
    let counted = ap count_of is ∙ counted_by c.args.kept.now.service c.event-done.new.self before.begun c.args.event d there c.event-done.ensures.answers in
    let written = ap (λ (o : Option OrderNote). count_of o)
    (written_so c.args.kept.now.service c.event-done.new.self c.args.event d c.row_count-index.result c.note_if_ordered-written.result c.event-done.ensures.answers c.row_count-index.ensures
    c.note_if_ordered-written.ensures) in
    let commits = c.count.ensures.amount in
    let orders = c.count_order.ensures.amount in
    omega (arith, counted, written, commits, orders)

pub returns-clause-mine : goal.returns-clause-mine
returns-clause-mine g c =
    let before = c.args.pass.now in
    let d = c.event-done.result in
    let there = affirmed c.finds_flight.result c.finds_flight.ensures c.if-not-finds_flight.false in
    let is = committed_so before.notes c.prepared.new.pass.notes c.in_ok-memo.memo c.args.event d c.note-committed.result c.in_ok-memo.ensures.same.2
    c.in_ok-memo.ensures.memo c.note-committed.ensures.committed in
    let counted = ap count_of is ∙ counted_by c.args.kept.now.service c.event-done.new.self before.notes.begun c.args.event d there c.event-done.ensures.answers in
    let written = ap (λ (o : Option OrderNote). count_of o)
    (written_so c.args.kept.now.service c.event-done.new.self c.args.event d c.row_count-index.result c.note_if_ordered-written.result c.event-done.ensures.answers c.row_count-index.ensures
    c.note_if_ordered-written.ensures) in
    let had = c.in_ok-memo.ensures.same.1 in
    let commits = c.count.ensures.mine in
    let orders = c.count_order.ensures.mine in
    grind (arith, had, counted, written, commits, orders)

pub returns-clause-receipts : goal.returns-clause-receipts
returns-clause-receipts g c =
    let s = c.args.kept.now.service in
    let t = c.event-done.new.self in
    let secret = c.args.kept.now.secret in
    let before = c.args.pass.now in
    let ready = c.prepared.new.pass in
    let have = c.count.new.pass.receipts.items in
    let d = c.event-done.result in
    let there = affirmed c.finds_flight.result c.finds_flight.ensures c.if-not-finds_flight.false in
    let is = committed_so before.notes ready.notes c.in_ok-memo.memo c.args.event d c.note-committed.result c.in_ok-memo.ensures.same.2
    c.in_ok-memo.ensures.memo c.note-committed.ensures.committed in
    let given = subst (λ (o : Option Committed). IsGivenReceipt t secret o ready.receipts.items have) is c.count.ensures.receipts in
    let gets = gets_by s t before.notes.begun c.args.event d secret before.receipts.items have c.requires.may there c.event-done.ensures.answers
    (subst (λ (had : List Receipt). IsGivenReceipt t secret (committed_by before.notes.begun (memo_of c.args.event) d) had have) c.in_ok-memo.ensures.same.0 given) in
    subst (λ (xs : List Receipt). HasReceipts t secret before.notes.begun c.args.event d before.receipts.items xs) (sym c.count_order.ensures.receipts) gets

pub returns-clause-notes : goal.returns-clause-notes
returns-clause-notes g c =
    let s = c.args.kept.now.service in
    let t = c.event-done.new.self in
    let d = c.event-done.result in
    let written = written_so s t c.args.event d c.row_count-index.result c.note_if_ordered-written.result c.event-done.ensures.answers c.row_count-index.ensures c.note_if_ordered-written.ensures in
    let named = ap (λ (x : Setting). x.me) c.setting.ensures in
    let noted = notes_so s t _ c.args.pass.now.notes c.prepared.new.pass.notes c.note-committed.new.notes c.count.new.pass.notes c.in_ok-memo.memo c.args.event d
    c.event-done.ensures.answers named c.in_ok-memo.ensures.same.2 c.in_ok-memo.ensures.memo c.note-committed.ensures.notes c.count.ensures.notes in
    c.note_end.ensures
    ∙ all_noted s t c.args.pass.now.notes c.count.new.pass.notes c.count_order.new.pass.notes c.args.event d c.note_if_ordered-written.result noted
    c.count_order.ensures.notes written

pub returns-clause-orders : goal.returns-clause-orders
returns-clause-orders g c =
    let s = c.args.kept.now.service in
    let t = c.event-done.new.self in
    let before = c.args.pass.now.notes in
    orders_so s t c.args.event c.event-done.result before.orders c.note_end.new.notes.orders c.event-done.ensures.answers
    (orders_noted s t before c.note_end.new.notes c.args.event c.event-done.result (returns-clause-notes g c))

-- ---- where the flight isn't there

pub returns-then-not-finds_flight-clause-done : goal.returns-then-not-finds_flight-clause-done
returns-then-not-finds_flight-clause-done g c =
    gone_done c.args.kept.now.service c.args.pass.now.notes.begun c.args.event c.requires.may
    (refuted c.finds_flight.result c.finds_flight.ensures c.if-not-finds_flight.true)

pub returns-then-not-finds_flight-clause-rows : goal.returns-then-not-finds_flight-clause-rows
returns-then-not-finds_flight-clause-rows g c =
    gone_counts c.args.kept.now.service c.args.pass.now.notes.begun c.args.event c.args.kept.now.share.amount
    (refuted c.finds_flight.result c.finds_flight.ensures c.if-not-finds_flight.true)

pub returns-then-not-finds_flight-clause-mine : goal.returns-then-not-finds_flight-clause-mine
returns-then-not-finds_flight-clause-mine g c =
    gone_counts c.args.kept.now.service c.args.pass.now.notes.begun c.args.event c.args.pass.now.share.amount
    (refuted c.finds_flight.result c.finds_flight.ensures c.if-not-finds_flight.true)

pub returns-then-not-finds_flight-clause-orders : goal.returns-then-not-finds_flight-clause-orders
returns-then-not-finds_flight-clause-orders g c = gone_orders c.args.kept.now.service c.args.event c.args.pass.now.notes.orders

pub returns-then-not-finds_flight-clause-notes : goal.returns-then-not-finds_flight-clause-notes
returns-then-not-finds_flight-clause-notes g c =
    gone_noted c.args.kept.now.service c.args.pass.now.notes c.args.event (refuted c.finds_flight.result c.finds_flight.ensures c.if-not-finds_flight.true)

pub returns-then-not-finds_flight-clause-receipts : goal.returns-then-not-finds_flight-clause-receipts
returns-then-not-finds_flight-clause-receipts g c =
    gone_receipts c.args.kept.now.service c.args.kept.now.secret c.args.pass.now.notes.begun c.args.event c.args.pass.now.receipts.items
