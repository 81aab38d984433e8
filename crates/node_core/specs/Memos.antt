-- What is kept of an event while the service makes it, and what is noted and handed out by that once the service has answered.
use Rattle.std.specs.Prelude.{ℕ, ◌≡◌, List, Option, Some, None, Result, Ok}
use Rattle.lang_core.specs.declared.inputs.Inputs.{Inputs}
use Rattle.lang_core.specs.declared.request.Request.{Request}
use Rattle.journal_rows.specs.declared.row.Row.{Row}
use Rattle.service_events.specs.State.{Kept}
use Rattle.service_events.specs.declared.answers.Arrived.{Arrived}
use Rattle.service_events.specs.declared.answers.Arrived.TheVariants as arrived
use Rattle.service_events.specs.declared.event.Done.{Done}
use Rattle.service_events.specs.declared.event.Done.TheVariants as done
use Rattle.service_events.specs.declared.event.Event.{Event}
use Rattle.service_events.specs.declared.event.Event.TheVariants as events
use Rattle.node_core.specs.Doings.{OneMore}
use Rattle.node_core.specs.Notes.{begun_by, ended_posting, gave, gave_arrival, goes_on_by, if_accepted, lost_by, next_posting, post_name, refused_by}
use Rattle.node_core.specs.Receipts.{HasAnswered, IsReceiptAt}
use Rattle.node_core.specs.declared.memos.Memo.{Memo}
use Rattle.node_core.specs.declared.memos.Memo.TheVariants as memos
use Rattle.node_core.specs.declared.notes.Begun.{Begun}
use Rattle.node_core.specs.declared.notes.Gave.{Gave}
use Rattle.node_core.specs.declared.notes.Notes.{Notes}
use Rattle.node_core.specs.declared.receipt.Receipt.{Receipt}
use Rattle.node_core.specs.declared.receipts.Committed.{Committed}

abbrev pub memo_of : Event → Memo
memo_of (events.Arrive o q i) = memos.Arrival o q i
memo_of (events.CallAnswered flight a) = memos.Answered
memo_of (events.CallFailed flight number why) = memos.Failed why
memo_of (events.Abandon flight) = memos.Abandoned
memo_of (events.Take set i) = memos.Given (events.Take set i)
memo_of (events.TakeToken t) = memos.Given (events.TakeToken t)
memo_of (events.Give f) = memos.Given (events.Give f)
memo_of (events.NextPost dest) = memos.NextPost dest
memo_of (events.WritePost name) = memos.Nothing
memo_of (events.Posted p reply) = memos.Posted (post_name p)
memo_of events.Step = memos.Nothing
memo_of (events.Order command token who i) = memos.Given (events.Order command token who i)

-- a message or an order, with its answer
abbrev pub given_by : Option Gave → Event → Done → Option Gave
given_by before event (done.Take result) = gave event (done.Take result)
given_by before event (done.TakeToken result) = gave event (done.TakeToken result)
given_by before event (done.Give result) = gave event (done.Give result)
given_by before event (done.Order result) = gave event (done.Order result)
given_by before event answer = before

-- what is noted, but for how the event was turned away, and that it was made
abbrev pub noted_by : List ℕ → Notes → Memo → Done → Notes
noted_by me before (memos.Arrival o q i) (done.Arrive result) = record before {
  begun = begun_by me (events.Arrive o q i) before.begun result;
  gave = gave_arrival (gave (events.Arrive o q i) (done.Arrive result)) result;
}
noted_by me before memos.Answered (done.CallAnswered result) = record before { begun = goes_on_by before.begun result }
noted_by me before (memos.Failed why) (done.CallFailed result) = record before {
  begun = goes_on_by before.begun result;
  lost = if_accepted before.lost (lost_by before.lost why) result;
  refused = if_accepted before.refused (refused_by before.refused why) result;
}
noted_by me before memos.Abandoned answer = record before { begun = None }
noted_by me before (memos.Given event) answer = record before { gave = given_by before.gave event answer }
noted_by me before (memos.NextPost dest) (done.NextPost name) = record before { posting = next_posting dest name }
noted_by me before (memos.Posted name) (done.Posted result) = record before { posting = ended_posting before.posting name result }
noted_by me before memo answer = before

-- ---- what was committed

-- this live request
abbrev pub committed_in : {E : Type 0} → Request → Inputs → Result Arrived E → Option Committed
committed_in q i (Ok (arrived.Done index id answer)) = Some (record { request = q; inputs = i; index = index; id = id })
committed_in q i result = None

-- that of the open flight
abbrev pub committed_of : {E : Type 0} → Option Begun → Result Arrived E → Option Committed
committed_of None result = None
committed_of (Some b) result = committed_in b.request b.inputs result

abbrev pub committed_by : Option Begun → Memo → Done → Option Committed
committed_by begun (memos.Arrival o q i) (done.Arrive result) = committed_in q i result
committed_by begun memos.Answered (done.CallAnswered result) = committed_of begun result
committed_by begun (memos.Failed why) (done.CallFailed result) = committed_of begun result
committed_by begun memo answer = None

-- how many
abbrev pub count_of : {A : Type 0} → Option A → ℕ
count_of None = 0
count_of (Some a) = 1

-- the journal has its answer, at its place
abbrev pub IsIn : List Row → Committed → Type 0
IsIn journal c = HasAnswered journal c.request c.inputs c.index c.id

-- its receipt more than before; where nothing was committed, those of before
abbrev pub IsGivenReceipt : Kept → List ℕ → Option Committed → List Receipt → List Receipt → Type 0
IsGivenReceipt t secret None before behind = behind ≡ before
IsGivenReceipt t secret (Some c) before behind = OneMore (IsReceiptAt t secret c.request c.inputs c.index) before behind
