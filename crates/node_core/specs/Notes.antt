-- What a pass notes of an event.
use Rattle.std.specs.Prelude.{ℕ, ◌+◌, ◌-◌, ◌^◌, List, [], Option, Some, None, Result, Ok, Err, min, option_map}
use Rattle.repair_messages.specs.declared.messages.SetMessage.{SetMessage}
use Rattle.repair_messages.specs.declared.posts.Post.{Post}
use Rattle.repair_messages.specs.declared.posts.Post.TheVariants as posts
use Rattle.repair_messages.specs.declared.posts.PostName.{PostName}
use Rattle.repair_messages.specs.declared.posts.PostName.TheVariants as names
use Rattle.repair_messages.specs.declared.refusals.Refusal.{Refusal}
use Rattle.call_registers.specs.declared.register.Why.{Why}
use Rattle.call_registers.specs.declared.register.Why.TheVariants as whys
use Rattle.service_events.specs.Refusals.{refusal_in, refusal_of}
use Rattle.service_events.specs.State.{Kept, me}
use Rattle.service_events.specs.declared.answers.Arrived.{Arrived}
use Rattle.service_events.specs.declared.answers.Arrived.TheVariants as arrived
use Rattle.service_events.specs.declared.answers.Posted.{Posted}
use Rattle.service_events.specs.declared.event.Done.{Done}
use Rattle.service_events.specs.declared.event.Done.TheVariants as done
use Rattle.service_events.specs.declared.event.Event.{Event}
use Rattle.service_events.specs.declared.event.Event.TheVariants as events
use Rattle.node_core.specs.Orders.{order_written, with_note}
use Rattle.node_core.specs.declared.notes.Begun.{Begun}
use Rattle.node_core.specs.declared.notes.Gave.{Gave}
use Rattle.node_core.specs.declared.notes.Notes.{Notes}
use Rattle.node_core.specs.declared.notes.Posting.{Posting}
use Rattle.node_core.specs.declared.notes.Posting.TheVariants as posting
use Rattle.node_core.specs.declared.notes.Turn.{Turn}
use Rattle.node_core.specs.declared.notes.Turn.TheVariants as turn

-- ---- how an event was turned away

-- by this refusal
abbrev pub turn_by : Refusal → Turn
turn_by r = turn.Refused r.word r.number

-- by what refused it, if anything did
abbrev pub turn_if : {A E : Type 0} → (E → Refusal) → Result A E → Option Turn
turn_if refused result = option_map turn_by (refusal_in refused result)

abbrev pub turn_of : Done → Option Turn
turn_of done.Gone = Some turn.Gone
turn_of answer = option_map turn_by (refusal_of answer)

-- ---- the open flight

-- a flight of this service that waits for this call
abbrev pub begun_as : List ℕ → Event → ℕ → SetMessage → Option Begun
begun_as me (events.Arrive o q i) flight set = Some (record {
  service = me;
  flight = flight;
  dest = set.dest;
  number = set.number;
  origin = o;
  request = q;
  inputs = i;
})
begun_as me event flight set = None

abbrev pub begun_by : {E : Type 0} → List ℕ → Event → Option Begun → Result Arrived E → Option Begun
begun_by me event before (Ok (arrived.Call flight set)) = begun_as me event flight set
begun_by me event before result = before

-- it waits for this call now
abbrev pub waiting_for : ℕ → SetMessage → Begun → Begun
waiting_for flight set b = record b { flight = flight; dest = set.dest; number = set.number }

-- a flight ends with its commit; where its call was refused, it is as before
abbrev pub goes_on_by : {E : Type 0} → Option Begun → Result Arrived E → Option Begun
goes_on_by before (Ok (arrived.Done index id answer)) = None
goes_on_by before (Ok (arrived.Call flight set)) = option_map (waiting_for flight set) before
goes_on_by before result = before

abbrev pub begun_after : List ℕ → Option Begun → Event → Done → Option Begun
begun_after me before event (done.Arrive result) = begun_by me event before result
begun_after me before event (done.CallAnswered result) = goes_on_by before result
begun_after me before event (done.CallFailed result) = goes_on_by before result
begun_after me before event (done.Abandon found) = None
begun_after me before event done.Gone = None
begun_after me before event other = before

-- ---- posts

abbrev pub post_name : Post → PostName
post_name (posts.Set set) = names.Call set.number
post_name (posts.Token t) = names.Reply t.id
post_name (posts.Fetch f) = names.Fetch f.number

abbrev pub next_posting : List ℕ → Option PostName → Option Posting
next_posting dest None = Some (posting.Quiet dest)
next_posting dest (Some name) = Some (posting.Next name)

abbrev pub ended_posting : {E : Type 0} → Option Posting → PostName → Result Posted E → Option Posting
ended_posting before name (Ok posted) = Some (posting.Ended name posted)
ended_posting before name (Err why) = before

abbrev pub posting_of : Option Posting → Event → Done → Option Posting
posting_of before (events.NextPost dest) (done.NextPost name) = next_posting dest name
posting_of before (events.Posted p reply) (done.Posted result) = ended_posting before (post_name p) result
posting_of before event answer = before

-- ---- what was asked that was neither committed nor begun

abbrev pub gave : Event → Done → Option Gave
gave event answer = Some (record { asked = event; done = answer })

abbrev pub gave_arrival : {E : Type 0} → Option Gave → Result Arrived E → Option Gave
gave_arrival given (Ok (arrived.Done index id answer)) = None
gave_arrival given (Ok (arrived.Call flight set)) = None
gave_arrival given result = given

abbrev pub gave_after : Option Gave → Event → Done → Option Gave
gave_after before event (done.Arrive result) = gave_arrival (gave event (done.Arrive result)) result
gave_after before event (done.Take result) = gave event (done.Take result)
gave_after before event (done.TakeToken result) = gave event (done.TakeToken result)
gave_after before event (done.Give result) = gave event (done.Give result)
gave_after before event (done.Order result) = gave event (done.Order result)
gave_after before event answer = before

-- ---- calls that were given up

-- one more; where 64 bits don't hold it, as many as before
abbrev pub one_more : ℕ → ℕ
one_more n = min (n + 1) (2 ^ 64 - 1)

abbrev pub lost_by : ℕ → Why → ℕ
lost_by n (whys.Lost fault) = one_more n
lost_by n why = n

abbrev pub refused_by : ℕ → Why → ℕ
refused_by n (whys.Refused word number) = one_more n
refused_by n why = n

abbrev pub if_accepted : {A E : Type 0} → ℕ → ℕ → Result A E → ℕ
if_accepted before after (Ok a) = after
if_accepted before after (Err why) = before

abbrev pub lost_after : ℕ → Event → Done → ℕ
lost_after n (events.CallFailed flight number why) (done.CallFailed result) = if_accepted n (lost_by n why) result
lost_after n event answer = n

abbrev pub refused_after : ℕ → Event → Done → ℕ
refused_after n (events.CallFailed flight number why) (done.CallFailed result) = if_accepted n (refused_by n why) result
refused_after n event answer = n

-- ---- events

-- one more was made; where the worker's flight wasn't there, none was
abbrev pub made_after : ℕ → Done → ℕ
made_after n done.Gone = n
made_after n answer = one_more n

-- ---- all of it

-- of a worker that has made no event yet
abbrev pub no_notes : Notes
no_notes = record { begun = None; turn = None; posting = None; gave = None; orders = []; lost = 0; refused = 0; made = 0 }

-- of an event at the service of this name, but for the order that it wrote

abbrev pub noted : List ℕ → Notes → Event → Done → Notes
noted me before event answer = record {
  begun = begun_after me before.begun event answer;
  turn = turn_of answer;
  posting = posting_of before.posting event answer;
  gave = gave_after before.gave event answer;
  orders = before.orders;
  lost = lost_after before.lost event answer;
  refused = refused_after before.refused event answer;
  made = made_after before.made answer;
}

-- of an event that found this of the service and left that, with the order that it wrote
abbrev pub noted_at : Kept → Kept → Notes → Event → Done → Notes
noted_at s t before event answer = record (noted (me t) before event answer) { orders = with_note (order_written s t event) before.orders }

-- all but the order that it wrote, how it was turned away, and that it was made
abbrev pub unturned : List ℕ → Notes → Event → Done → Notes
unturned me before event answer = record (noted me before event answer) { turn = before.turn; made = before.made }
