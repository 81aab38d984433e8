-- What each event makes of a world, and what it answers.
use Rattle.std.specs.Prelude.{ℕ, ◌++◌, ◌%◌, Bool, false, ◌&&◌, List, [], ◌∷◌, Option, Some, None, Result, Ok, Err, find, min, nat_eq, option_map, option_to_list}
use Rattle.lang_base.specs.Texts.{same_text}
use Rattle.lang_base.specs.declared.fault.FaultNote.{FaultNote}
use Rattle.lang_core.specs.declared.ids.Origin.TheVariants.{Outside, Call as CallOrigin}
use Rattle.lang_core.specs.declared.inputs.Inputs.{Inputs}
use Rattle.lang_core.specs.declared.request.Request.{Request}
use Rattle.repair_messages.specs.declared.messages.AnswerMessage.{AnswerMessage}
use Rattle.repair_messages.specs.declared.messages.Fetch.{Fetch}
use Rattle.repair_messages.specs.declared.messages.SetMessage.{SetMessage}
use Rattle.repair_messages.specs.declared.messages.TokenMessage.{TokenMessage}
use Rattle.repair_messages.specs.declared.posts.Post.{Post}
use Rattle.repair_messages.specs.declared.posts.Post.TheVariants.{Set as SetPost, Token as TokenPost, Fetch as FetchPost}
use Rattle.repair_messages.specs.declared.posts.PostName.{PostName}
use Rattle.journal_rows.specs.declared.orders.Command.{Command}
use Rattle.call_registers.specs.declared.register.Why.{Why}
use Rattle.call_registers.specs.declared.register.Why.TheVariants.{Lost, Refused as WasRefused}
use Rattle.flights.specs.declared.flight.Flight.{Flight}
use Rattle.service_events.specs.State.{Kept, After, me, flight_of}
use Rattle.service_events.specs.Event.{event}
use Rattle.service_events.specs.Posts.{next_post, write_post}
use Rattle.service_events.specs.Refusals.{answer_refused, arrive_refusal, call_word, give_refused, set_refused}
use Rattle.service_events.specs.declared.answers.Arrived.{Arrived}
use Rattle.service_events.specs.declared.answers.Arrived.TheVariants.{Done as Committed, Call as Sends, Known}
use Rattle.service_events.specs.declared.answers.Heard.{Heard}
use Rattle.service_events.specs.declared.answers.PostReply.{PostReply}
use Rattle.service_events.specs.declared.answers.PostReply.TheVariants.{Acked, Confirmed, Given, Lost as PostIsLost}
use Rattle.service_events.specs.declared.answers.Taken.{Taken}
use Rattle.service_events.specs.declared.event.Done.{Done}
use Rattle.service_events.specs.declared.event.Done.TheVariants as done
use Rattle.service_events.specs.declared.event.Event.{Event as ServiceEvent}
use Rattle.service_events.specs.declared.event.Event.TheVariants as events
use Rattle.service_events.specs.declared.refusals.AnswerRefused.{AnswerRefused}
use Rattle.service_events.specs.declared.refusals.ArriveRefused.{ArriveRefused}
use Rattle.service_events.specs.declared.refusals.GiveRefused.{GiveRefused}
use Rattle.service_events.specs.declared.refusals.TakeRefused.{TakeRefused}
use Rattle.world_agreement.specs.Partners.{service_of}
use Rattle.world_events.specs.Worlds.{World, with_service, packet_of, next_packet, next_inputs, once_drawn, loss_note, once_lost}
use Rattle.world_events.specs.declared.event.Event.{Event}
use Rattle.world_events.specs.declared.event.Event.TheVariants.{Begin, Deliver, Lose, Post as Posts, Step, Abandon, Order, Clock, Seed}
use Rattle.world_events.specs.declared.event.WorldStepRefused.{WorldStepRefused}
use Rattle.world_events.specs.declared.event.WorldStepRefused.TheVariants.{NoService, NoPacket, NoFlight}
use Rattle.world_events.specs.declared.happened.Happened.{Happened}
use Rattle.world_events.specs.declared.happened.Outcome.{Outcome}
use Rattle.world_events.specs.declared.happened.Outcome.TheVariants as came
use Rattle.world_events.specs.declared.happened.What.{What}
use Rattle.world_events.specs.declared.happened.What.TheVariants as what
use Rattle.world_events.specs.declared.packet.Live.{Live}
use Rattle.world_events.specs.declared.packet.Live.TheVariants.{Answer as LiveAnswer, Refused as LiveRefused}
use Rattle.world_events.specs.declared.packet.Packet.{Packet}
use Rattle.world_events.specs.declared.packet.Packet.TheVariants.{Call, CallReply, Post as PostPacket, PostReply as PostReplyPacket}

-- ---- a turn of one service

-- what an event answers: what happened, or why it didn't
abbrev pub Answer : Type 0
Answer = Result Happened WorldStepRefused

-- the world after an event, and what the event answers
pub record Turn : Type 0 where
  pub world : World
  pub answer : Answer

-- an event that doesn't happen changes nothing
abbrev pub refused : World → WorldStepRefused → Turn
refused w why = record { world = w; answer = Err why }

-- what an event leaves of the service where it happens, what happened there, and the packet that is written
pub record Served : Type 0 where
  pub service : Kept
  pub what : What
  pub packet : Option Packet

-- the service of this name did this
abbrev pub turned : List ℕ → World → Served → Turn
turned name w d =
    record {
      world = record w { services = with_service name d.service w.services; packets = w.packets ++ option_to_list d.packet };
      answer = Ok (record { service = Some name; what = d.what; packet = option_map (λ _. next_packet w) d.packet });
    }

-- what becomes of a service, if it is there, else the other
abbrev pub if_there : {X : Type 0} → Option Kept → X → (Kept → X) → X
if_there None other turn = other
if_there (Some s) other turn = turn s

-- the service of this name acts in a world that is so by then
abbrev pub turn_at : List ℕ → World → World → (Kept → Served) → Turn
turn_at name w then act = if_there (service_of name w.services) (refused w NoService) (λ s. turned name then (act s))

abbrev pub at_service : List ℕ → World → (Kept → Served) → Turn
at_service name w act = turn_at name w w act

-- it is given what is drawn for it, used or not
abbrev pub drawing_at : List ℕ → World → (Kept → Inputs → Served) → Turn
drawing_at name w act = turn_at name w (once_drawn w) (λ s. act s (next_inputs w))

-- it is told of an exchange that fails, which is counted
abbrev pub losing_at : List ℕ → World → (Kept → FaultNote → Served) → Turn
losing_at name w act = turn_at name w (once_lost w) (λ s. act s (loss_note w))

-- ---- what is told of a service's answer

abbrev pub outcome_of : Arrived → Outcome
outcome_of (Committed index id back) = came.Done index id
outcome_of (Sends flight set) = came.Call flight
outcome_of (Known a) = came.Known a.id a.answer_version

abbrev pub outcome : {E : Type 0} → Result Arrived E → Result Outcome E
outcome (Ok arrived) = Ok (outcome_of arrived)
outcome (Err why) = Err why

abbrev pub taken_rule : Result Taken TakeRefused → Result (Option ℕ) TakeRefused
taken_rule (Ok t) = Ok t.rule
taken_rule (Err why) = Err why

abbrev pub answer_rule : Result Heard AnswerRefused → Result (Option ℕ) AnswerRefused
answer_rule (Ok h) = Ok h.rule
answer_rule (Err why) = Err why

abbrev pub given_version : Result AnswerMessage GiveRefused → Result ℕ GiveRefused
given_version (Ok a) = Ok a.answer_version
given_version (Err why) = Err why

-- An answer without the message that it carries, which goes into a packet. Nothing is told of a post that is written, which
-- the answer told that named it, of a step that lacked memory, and where no event was made.
abbrev pub what_of : Done → What
what_of (done.Arrive result) = what.Arrive (outcome result)
what_of (done.CallAnswered result) = what.CallAnswered (outcome result)
what_of (done.CallFailed result) = what.CallFailed (outcome result)
what_of (done.Abandon was_there) = what.Abandon was_there
what_of (done.Take result) = what.Take (taken_rule result)
what_of (done.TakeToken result) = what.TakeToken (answer_rule result)
what_of (done.Give result) = what.Give (given_version result)
what_of (done.NextPost name) = what.NextPost name
what_of (done.WritePost result) = what.Set
what_of (done.Posted result) = what.Posted result
what_of (done.Step (Ok stepped)) = what.RepairStep stepped
what_of (done.Step (Err why)) = what.Set
what_of (done.Order result) = what.Order result
what_of done.Gone = what.Set

-- ---- what an event comes to at its service

-- the service that is left, what is told of its answer, and the packet that is written of it
abbrev pub came_to : (Kept → Done → Option Packet) → After Done → Served
came_to packet a = record { service = a.service; what = what_of a.answer; packet = packet a.service a.answer }

-- what this event comes to, by the packet that is written of what it left and answered
abbrev pub acts : (Kept → Done → Option Packet) → Kept → ServiceEvent → Served
acts packet s e = came_to packet (event s e)

-- no packet is written
abbrev pub unwritten : Kept → Done → Option Packet
unwritten s answer = None

-- ---- live requests

abbrev pub answered_back : (AnswerMessage → Option Packet) → Option AnswerMessage → Option Packet
answered_back back None = None
answered_back back (Some a) = back a

-- what is sent of a live request: its next call, or what goes back to its caller
abbrev pub sent : List ℕ → (AnswerMessage → Option Packet) → Arrived → Option Packet
sent name back (Committed index id a) = answered_back back a
sent name back (Sends flight set) = Some (Call name flight set)
sent name back (Known a) = back a

abbrev pub sent_or : {E : Type 0} → List ℕ → (AnswerMessage → Option Packet) → (E → Option Packet) → Result Arrived E → Option Packet
sent_or name back refusal (Ok arrived) = sent name back arrived
sent_or name back refusal (Err why) = refusal why

-- nothing is written of it
abbrev pub unsaid : {E : Type 0} → E → Option Packet
unsaid why = None

-- the packet of a live request of the service of this name, by what goes back to its caller, and what the refusal of its arrival is
abbrev pub live_packet : List ℕ → (AnswerMessage → Option Packet) → (ArriveRefused → Option Packet) → Done → Option Packet
live_packet name back refusal (done.Arrive result) = sent_or name back refusal result
live_packet name back refusal (done.CallAnswered result) = sent_or name back unsaid result
live_packet name back refusal (done.CallFailed result) = sent_or name back unsaid result
live_packet name back refusal answer = None

-- what an event of a live request comes to
abbrev pub lives : (AnswerMessage → Option Packet) → (ArriveRefused → Option Packet) → Kept → ServiceEvent → Served
lives back refusal s e = acts (λ t. live_packet (me t) back refusal) s e

-- the packet is this call's
abbrev pub is_call_of : List ℕ → ℕ → Packet → Bool
is_call_of caller number (Call from flight set) = nat_eq set.number number && same_text set.caller caller
is_call_of caller number packet = false

-- an answer, to the flight that sent this packet
abbrev pub reply_to : AnswerMessage → Option Packet → Option Packet
reply_to a (Some (Call from flight set)) = Some (CallReply from flight set.number (LiveAnswer a))
reply_to a packet = None

-- an answer goes to the flight that sent its call
abbrev pub reply_among : List Packet → AnswerMessage → Option Packet
reply_among packets a = reply_to a (find (is_call_of a.caller a.number) packets)

abbrev pub arrive_served : List Packet → Request → Kept → Inputs → Served
arrive_served packets q s i = lives (reply_among packets) unsaid s (events.Arrive Outside q i)

-- refusals of arrivals, as they are numbered
abbrev pub live_refusal : ArriveRefused → Live
live_refusal why = LiveRefused (call_word why) (arrive_refusal why).number

-- a delivered call: its answer, or its refusal, goes back to the flight that sent it
abbrev pub call_arrive_served : ℕ → SetMessage → Request → Kept → Inputs → Served
call_arrive_served flight set q s i =
    lives (λ a. Some (CallReply set.caller flight set.number (LiveAnswer a)))
    (λ why. Some (CallReply set.caller flight set.number (live_refusal why)))
    s (events.Arrive (CallOrigin set.caller set.number) q i)

abbrev pub call_answered_served : List Packet → ℕ → AnswerMessage → Kept → Served
call_answered_served packets flight a s = lives (reply_among packets) unsaid s (events.CallAnswered flight a)

abbrev pub call_failed_served : List Packet → ℕ → ℕ → Why → Kept → Served
call_failed_served packets flight number why s = lives (reply_among packets) unsaid s (events.CallFailed flight number why)

-- ---- posts

-- the service that posted it
abbrev pub sender : Post → List ℕ
sender (SetPost set) = set.caller
sender (TokenPost t) = t.callee
sender (FetchPost f) = f.caller

abbrev pub set_reply : Result Taken TakeRefused → PostReply
set_reply (Ok t) = Acked t.ack
set_reply (Err why) = set_refused why

abbrev pub answer_reply : Result Heard AnswerRefused → PostReply
answer_reply (Ok h) = Confirmed h.confirm
answer_reply (Err why) = answer_refused why

abbrev pub give_reply : Result AnswerMessage GiveRefused → PostReply
give_reply (Ok a) = Given a
give_reply (Err why) = give_refused why

-- what comes back of a post that is delivered
abbrev pub post_packet : Post → Done → Option Packet
post_packet post (done.Take result) = Some (PostReplyPacket post (set_reply result))
post_packet post (done.TakeToken result) = Some (PostReplyPacket post (answer_reply result))
post_packet post (done.Give result) = Some (PostReplyPacket post (give_reply result))
post_packet post answer = None

-- a version of a call is delivered, and what its receiver says goes back
abbrev pub take_served : SetMessage → Kept → Inputs → Served
take_served set s i = acts (λ _. post_packet (SetPost set)) s (events.Take set i)

-- a token is delivered, and what its receiver says goes back
abbrev pub take_token_served : TokenMessage → Kept → Served
take_token_served t s = acts (λ _. post_packet (TokenPost t)) s (events.TakeToken t)

-- a fetch is delivered, and the answer goes back
abbrev pub give_served : Fetch → Kept → Served
give_served f s = acts (λ _. post_packet (FetchPost f)) s (events.Give f)

-- something comes back of a post
abbrev pub posted_served : Post → PostReply → Kept → Served
posted_served post reply s = acts unwritten s (events.Posted post reply)

abbrev pub written : Kept → PostName → Option Packet
written s name = option_map (λ post. PostPacket post) (write_post s name)

-- the oldest outstanding post is written, if there is one
abbrev pub next_post_written : Kept → Option PostName → Served
next_post_written s None = record { service = s; what = what_of (done.NextPost None); packet = None }
next_post_written s (Some name) = record { service = s; what = what_of (done.NextPost (Some name)); packet = written s name }

abbrev pub next_post_served : List ℕ → Kept → Served
next_post_served to s = next_post_written s (next_post to s)

-- ---- the other events of a service

abbrev pub repair_step_served : Kept → Served
repair_step_served s = acts unwritten s events.Step

abbrev pub abandon_served : ℕ → Kept → Served
abandon_served flight s = acts unwritten s (events.Abandon flight)

abbrev pub order_served : Command → List ℕ → List ℕ → Kept → Inputs → Served
order_served command token who s i = acts unwritten s (events.Order command token who i)

-- ---- packets

-- a call that asks something is delivered; no other is written
abbrev pub call_delivered : World → ℕ → ℕ → SetMessage → Option Request → Turn
call_delivered w number flight set None = refused w (NoPacket number)
call_delivered w number flight set (Some q) = drawing_at set.dest w (call_arrive_served flight set q)

abbrev pub reply_delivered : World → List ℕ → ℕ → ℕ → Live → Turn
reply_delivered w to flight number (LiveAnswer a) = at_service to w (call_answered_served w.packets flight a)
reply_delivered w to flight number (LiveRefused word n) = at_service to w (call_failed_served w.packets flight number (WasRefused word n))

abbrev pub post_delivered : World → Post → Turn
post_delivered w (SetPost set) = drawing_at set.dest w (take_served set)
post_delivered w (TokenPost t) = at_service t.caller w (take_token_served t)
post_delivered w (FetchPost f) = at_service f.callee w (give_served f)

-- a packet comes to its receiver
abbrev pub delivered : World → ℕ → Option Packet → Turn
delivered w number None = refused w (NoPacket number)
delivered w number (Some (Call from flight set)) = call_delivered w number flight set set.desired
delivered w number (Some (CallReply to flight call_number reply)) = reply_delivered w to flight call_number reply
delivered w number (Some (PostPacket post)) = post_delivered w post
delivered w number (Some (PostReplyPacket post reply)) = at_service (sender post) w (posted_served post reply)

-- the service whose exchange it was learns that it failed
abbrev pub call_lost : World → List ℕ → ℕ → ℕ → Turn
call_lost w name flight number = losing_at name w (λ s note. call_failed_served w.packets flight number (Lost note) s)

abbrev pub post_lost : World → Post → Turn
post_lost w post = losing_at (sender post) w (λ s note. posted_served post (PostIsLost note) s)

abbrev pub lost : World → ℕ → Option Packet → Turn
lost w number None = refused w (NoPacket number)
lost w number (Some (Call from flight set)) = call_lost w from flight set.number
lost w number (Some (CallReply to flight call_number reply)) = call_lost w to flight call_number
lost w number (Some (PostPacket post)) = post_lost w post
lost w number (Some (PostReplyPacket post reply)) = post_lost w post

-- ---- events

-- both services are to be there
abbrev pub next_post_turn : World → List ℕ → List ℕ → Turn
next_post_turn w from to = if_there (service_of to w.services) (refused w NoService) (λ _. at_service from w (next_post_served to))

abbrev pub if_flying : World → ℕ → Option Flight → Turn → Turn
if_flying w flight None turn = refused w (NoFlight flight)
if_flying w flight (Some f) turn = turn

abbrev pub abandon_turn : World → List ℕ → ℕ → Turn
abandon_turn w name flight =
    if_there (service_of name w.services) (refused w NoService)
    (λ s. if_flying w flight (flight_of flight s) (turned name w (abandon_served flight s)))

-- clock or words are set, at no service
abbrev pub set : World → Turn
set w = record { world = w; answer = Ok (record { service = None; what = what.Set; packet = None }) }

-- what an event comes to. No moment is later than the last, and words are below 65,537
unfoldable pub turn : World → Event → Turn
turn w (Begin name q) = drawing_at name w (arrive_served w.packets q)
turn w (Deliver number) = delivered w number (packet_of number w)
turn w (Lose number) = lost w number (packet_of number w)
turn w (Posts from to) = next_post_turn w from to
turn w (Step name) = at_service name w repair_step_served
turn w (Abandon name flight) = abandon_turn w name flight
turn w (Order name command token who) = drawing_at name w (order_served command token who)
turn w (Clock moment) = set (record w { moment = min moment 9223372036854775807 })
turn w (Seed n) = set (record w { x = n % 65537 })

abbrev pub after_event : World → Event → World
after_event w e = (turn w e).world

abbrev pub answer_to : World → Event → Answer
answer_to w e = (turn w e).answer

-- ---- several events

-- the world after events, one behind another
abbrev pub after_events : World → List Event → World
after_events w [] = w
after_events w (e ∷ events) = after_events (after_event w e) events

-- what happened, and then this
abbrev pub happened_before : Answer → List Happened → List Happened
happened_before (Ok h) more = h ∷ more
happened_before (Err why) more = more

-- what happens at events, one behind another
abbrev pub happenings : World → List Event → List Happened
happenings w [] = []
happenings w (e ∷ events) = happened_before (answer_to w e) (happenings (after_event w e) events)
