-- An event that doesn't happen changes nothing, and nothing follows a request that doesn't arrive.
use Rattle.std.proofs.Common.{◌≡◌, ℕ, List, [], ◌∷◌, Option, Some, None, Err, refl, ap, ◌∙◌, subst}
use Rattle.lang_core.specs.declared.request.Request.{Request}
use Rattle.repair_messages.specs.declared.messages.SetMessage.{SetMessage}
use Rattle.repair_messages.specs.declared.posts.Post.{Post}
use Rattle.repair_messages.specs.declared.posts.Post.TheVariants.{Set as SetPost, Token as TokenPost, Fetch as FetchPost}
use Rattle.call_registers.specs.declared.register.Why.TheVariants.{Lost, Refused as WasRefused}
use Rattle.flights.specs.declared.flight.Flight.{Flight}
use Rattle.service_events.specs.State.{Kept, flight_of}
use Rattle.service_events.specs.declared.answers.PostReply.TheVariants.{Lost as PostIsLost}
use Rattle.world_agreement.specs.Partners.{service_of}
use Rattle.world_events.specs.Events.{Answer as EventAnswer, Turn, Served, turned, if_there, turn_at, at_service, refused, arrive_served, call_arrive_served, call_answered_served, call_failed_served, sender, take_served, take_token_served, give_served, posted_served, next_post_served, repair_step_served, abandon_served, order_served, call_delivered, reply_delivered, post_delivered, delivered, call_lost, post_lost, lost, next_post_turn, if_flying, abandon_turn, turn, after_event, after_events, answer_to}
use Rattle.world_events.specs.Worlds.{World, packet_of, next_inputs, once_drawn, once_lost, loss_note}
use Rattle.world_events.specs.declared.event.Event.{Event}
use Rattle.world_events.specs.declared.event.Event.TheVariants.{Begin, Deliver, Lose, Post as Posts, Step, Abandon, Order, Clock, Seed}
use Rattle.world_events.specs.declared.event.WorldStepRefused.{WorldStepRefused}
use Rattle.world_events.specs.declared.event.WorldStepRefused.TheVariants.{NoService, NoPacket, NoFlight}
use Rattle.world_events.specs.declared.packet.Live.{Live}
use Rattle.world_events.specs.declared.packet.Live.TheVariants.{Answer, Refused}
use Rattle.world_events.specs.declared.packet.Packet.{Packet}
use Rattle.world_events.specs.declared.packet.Packet.TheVariants.{Call, CallReply, Post as PostPacket, PostReply as PostReplyPacket}
use Rattle.world_laws.specs.InHand.{written_at}
use Rattle.world_laws.specs.Runs.{IsRun, IsAsking, written}

-- where the turn is refused, its world is this
abbrev IsStill : World → Turn → Type 0
IsStill w t = (why : WorldStepRefused) → t.answer ≡ Err why → t.world ≡ w

refused_still : (w : World) (why : WorldStepRefused) → IsStill w (refused w why)
refused_still w why = λ other e. refl

turned_still : (w then : World) (name : List ℕ) (d : Served) → IsStill w (turned name then d)
turned_still w then name d = λ why e. let no : ⊥ = cc in absurd no

there_still : (w : World) (o : Option Kept) (why : WorldStepRefused) (act : Kept → Turn) → ((s : Kept) → IsStill w (act s)) → IsStill w (if_there o (refused w why) act)
there_still w None why act still = refused_still w why
there_still w (Some s) why act still = still s

-- a service acts, if it is there
at_still : (w then : World) (name : List ℕ) (act : Kept → Served) → IsStill w (turn_at name w then act)
at_still w then name act = there_still w (service_of name w.services) NoService (λ s. turned name then (act s)) (λ s. turned_still w then name (act s))

call_still : (w : World) (k flight : ℕ) (set : SetMessage) (o : Option Request) → IsStill w (call_delivered w k flight set o)
call_still w k flight set None = refused_still w (NoPacket k)
call_still w k flight set (Some q) = at_still w (once_drawn w) set.dest (λ s. call_arrive_served flight set q s (next_inputs w))

reply_still : (w : World) (to : List ℕ) (flight : ℕ) (number : ℕ) (reply : Live) → IsStill w (reply_delivered w to flight number reply)
reply_still w to flight number (Answer a) = at_still w w to (call_answered_served w.packets flight a)
reply_still w to flight number (Refused word n) = at_still w w to (call_failed_served w.packets flight number (WasRefused word n))

post_still : (w : World) (post : Post) → IsStill w (post_delivered w post)
post_still w (SetPost set) = at_still w (once_drawn w) set.dest (λ s. take_served set s (next_inputs w))
post_still w (TokenPost t) = at_still w w t.caller (take_token_served t)
post_still w (FetchPost f) = at_still w w f.callee (give_served f)

delivered_still : (w : World) (k : ℕ) (p : Option Packet) → IsStill w (delivered w k p)
delivered_still w k None = refused_still w (NoPacket k)
delivered_still w k (Some (Call from flight set)) = call_still w k flight set set.desired
delivered_still w k (Some (CallReply to flight call_number reply)) = reply_still w to flight call_number reply
delivered_still w k (Some (PostPacket post)) = post_still w post
delivered_still w k (Some (PostReplyPacket post reply)) = at_still w w (sender post) (posted_served post reply)

call_lost_still : (w : World) (name : List ℕ) (flight : ℕ) (number : ℕ) → IsStill w (call_lost w name flight number)
call_lost_still w name flight number = at_still w (once_lost w) name (λ s. call_failed_served w.packets flight number (Lost (loss_note w)) s)

post_lost_still : (w : World) (post : Post) → IsStill w (post_lost w post)
post_lost_still w post = at_still w (once_lost w) (sender post) (λ s. posted_served post (PostIsLost (loss_note w)) s)

lost_still : (w : World) (k : ℕ) (p : Option Packet) → IsStill w (lost w k p)
lost_still w k None = refused_still w (NoPacket k)
lost_still w k (Some (Call from flight set)) = call_lost_still w from flight set.number
lost_still w k (Some (CallReply to flight call_number reply)) = call_lost_still w to flight call_number
lost_still w k (Some (PostPacket post)) = post_lost_still w post
lost_still w k (Some (PostReplyPacket post reply)) = post_lost_still w post

posted_still : (w : World) (from to : List ℕ) → IsStill w (next_post_turn w from to)
posted_still w from to =
    there_still w (service_of to w.services) NoService (λ _. at_service from w (next_post_served to)) (λ _. at_still w w from (next_post_served to))

flying_still : (w : World) (flight : ℕ) (o : Option Flight) (t : Turn) → IsStill w t → IsStill w (if_flying w flight o t)
flying_still w flight None t still = refused_still w (NoFlight flight)
flying_still w flight (Some f) t still = still

abandoned_still : (w : World) (name : List ℕ) (flight : ℕ) → IsStill w (abandon_turn w name flight)
abandoned_still w name flight =
    there_still w (service_of name w.services) NoService (λ s. if_flying w flight (flight_of flight s) (turned name w (abandon_served flight s)))
    (λ s. flying_still w flight (flight_of flight s) (turned name w (abandon_served flight s)) (turned_still w w name (abandon_served flight s)))

turn_still : (w : World) (e : Event) → IsStill w (turn w e)
unfolding turn
turn_still w (Begin name q) = at_still w (once_drawn w) name (λ s. arrive_served w.packets q s (next_inputs w))
turn_still w (Deliver number) = delivered_still w number (packet_of number w)
turn_still w (Lose number) = lost_still w number (packet_of number w)
turn_still w (Posts from to) = posted_still w from to
turn_still w (Step name) = at_still w w name repair_step_served
turn_still w (Abandon name flight) = abandoned_still w name flight
turn_still w (Order name command token who) = at_still w (once_drawn w) name (λ s. order_served command token who s (next_inputs w))
turn_still w (Clock moment) = λ why e. let no : ⊥ = cc in absurd no
turn_still w (Seed n) = λ why e. let no : ⊥ = cc in absurd no

-- where nothing is in hand nothing is delivered
no_run : (w : World) (events : List Event) → IsRun w None events → events ≡ []
no_run w [] run = refl
no_run w (e ∷ events) run = absurd run

-- an event that doesn't happen changes nothing
pub event_still : (w : World) (e : Event) (why : WorldStepRefused) → answer_to w e ≡ Err why → after_event w e ≡ w
event_still w e why is = turn_still w e why is

-- nor does a request that doesn't arrive, for nothing follows it
pub asking_still : (w : World) (service : List ℕ) (q : Request) (events : List Event) (why : WorldStepRefused) → IsAsking w service q events → answer_to w (Begin service q) ≡ Err why → after_events w events ≡ w
asking_still w service q [] why asks is = absurd asks
asking_still w service q (e ∷ events) why asks is =
    let R : Event → Type 0 = λ x. IsRun (after_event w x) (written w x) events in
    let A : EventAnswer → Type 0 = λ a. IsRun (after_event w (Begin service q)) (written_at a) events in
    let none = no_run (after_event w (Begin service q)) events (subst A is (subst R asks.0 asks.1)) in
    ap (λ x. after_events (after_event w x) events) asks.0 ∙ ap (after_events (after_event w (Begin service q))) none ∙ event_still w (Begin service q) why is
