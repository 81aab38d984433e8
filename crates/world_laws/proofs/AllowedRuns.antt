-- In a world each of whose services allowed each repair in its journal, it is so at each event.
use Rattle.std.proofs.Common.{◌≡◌, ℕ, List, [], ◌∷◌, Option, Some, None, All, refl, sym, subst}
use Rattle.lang_core.specs.declared.ids.Origin.TheVariants.{Outside, Call as CallOrigin}
use Rattle.lang_core.specs.declared.request.Request.{Request}
use Rattle.repair_messages.specs.declared.messages.SetMessage.{SetMessage}
use Rattle.repair_messages.specs.declared.posts.Post.{Post}
use Rattle.repair_messages.specs.declared.posts.Post.TheVariants.{Set as SetPost, Token as TokenPost, Fetch as FetchPost}
use Rattle.repair_messages.specs.declared.posts.PostName.{PostName}
use Rattle.call_registers.specs.declared.register.Why.TheVariants.{Lost, Refused as WasRefused}
use Rattle.flights.specs.declared.flight.Flight.{Flight}
use Rattle.service_events.specs.Allowed.{IsAllowed}
use Rattle.service_events.specs.Fits.{Fits}
use Rattle.service_events.specs.Posts.{next_post}
use Rattle.service_events.specs.State.{Kept, flight_of}
use Rattle.service_events.specs.declared.answers.PostReply.TheVariants.{Lost as PostIsLost}
use Rattle.service_events.specs.declared.event.Event.TheVariants as service_event
use Rattle.service_events.proofs.SearchLemmas.{found_all}
use Rattle.service_parts.proofs.AllowedLaws.{event_stays_allowed}
use Rattle.world_agreement.specs.Partners.{has_name, service_of}
use Rattle.world_events.specs.Worlds.{World, with_service, packet_of, next_inputs, once_drawn, once_lost, loss_note}
use Rattle.world_events.specs.Events.{Served, refused, turned, if_there, turn_at, at_service, arrive_served, call_arrive_served, call_answered_served, call_failed_served, sender, take_served, take_token_served, give_served, posted_served, next_post_written, next_post_served, repair_step_served, abandon_served, order_served, call_delivered, reply_delivered, post_delivered, delivered, call_lost, post_lost, lost, if_flying, turn, after_event, after_events}
use Rattle.world_events.specs.Sound.{IsSound, AllFew}
use Rattle.world_events.specs.declared.event.Event.{Event}
use Rattle.world_events.specs.declared.event.Event.TheVariants.{Begin, Deliver, Lose, Post as Posts, Step, Abandon, Order, Clock, Seed}
use Rattle.world_events.specs.declared.event.WorldStepRefused.TheVariants.{NoService}
use Rattle.world_events.specs.declared.packet.Live.{Live}
use Rattle.world_events.specs.declared.packet.Live.TheVariants.{Answer as LiveAnswer, Refused as LiveRefused}
use Rattle.world_events.specs.declared.packet.Packet.{Packet}
use Rattle.world_events.specs.declared.packet.Packet.TheVariants.{Call, CallReply, Post as PostPacket, PostReply as PostReplyPacket}
use Rattle.world_laws.proofs.PutLemmas.{with_is_put, all_put}
use Rattle.world_laws.proofs.WorldLaws.{turn_sound}

-- each repair that a service of this world applied was allowed by that service's rules
abbrev pub AreAllowed : List Kept → Type 0
AreAllowed services = All IsAllowed services

module _ (w : World) (h : IsSound w) (r : AreAllowed w.services) where
  allowed_put : (name : List ℕ) (t : Kept) → IsAllowed t → AreAllowed (with_service name t w.services)
  allowed_put name t allowed = subst AreAllowed (sym (with_is_put name t w.services)) (all_put IsAllowed name t w.services allowed r)

  -- a turn of a service that keeps it
  allowed_at : (name : List ℕ) (then : World) → then.services ≡ w.services → (act : Kept → Served) → ((s : Kept) → Fits s → IsAllowed s → IsAllowed (act s).service)
      → AreAllowed (turn_at name w then act).world.services
  allowed_at name then services act stays = by (service_of name w.services) refl
    where
      by : (o : Option Kept) → service_of name w.services ≡ o → AreAllowed (if_there o (refused w NoService) (λ s. turned name then (act s))).world.services
      by None found = r
      by (Some s) found =
          subst (λ xs. AreAllowed (with_service name (act s).service xs)) (sym services)
          (allowed_put name (act s).service
          (stays s (found_all Fits (has_name name) w.services s h.fits found) (found_all IsAllowed (has_name name) w.services s r found)))

  call_allowed : (number flight : ℕ) (call : SetMessage) (o : Option Request) → AreAllowed (call_delivered w number flight call o).world.services
  call_allowed number flight call None = r
  call_allowed number flight call (Some q) =
      allowed_at call.dest (once_drawn w) refl (λ s. call_arrive_served flight call q s (next_inputs w))
      (λ s fits allowed. event_stays_allowed s (service_event.Arrive (CallOrigin call.caller call.number) q (next_inputs w)) fits allowed)

  reply_allowed : (to : List ℕ) (flight number : ℕ) (reply : Live) → AreAllowed (reply_delivered w to flight number reply).world.services
  reply_allowed to flight number (LiveAnswer a) =
      allowed_at to w refl (call_answered_served w.packets flight a) (λ s fits allowed. event_stays_allowed s (service_event.CallAnswered flight a) fits allowed)
  reply_allowed to flight number (LiveRefused word n) =
      allowed_at to w refl (call_failed_served w.packets flight number (WasRefused word n))
      (λ s fits allowed. event_stays_allowed s (service_event.CallFailed flight number (WasRefused word n)) fits allowed)

  post_allowed : (post : Post) → AreAllowed (post_delivered w post).world.services
  post_allowed (SetPost set) =
      allowed_at set.dest (once_drawn w) refl (λ s. take_served set s (next_inputs w)) (λ s fits allowed. event_stays_allowed s (service_event.Take set (next_inputs w)) fits allowed)
  post_allowed (TokenPost t) = allowed_at t.caller w refl (take_token_served t) (λ s fits allowed. event_stays_allowed s (service_event.TakeToken t) fits allowed)
  post_allowed (FetchPost f) = allowed_at f.callee w refl (give_served f) (λ s fits allowed. event_stays_allowed s (service_event.Give f) fits allowed)

  delivered_allowed : (number : ℕ) (p : Option Packet) → AreAllowed (delivered w number p).world.services
  delivered_allowed number None = r
  delivered_allowed number (Some (Call from flight call)) = call_allowed number flight call call.desired
  delivered_allowed number (Some (CallReply to flight call_number reply)) = reply_allowed to flight call_number reply
  delivered_allowed number (Some (PostPacket post)) = post_allowed post
  delivered_allowed number (Some (PostReplyPacket post reply)) =
      allowed_at (sender post) w refl (posted_served post reply) (λ s fits allowed. event_stays_allowed s (service_event.Posted post reply) fits allowed)

  call_lost_allowed : (name : List ℕ) (flight number : ℕ) → AreAllowed (call_lost w name flight number).world.services
  call_lost_allowed name flight number =
      allowed_at name (once_lost w) refl (call_failed_served w.packets flight number (Lost (loss_note w)))
      (λ s fits allowed. event_stays_allowed s (service_event.CallFailed flight number (Lost (loss_note w))) fits allowed)

  post_lost_allowed : (post : Post) → AreAllowed (post_lost w post).world.services
  post_lost_allowed post =
      allowed_at (sender post) (once_lost w) refl (posted_served post (PostIsLost (loss_note w)))
      (λ s fits allowed. event_stays_allowed s (service_event.Posted post (PostIsLost (loss_note w))) fits allowed)

  lost_allowed : (number : ℕ) (p : Option Packet) → AreAllowed (lost w number p).world.services
  lost_allowed number None = r
  lost_allowed number (Some (Call from flight call)) = call_lost_allowed from flight call.number
  lost_allowed number (Some (CallReply to flight call_number reply)) = call_lost_allowed to flight call_number
  lost_allowed number (Some (PostPacket post)) = post_lost_allowed post
  lost_allowed number (Some (PostReplyPacket post reply)) = post_lost_allowed post

  next_allowed : (s : Kept) (o : Option PostName) → IsAllowed s → IsAllowed (next_post_written s o).service
  next_allowed s None allowed = allowed
  next_allowed s (Some name) allowed = allowed

  next_post_allowed : (from to : List ℕ) (o : Option Kept) → AreAllowed (if_there o (refused w NoService) (λ _. at_service from w (next_post_served to))).world.services
  next_post_allowed from to None = r
  next_post_allowed from to (Some x) =
      allowed_at from w refl (next_post_served to) (λ s fits allowed. next_allowed s (next_post to s) allowed)

  abandoned_allowed : (name : List ℕ) (flight : ℕ) (o : Option Kept) → service_of name w.services ≡ o
      → AreAllowed (if_there o (refused w NoService) (λ s. if_flying w flight (flight_of flight s) (turned name w (abandon_served flight s)))).world.services
  abandoned_allowed name flight None found = r
  abandoned_allowed name flight (Some s) found = by (flight_of flight s)
    where
      by : (f : Option Flight) → AreAllowed (if_flying w flight f (turned name w (abandon_served flight s))).world.services
      by None = r
      by (Some f) =
          allowed_put name (abandon_served flight s).service
          (event_stays_allowed s (service_event.Abandon flight) (found_all Fits (has_name name) w.services s h.fits found) (found_all IsAllowed (has_name name) w.services s r found))

  pub turn_allowed : (e : Event) → AreAllowed (after_event w e).services
  unfolding turn
  turn_allowed (Begin name q) =
      allowed_at name (once_drawn w) refl (λ s. arrive_served w.packets q s (next_inputs w))
      (λ s fits allowed. event_stays_allowed s (service_event.Arrive Outside q (next_inputs w)) fits allowed)
  turn_allowed (Deliver number) = delivered_allowed number (packet_of number w)
  turn_allowed (Lose number) = lost_allowed number (packet_of number w)
  turn_allowed (Posts from to) = next_post_allowed from to (service_of to w.services)
  turn_allowed (Step name) = allowed_at name w refl repair_step_served (λ s fits allowed. event_stays_allowed s service_event.Step fits allowed)
  turn_allowed (Abandon name flight) = abandoned_allowed name flight (service_of name w.services) refl
  turn_allowed (Order name command token who) =
      allowed_at name (once_drawn w) refl (λ s. order_served command token who s (next_inputs w))
      (λ s fits allowed. event_stays_allowed s (service_event.Order command token who (next_inputs w)) fits allowed)
  turn_allowed (Clock moment) = r
  turn_allowed (Seed n) = r

-- with each event
pub events_allowed : (events : List Event) (w : World) → IsSound w → AllFew w events → AreAllowed w.services → AreAllowed (after_events w events).services
events_allowed [] w h few r = r
events_allowed (e ∷ events) w h few r =
    events_allowed events (after_event w e) (turn_sound w h e few.0) few.1 (turn_allowed w h r e)
