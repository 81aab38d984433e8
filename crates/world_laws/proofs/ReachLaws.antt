-- In a world whose services call their peers alone, and peers are there, it is so at each event.
use Rattle.std.proofs.Common.{◌≡◌, ℕ, List, [], ◌∷◌, Option, Some, None, IsSome, All, is_some, refl, sym, ap, subst}
use Rattle.std.proofs.lemmas.List.Elements.{All-nil, All-weaker}
use Rattle.lang_core.specs.declared.ids.Origin.TheVariants.{Outside, Call as CallOrigin}
use Rattle.lang_core.specs.declared.request.Request.{Request}
use Rattle.repair_messages.specs.declared.messages.SetMessage.{SetMessage}
use Rattle.repair_messages.specs.declared.posts.Post.{Post}
use Rattle.repair_messages.specs.declared.posts.Post.TheVariants.{Set as SetPost, Token as TokenPost, Fetch as FetchPost}
use Rattle.repair_messages.specs.declared.posts.PostName.{PostName}
use Rattle.call_registers.specs.declared.register.Why.TheVariants.{Lost, Refused as WasRefused}
use Rattle.flights.specs.declared.flight.Flight.{Flight}
use Rattle.service_events.specs.Fits.{Fits}
use Rattle.service_events.specs.Posts.{next_post}
use Rattle.service_events.specs.State.{Kept, flight_of}
use Rattle.service_events.specs.declared.answers.PostReply.TheVariants.{Lost as PostIsLost}
use Rattle.service_events.specs.declared.event.Event.TheVariants as service_event
use Rattle.service_events.proofs.CallLaws.{Grows}
use Rattle.service_events.proofs.SearchLemmas.{found_all}
use Rattle.world_agreement.specs.Partners.{has_name, service_of}
use Rattle.world_agreement.proofs.ListLemmas.{some_of}
use Rattle.world_events.specs.Worlds.{World, fresh_world, with_service, packet_of, next_inputs, once_drawn, once_lost, loss_note}
use Rattle.world_events.specs.Events.{Served, refused, turned, if_there, turn_at, at_service, arrive_served, call_arrive_served, call_answered_served, call_failed_served, sender, take_served, take_token_served, give_served, posted_served, next_post_written, next_post_served, repair_step_served, abandon_served, order_served, call_delivered, reply_delivered, post_delivered, delivered, call_lost, post_lost, lost, if_flying, turn, after_event, after_events}
use Rattle.world_events.specs.Reach.{ArePeered, GoesTo, CallsPeers, AreReached, IsReached}
use Rattle.world_events.specs.Sound.{IsSound, AllFew}
use Rattle.world_events.specs.declared.event.Event.{Event}
use Rattle.world_events.specs.declared.event.Event.TheVariants.{Begin, Deliver, Lose, Post as Posts, Step, Abandon, Order, Clock, Seed}
use Rattle.world_events.specs.declared.event.WorldStepRefused.TheVariants.{NoService}
use Rattle.world_events.specs.declared.packet.Live.{Live}
use Rattle.world_events.specs.declared.packet.Live.TheVariants.{Answer as LiveAnswer, Refused as LiveRefused}
use Rattle.world_events.specs.declared.packet.Packet.{Packet}
use Rattle.world_events.specs.declared.packet.Packet.TheVariants.{Call, CallReply, Post as PostPacket, PostReply as PostReplyPacket}
use Rattle.world_laws.proofs.PeerLaws.{Reaches, reaches_same, reached_calls, event_reaches}
use Rattle.world_laws.proofs.PutLemmas.{put, with_is_put, grew_put, all_put}
use Rattle.world_laws.proofs.WorldLaws.{turn_sound}

-- ---- calls go to peers still

module _ (w : World) (h : IsSound w) (r : IsReached w) where
  reached_put : (name : List ℕ) (s t : Kept) → service_of name w.services ≡ Some s → Reaches s t → AreReached (with_service name t w.services)
  reached_put name s t here reach =
      let old = w.services in
      let new = put name t old in
      let g : Grows s t = record { rows = reach.rows; is = reach.is; setting = reach.setting } in
      let grew = grew_put name s t g old here in
      let still : (n : List ℕ) → IsSome (service_of n old) → IsSome (service_of n new) =
      λ n some. (let x = some_of (service_of n old) some in let y = grew n x.0 x.1 in ap is_some y.1) in
      let peers : (x : Kept) → All (λ n. IsSome (service_of n old)) x.setting.peers → All (λ n. IsSome (service_of n new)) x.setting.peers =
      λ x all. All-weaker (λ n. IsSome (service_of n old)) (λ n. IsSome (service_of n new)) still x.setting.peers all in
      let mine = peers s (found_all (λ (x : Kept). All (λ n. IsSome (service_of n old)) x.setting.peers) (has_name name) old s r.peered here) in
      subst AreReached (sym (with_is_put name t old))
      (record {
        peered = all_put (λ (x : Kept). All (λ n. IsSome (service_of n new)) x.setting.peers) name t old
            (subst (λ x. All (λ n. IsSome (service_of n new)) x.peers) (sym reach.setting) mine)
            (All-weaker (λ (x : Kept). All (λ n. IsSome (service_of n old)) x.setting.peers) (λ (x : Kept). All (λ n. IsSome (service_of n new)) x.setting.peers) peers old r.peered);
        calls = all_put CallsPeers name t old (reached_calls s t reach (found_all CallsPeers (has_name name) old s r.calls here)) r.calls;
      })

  -- a turn leaves each message a receiver, where the service that acts calls peers alone
  reached_at : (name : List ℕ) (then : World) → then.services ≡ w.services → (act : Kept → Served)
      → ((s : Kept) → Fits s → CallsPeers s → Reaches s (act s).service) → AreReached (turn_at name w then act).world.services
  reached_at name then services act reach = by (service_of name w.services) refl
    where
      by : (o : Option Kept) → service_of name w.services ≡ o → AreReached (if_there o (refused w NoService) (λ s. turned name then (act s))).world.services
      by None found = r
      by (Some s) found =
          subst (λ xs. AreReached (with_service name (act s).service xs)) (sym services)
          (reached_put name s (act s).service found
          (reach s (found_all Fits (has_name name) w.services s h.fits found) (found_all CallsPeers (has_name name) w.services s r.calls found)))

  call_reached : (number flight : ℕ) (call : SetMessage) (o : Option Request) → AreReached (call_delivered w number flight call o).world.services
  call_reached number flight call None = r
  call_reached number flight call (Some q) =
      reached_at call.dest (once_drawn w) refl (λ s. call_arrive_served flight call q s (next_inputs w))
      (λ s fits calls. event_reaches s fits calls (service_event.Arrive (CallOrigin call.caller call.number) q (next_inputs w)))

  reply_reached : (to : List ℕ) (flight : ℕ) (number : ℕ) (reply : Live) → AreReached (reply_delivered w to flight number reply).world.services
  reply_reached to flight number (LiveAnswer a) = reached_at to w refl (call_answered_served w.packets flight a) (λ s fits calls. event_reaches s fits calls (service_event.CallAnswered flight a))
  reply_reached to flight number (LiveRefused word n) =
      reached_at to w refl (call_failed_served w.packets flight number (WasRefused word n)) (λ s fits calls. event_reaches s fits calls (service_event.CallFailed flight number (WasRefused word n)))

  post_reached : (post : Post) → AreReached (post_delivered w post).world.services
  post_reached (SetPost set) = reached_at set.dest (once_drawn w) refl (λ s. take_served set s (next_inputs w)) (λ s fits calls. event_reaches s fits calls (service_event.Take set (next_inputs w)))
  post_reached (TokenPost t) = reached_at t.caller w refl (take_token_served t) (λ s fits calls. event_reaches s fits calls (service_event.TakeToken t))
  post_reached (FetchPost f) = reached_at f.callee w refl (give_served f) (λ s fits calls. event_reaches s fits calls (service_event.Give f))

  delivered_reached : (number : ℕ) (p : Option Packet) → AreReached (delivered w number p).world.services
  delivered_reached number None = r
  delivered_reached number (Some (Call from flight call)) = call_reached number flight call call.desired
  delivered_reached number (Some (CallReply to flight call_number reply)) = reply_reached to flight call_number reply
  delivered_reached number (Some (PostPacket post)) = post_reached post
  delivered_reached number (Some (PostReplyPacket post reply)) =
      reached_at (sender post) w refl (posted_served post reply) (λ s fits calls. event_reaches s fits calls (service_event.Posted post reply))

  call_lost_reached : (name : List ℕ) (flight : ℕ) (number : ℕ) → AreReached (call_lost w name flight number).world.services
  call_lost_reached name flight number =
      reached_at name (once_lost w) refl (call_failed_served w.packets flight number (Lost (loss_note w)))
      (λ s fits calls. event_reaches s fits calls (service_event.CallFailed flight number (Lost (loss_note w))))

  post_lost_reached : (post : Post) → AreReached (post_lost w post).world.services
  post_lost_reached post =
      reached_at (sender post) (once_lost w) refl (posted_served post (PostIsLost (loss_note w))) (λ s fits calls. event_reaches s fits calls (service_event.Posted post (PostIsLost (loss_note w))))

  lost_reached : (number : ℕ) (p : Option Packet) → AreReached (lost w number p).world.services
  lost_reached number None = r
  lost_reached number (Some (Call from flight call)) = call_lost_reached from flight call.number
  lost_reached number (Some (CallReply to flight call_number reply)) = call_lost_reached to flight call_number
  lost_reached number (Some (PostPacket post)) = post_lost_reached post
  lost_reached number (Some (PostReplyPacket post reply)) = post_lost_reached post

  next_reached : (s : Kept) (o : Option PostName) → Reaches s (next_post_written s o).service
  next_reached s None = reaches_same s s refl refl
  next_reached s (Some name) = reaches_same s s refl refl

  posted_reached : (from to : List ℕ) (o : Option Kept) → AreReached (if_there o (refused w NoService) (λ _. at_service from w (next_post_served to))).world.services
  posted_reached from to None = r
  posted_reached from to (Some x) = reached_at from w refl (next_post_served to) (λ s fits calls. next_reached s (next_post to s))

  abandoned_reached : (name : List ℕ) (flight : ℕ) (o : Option Kept) → service_of name w.services ≡ o
      → AreReached (if_there o (refused w NoService) (λ s. if_flying w flight (flight_of flight s) (turned name w (abandon_served flight s)))).world.services
  abandoned_reached name flight None found = r
  abandoned_reached name flight (Some s) found = by (flight_of flight s)
    where
      by : (f : Option Flight) → AreReached (if_flying w flight f (turned name w (abandon_served flight s))).world.services
      by None = r
      by (Some f) =
          reached_put name s (abandon_served flight s).service found
          (event_reaches s (found_all Fits (has_name name) w.services s h.fits found) (found_all CallsPeers (has_name name) w.services s r.calls found) (service_event.Abandon flight))

  pub turn_reached : (e : Event) → IsReached (after_event w e)
  unfolding turn
  turn_reached (Begin name q) =
      reached_at name (once_drawn w) refl (λ s. arrive_served w.packets q s (next_inputs w)) (λ s fits calls. event_reaches s fits calls (service_event.Arrive Outside q (next_inputs w)))
  turn_reached (Deliver number) = delivered_reached number (packet_of number w)
  turn_reached (Lose number) = lost_reached number (packet_of number w)
  turn_reached (Posts from to) = posted_reached from to (service_of to w.services)
  turn_reached (Step name) = reached_at name w refl repair_step_served (λ s fits calls. event_reaches s fits calls service_event.Step)
  turn_reached (Abandon name flight) = abandoned_reached name flight (service_of name w.services) refl
  turn_reached (Order name command token who) =
      reached_at name (once_drawn w) refl (λ s. order_served command token who s (next_inputs w)) (λ s fits calls. event_reaches s fits calls (service_event.Order command token who (next_inputs w)))
  turn_reached (Clock moment) = r
  turn_reached (Seed n) = r

-- with each event
pub events_reached : (events : List Event) (w : World) → IsSound w → AllFew w events → IsReached w → IsReached (after_events w events)
events_reached [] w h few r = r
events_reached (e ∷ events) w h few r =
    events_reached events (after_event w e) (turn_sound w h e few.0) few.1 (turn_reached w h r e)

-- services whose peers are there, which wrote nothing
pub fresh_reached : (services : List Kept) → ArePeered services → All (λ (s : Kept). s.journal ≡ []) services → IsReached (fresh_world services)
fresh_reached services peered new = record {
  peered = peered;
  calls = All-weaker (λ (s : Kept). s.journal ≡ []) CallsPeers
      (λ s none. subst (All (GoesTo s.setting.peers)) (sym none) (All-nil (GoesTo s.setting.peers))) services new;
}
