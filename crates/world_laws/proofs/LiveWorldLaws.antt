-- Each event of live requests keeps a world live, and a request that is committed at it consumed what its callees answered, or its registers say why not.
use Rattle.std.proofs.Common.{◌≡◌, ℕ, zero, suc, ◌⊎◌, List, [], ◌∷◌, ◌++◌, Option, Some, None, IfSome, IsSomeAnd, IfOk, All, Contains, Result, Ok, Err, find, map, slice_get, option_to_list, refl, sym, ap, ◌∙◌, subst}
use Rattle.std.proofs.lemmas.List.Elements.{All-nil, All-cons, All-head, All-tail, All-append, All-contains, Contains-append_left, Contains-push}
use Rattle.lang_core.specs.declared.ids.Origin.TheVariants.{Outside, Call as CallOrigin}
use Rattle.lang_core.specs.declared.request.Request.{Request}
use Rattle.lang_core.specs.declared.trace.CallMade.{CallMade}
use Rattle.request_log.specs.declared.entry.Entry.{Entry}
use Rattle.local_repair.specs.Steps.{calls_of_made}
use Rattle.repair_messages.specs.declared.messages.AnswerMessage.{AnswerMessage}
use Rattle.repair_messages.specs.declared.messages.SetMessage.{SetMessage}
use Rattle.call_registers.specs.declared.register.Why.{Why}
use Rattle.call_registers.specs.declared.register.Why.TheVariants.{Lost, Refused as WasRefused}
use Rattle.flights.specs.declared.flight.Flight.{Flight}
use Rattle.service_events.specs.State.{Kept, me, flight_of}
use Rattle.service_events.specs.Arriving.{arrive_event, call_answered_event, call_failed_event}
use Rattle.service_events.specs.Fits.{Fits, WantsItsCalls, calls_of_entry, calls_of_flight, places, wanted_call}
use Rattle.service_events.specs.declared.answers.Arrived.{Arrived}
use Rattle.service_events.specs.declared.answers.Arrived.TheVariants.{Done, Call as Sends, Known}
use Rattle.service_events.specs.declared.event.Event.TheVariants as service_event
use Rattle.service_events.proofs.SearchLemmas.{found_all}
use Rattle.world_agreement.proofs.ListLemmas.{contains_map}
use Rattle.world_agreement.proofs.NameLemmas.{found_own}
use Rattle.world_agreement.specs.Partners.{has_name, service_of}
use Rattle.world_events.specs.Worlds.{World, fresh_world, with_service, packet_of, next_inputs, once_drawn, once_lost, loss_note}
use Rattle.world_events.specs.Events.{Turn, Served, refused, turned, if_there, turn_at, outcome, sent_or, unsaid, is_call_of, reply_to, reply_among, arrive_served, live_refusal, call_arrive_served, call_answered_served, call_failed_served, abandon_served, call_delivered, reply_delivered, delivered, call_lost, lost, if_flying, abandon_turn, turn, after_event}
use Rattle.world_events.specs.Live.{IsLiveEvent, AllLiveEvents, IsAnswered, IsTold, EachCall, CallsEnd, EntryEnds, CommitEnds, WhatEnds, CommitsEnd, AllCommitsEnd, IsLiveRow, WaitsForOne, IsLive, IsLivePacket, IsLiveWorld}
use Rattle.world_events.specs.Sound.{CallStands, ReplyStands, PacketStands, AreSound, IsSound, AreFew, AllFew}
use Rattle.world_events.specs.declared.event.Event.{Event}
use Rattle.world_events.specs.declared.event.Event.TheVariants.{Begin, Deliver, Lose, Abandon, Clock, Seed}
use Rattle.world_events.specs.declared.event.WorldStepRefused.TheVariants.{NoService, NoPacket}
use Rattle.world_events.specs.declared.happened.Outcome.{Outcome}
use Rattle.world_events.specs.declared.happened.Outcome.TheVariants as came
use Rattle.world_events.specs.declared.happened.What.{What}
use Rattle.world_events.specs.declared.happened.What.TheVariants as what
use Rattle.world_events.specs.declared.packet.Live.{Live}
use Rattle.world_events.specs.declared.packet.Live.TheVariants.{Answer as LiveAnswer, Refused as LiveRefused}
use Rattle.world_events.specs.declared.packet.Packet.{Packet}
use Rattle.world_events.specs.declared.packet.Packet.TheVariants.{Call, CallReply, Post as PostPacket, PostReply as PostReplyPacket}
use Rattle.world_laws.proofs.CommitFacts.{call_ends}
use Rattle.world_laws.proofs.HeardLaws.{AllOver}
use Rattle.world_laws.proofs.LiveLaws.{EndsOr, arrive_live, call_answered_live, call_failed_live, abandon_live}
use Rattle.world_laws.proofs.PutLemmas.{put, with_is_put, found_put, all_put}
use Rattle.world_laws.proofs.WorldLaws.{Owes, written_all, arrive_served_owes, call_arrive_served_owes, call_answered_served_owes, call_failed_served_owes, unwritten_owes, found_packet, turn_sound}

-- ---- what tells of a commit

-- the entry that was made is the last one, and each of its calls is over
abbrev pub OutcomeIs : Kept → Outcome → Type 0
OutcomeIs t (came.Done index id) = (front : List Entry) × (e : Entry) × (t.entries ≡ front ++ e ∷ []) × (e.id ≡ id) × AllOver t.registers e.slots
OutcomeIs t outcome = Unit {0}

abbrev pub WhatIs : Kept → What → Type 0
WhatIs t (what.Arrive r) = IfOk r (OutcomeIs t)
WhatIs t (what.CallAnswered r) = IfOk r (OutcomeIs t)
WhatIs t (what.CallFailed r) = IfOk r (OutcomeIs t)
WhatIs t other = Unit {0}

outcome_is : {E : Type 0} (t : Kept) (r : Result Arrived E) → EndsOr t r → IfOk (outcome r) (OutcomeIs t)
outcome_is t (Ok (Done index id back)) h = h
outcome_is t (Ok (Sends flight call)) h = tt
outcome_is t (Ok (Known a)) h = tt
outcome_is t (Err why) h = tt

-- ---- the calls of a committed request

module _ (services : List Kept) (packets : List Packet) (h : AreSound services packets) (lives : All IsLive services) (name : List ℕ) (t : Kept)
    (here : service_of name services ≡ Some t) where
  each_ends : (ns : List ℕ) (cs : List CallMade) → map (wanted_call t.registers) ns ≡ map Some cs → AllOver t.registers ns
      → EachCall (λ n c. IsAnswered services t n c ⊎ IsTold t n) ns cs
  each_ends [] [] e heard = tt
  each_ends [] (c ∷ cs) e heard = cc
  each_ends (n ∷ ns) [] e heard = cc
  each_ends (n ∷ ns) (c ∷ cs) e heard =
      (call_ends services packets h lives name t here n c (head_is e) heard.0, each_ends ns cs (tail_is e) heard.1)
    where
      head_is : wanted_call t.registers n ∷ map (wanted_call t.registers) ns ≡ Some c ∷ map Some cs → wanted_call t.registers n ≡ Some c
      head_is e = cc

      tail_is : wanted_call t.registers n ∷ map (wanted_call t.registers) ns ≡ Some c ∷ map Some cs → map (wanted_call t.registers) ns ≡ map Some cs
      tail_is e = cc

  entry_ends : (id : ℕ) (front : List Entry) (e : Entry) → t.entries ≡ front ++ e ∷ [] → e.id ≡ id → AllOver t.registers e.slots → EntryEnds services id t
  entry_ends id front e is same heard =
      let fits = found_all Fits (has_name name) services t h.fits here in
      let has : Contains t.entries e = subst (λ es. Contains es e) (sym is) (Contains-push front e) in
      let found = found_own t.entries e fits.asked.distinct has in
      let place = Contains-append_left (map calls_of_entry t.entries) (map calls_of_flight t.flights) (calls_of_entry e) (contains_map calls_of_entry t.entries e has) in
      let wants = All-contains (WantsItsCalls t.registers) (places t) (calls_of_entry e) fits.places.calls place in
      subst (λ k. EntryEnds services k t) same
      (subst (λ o. IsSomeAnd o (CallsEnd services t)) (sym found) (each_ends e.slots (calls_of_made e.made) wants heard))

  commit_ends : (o : Outcome) → OutcomeIs t o → CommitEnds services (Some name) o
  commit_ends (came.Done index id) x = subst (λ o. IsSomeAnd o (EntryEnds services id)) (sym here) (entry_ends id x.0 x.1 x.2 x.3 x.4)
  commit_ends (came.Call flight) x = tt
  commit_ends (came.Known id v) x = tt

  result_ends : {E : Type 0} (r : Result Outcome E) → IfOk r (OutcomeIs t) → IfOk r (CommitEnds services (Some name))
  result_ends (Ok o) x = commit_ends o x
  result_ends (Err why) x = tt

  what_ends : (x : What) → WhatIs t x → WhatEnds services (Some name) x
  what_ends (what.Arrive r) x = result_ends r x
  what_ends (what.CallAnswered r) x = result_ends r x
  what_ends (what.CallFailed r) x = result_ends r x
  what_ends other x = tt

-- ---- a service acts

pub record ServesLive (d : Served) : Type 0 where
  pub live : IsLive d.service
  pub packet : IfSome d.packet IsLivePacket
  pub tells : WhatIs d.service d.what

live_packet : {E : Type 0} (name : List ℕ) (back : AnswerMessage → Option Packet) (refusal : E → Option Packet) → ((a : AnswerMessage) → IfSome (back a) IsLivePacket)
    → ((why : E) → IfSome (refusal why) IsLivePacket) → (r : Result Arrived E) → IfSome (sent_or name back refusal r) IsLivePacket
live_packet name back refusal backs refuses (Ok (Done index id None)) = tt
live_packet name back refusal backs refuses (Ok (Done index id (Some a))) = backs a
live_packet name back refusal backs refuses (Ok (Sends flight call)) = tt
live_packet name back refusal backs refuses (Ok (Known a)) = backs a
live_packet name back refusal backs refuses (Err why) = refuses why

reply_live : (a : AnswerMessage) (p : Option Packet) → IfSome (reply_to a p) IsLivePacket
reply_live a None = tt
reply_live a (Some (Call from flight call)) = tt
reply_live a (Some (CallReply to flight call_number reply)) = tt
reply_live a (Some (PostPacket post)) = tt
reply_live a (Some (PostReplyPacket post reply)) = tt

module _ (packets : List Packet) (s : Kept) (fits : Fits s) (live : IsLive s) where
  arrive_served_live : (q : Request) (i : _) → ServesLive (arrive_served packets q s i)
  arrive_served_live q i =
      let a = arrive_event s Outside q i in
      let g = arrive_live s fits live Outside q i in
      record {
        live = g.live;
        packet = live_packet (me a.service) (reply_among packets) unsaid (λ x. reply_live x (find (is_call_of x.caller x.number) packets)) (λ why. tt) a.answer;
        tells = outcome_is a.service a.answer g.ends;
      }

  call_arrive_served_live : (flight : ℕ) (call : SetMessage) (q : Request) (i : _) → ServesLive (call_arrive_served flight call q s i)
  call_arrive_served_live flight call q i =
      let a = arrive_event s (CallOrigin call.caller call.number) q i in
      let g = arrive_live s fits live (CallOrigin call.caller call.number) q i in
      record {
        live = g.live;
        packet = live_packet (me a.service) (λ x. Some (CallReply call.caller flight call.number (LiveAnswer x))) (λ why. Some (CallReply call.caller flight call.number (live_refusal why))) (λ x. tt) (λ why. tt) a.answer;
        tells = outcome_is a.service a.answer g.ends;
      }

  answered_live : (flight : ℕ) (x : AnswerMessage) → ServesLive (call_answered_served packets flight x s)
  answered_live flight x =
      let a = call_answered_event s flight x in
      let g = call_answered_live s fits live flight x in
      record {
        live = g.live;
        packet = live_packet (me a.service) (reply_among packets) unsaid (λ y. reply_live y (find (is_call_of y.caller y.number) packets)) (λ why. tt) a.answer;
        tells = outcome_is a.service a.answer g.ends;
      }

  failed_live : (flight n : ℕ) (why : Why) → ServesLive (call_failed_served packets flight n why s)
  failed_live flight n why =
      let a = call_failed_event s flight n why in
      let g = call_failed_live s fits live flight n why in
      record {
        live = g.live;
        packet = live_packet (me a.service) (reply_among packets) unsaid (λ y. reply_live y (find (is_call_of y.caller y.number) packets)) (λ why. tt) a.answer;
        tells = outcome_is a.service a.answer g.ends;
      }

  abandon_served_live : (flight : ℕ) → ServesLive (abandon_served flight s)
  abandon_served_live flight = record { live = abandon_live s fits live flight; packet = tt; tells = tt }

-- ---- a world

module _ (w : World) (h : IsSound w) (l : IsLiveWorld w) where
  -- what holds of a turn whose world is sound
  abbrev LivesOn : Turn → Type 0
  LivesOn t = IsSound t.world → IsLiveWorld t.world × IfOk t.answer (λ x. WhatEnds (t.world).services x.service x.what)

  live_put : (name : List ℕ) (s : Kept) → service_of name w.services ≡ Some s → (then : World) → then.services ≡ w.services → then.packets ≡ w.packets → (d : Served)
      → Owes w.services name s d → ServesLive d → LivesOn (turned name then d)
  live_put name s here then services packets d owes d_live sound =
      let same = with_is_put name d.service then.services ∙ ap (put name d.service) services in
      let now = found_put name s d.service owes.turns.grows w.services here in
      let found : service_of name (with_service name d.service then.services) ≡ Some d.service = ap (service_of name) same ∙ now in
      let all = all_put IsLive name d.service w.services d_live.live l.services in
      let lives = subst (All IsLive) (sym same) all in
      let P : List Packet → Type 0 = λ ps. All IsLivePacket (ps ++ option_to_list d.packet) in (
        record { services = lives; packets = subst P (sym packets) (All-append IsLivePacket w.packets (option_to_list d.packet) l.packets (written_all IsLivePacket d.packet d_live.packet)) },
        what_ends (with_service name d.service then.services) (then.packets ++ option_to_list d.packet) sound lives name d.service found d.what d_live.tells,
      )

  live_at : (name : List ℕ) (then : World) → then.services ≡ w.services → then.packets ≡ w.packets → (act : Kept → Served)
      → ((s : Kept) → service_of name w.services ≡ Some s → Owes w.services name s (act s)) → ((s : Kept) → Fits s → IsLive s → ServesLive (act s)) → LivesOn (turn_at name w then act)
  live_at name then services packets act owes d_live = by_service (service_of name w.services) refl
    where
      by_service : (o : Option Kept) → service_of name w.services ≡ o → LivesOn (if_there o (refused w NoService) (λ s. turned name then (act s)))
      by_service None found sound = (l, tt)
      by_service (Some s) found sound =
          live_put name s found then services packets (act s) (owes s found)
          (d_live s (found_all Fits (has_name name) w.services s h.fits found) (found_all IsLive (has_name name) w.services s l.services found)) sound

  stays : (number : ℕ) → LivesOn (refused w (NoPacket number))
  stays number sound = (l, tt)

  call_lives : (number : ℕ) (from : List ℕ) (flight : ℕ) (call : SetMessage) → CallStands w.services from call → (o : Option Request) → call.desired ≡ o
      → LivesOn (call_delivered w number flight call o)
  call_lives number from flight call stands None is = stays number
  call_lives number from flight call stands (Some q) is =
      live_at call.dest (once_drawn w) refl refl (λ s. call_arrive_served flight call q s (next_inputs w))
      (λ s found. call_arrive_served_owes w.services w.packets h call.dest s found from flight call q (next_inputs w) stands refl is)
      (λ s fits live. call_arrive_served_live w.packets s fits live flight call q (next_inputs w))

  reply_lives : (to : List ℕ) (flight : ℕ) (number : ℕ) (reply : Live) → ReplyStands w.services to reply → LivesOn (reply_delivered w to flight number reply)
  reply_lives to flight number (LiveAnswer a) stands =
      live_at to w refl refl (call_answered_served w.packets flight a) (λ s found. call_answered_served_owes w.services w.packets h to s found flight a stands.0 stands.1)
      (λ s fits live. answered_live w.packets s fits live flight a)
  reply_lives to flight number (LiveRefused word n) stands =
      live_at to w refl refl (call_failed_served w.packets flight number (WasRefused word n))
      (λ s found. call_failed_served_owes w.services w.packets h to s found flight number (WasRefused word n))
      (λ s fits live. failed_live w.packets s fits live flight number (WasRefused word n))

  delivered_lives : (number : ℕ) (p : Option Packet) → IfSome p (PacketStands w.services) → IfSome p IsLivePacket → LivesOn (delivered w number p)
  delivered_lives number None stands live = stays number
  delivered_lives number (Some (Call from flight call)) stands live = call_lives number from flight call stands call.desired refl
  delivered_lives number (Some (CallReply to flight call_number reply)) stands live = reply_lives to flight call_number reply stands
  delivered_lives number (Some (PostPacket post)) stands live = absurd live
  delivered_lives number (Some (PostReplyPacket post reply)) stands live = absurd live

  call_lost_lives : (name : List ℕ) (flight : ℕ) (number : ℕ) → LivesOn (call_lost w name flight number)
  call_lost_lives name flight number =
      live_at name (once_lost w) refl refl (call_failed_served w.packets flight number (Lost (loss_note w)))
      (λ s found. call_failed_served_owes w.services w.packets h name s found flight number (Lost (loss_note w)))
      (λ s fits live. failed_live w.packets s fits live flight number (Lost (loss_note w)))

  lost_lives : (number : ℕ) (p : Option Packet) → IfSome p IsLivePacket → LivesOn (lost w number p)
  lost_lives number None live = stays number
  lost_lives number (Some (Call from flight call)) live = call_lost_lives from flight call.number
  lost_lives number (Some (CallReply to flight call_number reply)) live = call_lost_lives to flight call_number
  lost_lives number (Some (PostPacket post)) live = absurd live
  lost_lives number (Some (PostReplyPacket post reply)) live = absurd live

  got : (ps : List Packet) (place : ℕ) → All IsLivePacket ps → IfSome (slice_get ps place) IsLivePacket
  got [] place all = tt
  got (p ∷ ps) zero all = All-head IsLivePacket p ps all
  got (p ∷ ps) (suc place) all = got ps place (All-tail IsLivePacket p ps all)

  packet_lives : (number : ℕ) → IfSome (packet_of number w) IsLivePacket
  packet_lives zero = tt
  packet_lives (suc place) = got w.packets place l.packets

  abandoned_lives : (name : List ℕ) (flight : ℕ) → LivesOn (abandon_turn w name flight)
  abandoned_lives name flight = by_service (service_of name w.services) refl
    where
      by_flight : (s : Kept) → service_of name w.services ≡ Some s → (o : Option Flight) → LivesOn (if_flying w flight o (turned name w (abandon_served flight s)))
      by_flight s found None sound = (l, tt)
      by_flight s found (Some f) sound =
          live_put name s found w refl refl (abandon_served flight s)
          (unwritten_owes w.services w.packets h name s found (service_event.Abandon flight) tt (abandon_served flight s).what)
          (abandon_served_live w.packets s (found_all Fits (has_name name) w.services s h.fits found) (found_all IsLive (has_name name) w.services s l.services found) flight) sound

      by_service : (o : Option Kept) → service_of name w.services ≡ o
          → LivesOn (if_there o (refused w NoService) (λ s. if_flying w flight (flight_of flight s) (turned name w (abandon_served flight s))))
      by_service None found sound = (l, tt)
      by_service (Some s) found sound = by_flight s found (flight_of flight s) sound

  turn_lives : (e : Event) → IsLiveEvent e → LivesOn (turn w e)
  unfolding turn
  turn_lives (Begin name q) live =
      live_at name (once_drawn w) refl refl (λ s. arrive_served w.packets q s (next_inputs w)) (λ s found. arrive_served_owes w.services w.packets h name s found q (next_inputs w))
      (λ s fits live. arrive_served_live w.packets s fits live q (next_inputs w))
  turn_lives (Deliver number) live = delivered_lives number (packet_of number w) (found_packet w h number) (packet_lives number)
  turn_lives (Lose number) live = lost_lives number (packet_of number w) (packet_lives number)
  turn_lives (Abandon name flight) live = abandoned_lives name flight
  turn_lives (Clock moment) live = λ sound. (record { services = l.services; packets = l.packets }, tt)
  turn_lives (Seed n) live = λ sound. (record { services = l.services; packets = l.packets }, tt)
  turn_lives e live = absurd live

-- an event of live requests keeps the world live, and what it commits consumed what was answered, or says why not
pub live_event : (w : World) (e : Event) → IsSound w → IsLiveWorld w → IsLiveEvent e → AreFew (after_event w e) → IsLiveWorld (after_event w e) × CommitsEnd w e
live_event w e h l live few = turn_lives w h l e live (turn_sound w h e few)

-- ---- several events

-- in a run of events of live requests, each commit ends so
pub live_events : (events : List Event) (w : World) → IsSound w → IsLiveWorld w → AllLiveEvents events → AllFew w events → AllCommitsEnd w events
live_events [] w h l live few = tt
live_events (e ∷ events) w h l live few =
    let one = live_event w e h l live.0 few.0 in
    (one.1, live_events events (after_event w e) (turn_sound w h e few.0) one.0 live.1 few.1)

-- services that keep nothing yet are live, in a world in which nothing was written
pub fresh_live : (services : List Kept) → All (λ (s : Kept). s.journal ≡ []) services → All (λ (s : Kept). s.flights ≡ []) services → IsLiveWorld (fresh_world services)
fresh_live services journals flights = record {
  services = each services journals flights;
  packets = All-nil IsLivePacket;
}
  where
    each : (xs : List Kept) → All (λ (s : Kept). s.journal ≡ []) xs → All (λ (s : Kept). s.flights ≡ []) xs → All IsLive xs
    each [] j f = All-nil IsLive
    each (x ∷ xs) j f =
        All-cons IsLive x xs
        (record {
          rows = subst (All IsLiveRow) (sym (All-head (λ (s : Kept). s.journal ≡ []) x xs j)) (All-nil IsLiveRow);
          flights = subst (All (WaitsForOne x.registers)) (sym (All-head (λ (s : Kept). s.flights ≡ []) x xs f)) (All-nil (WaitsForOne x.registers));
        })
        (each xs (All-tail (λ (s : Kept). s.journal ≡ []) x xs j) (All-tail (λ (s : Kept). s.flights ≡ []) x xs f))
