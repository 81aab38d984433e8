-- A delivery makes the world and the packet in hand lighter.
use Rattle.std.proofs.Common.{◌≡◌, ℕ, suc, ◌+◌, ◌<◌, ◌≤◌, Bool, true, false, List, [], ◌∷◌, ◌++◌, Option, Some, None, IfSome, IsSomeAnd, Result, Ok, Err, find, get_or, length, set, slice_get, refl, sym, ap, ◌∙◌, subst, inl, inr, arith, sum_by, option_map, if◌then◌else◌}
use Rattle.std.specs.Prelude.{option_to_list}
use Rattle.std.specs.List.{position_or_len}
use Rattle.std.proofs.lemmas.Bool.{cases_Bool}
use Rattle.std.proofs.lemmas.List.Folds.{find_at}
use Rattle.std.proofs.lemmas.List.Sums.{sum_by-set}
use Rattle.std.proofs.lemmas.Option.{same_Some, slice_get_within, slice_get-get_or}
use Rattle.std.proofs.Math.Seq.{map-set_same}
use Rattle.lang_core.specs.declared.ids.Origin.TheVariants.{Outside, Call as CallOrigin}
use Rattle.lang_core.specs.declared.request.Request.{Request}
use Rattle.repair_messages.specs.declared.messages.AnswerMessage.{AnswerMessage}
use Rattle.repair_messages.specs.declared.messages.SetMessage.{SetMessage}
use Rattle.call_registers.specs.declared.register.Why.{Why}
use Rattle.call_registers.specs.declared.register.Why.TheVariants.{Refused as WasRefused}
use Rattle.service_events.specs.State.{Kept, me}
use Rattle.service_events.specs.Arriving.{arrive_event, call_answered_event, call_failed_event}
use Rattle.service_events.specs.declared.answers.Arrived.{Arrived}
use Rattle.service_events.specs.declared.answers.Arrived.TheVariants.{Done, Call as Sends, Known}
use Rattle.service_events.specs.declared.refusals.ArriveRefused.{ArriveRefused}
use Rattle.service_events.specs.declared.refusals.CallRefused.{CallRefused}
use Rattle.service_events.proofs.SearchLemmas.{text_is, splits}
use Rattle.world_events.specs.Events.{Served, Turn, answered_back, turn, turned, if_there, refused, sent, sent_or, reply_among, reply_to, call_arrive_served, call_answered_served, call_failed_served, delivered, call_delivered, reply_delivered, is_call_of, live_refusal, arrive_served, drawing_at, unsaid}
use Rattle.world_events.specs.Worlds.{World, with_service, packet_of, packet_in, next_packet, next_inputs, once_drawn}
use Rattle.world_events.specs.declared.event.Event.TheVariants.{Begin, Deliver}
use Rattle.world_events.specs.declared.event.WorldStepRefused.{WorldStepRefused}
use Rattle.world_events.specs.declared.packet.Live.{Live}
use Rattle.world_events.specs.declared.packet.Live.TheVariants.{Answer, Refused}
use Rattle.world_events.specs.declared.packet.Packet.{Packet}
use Rattle.world_events.specs.declared.packet.Packet.TheVariants.{Call, CallReply, Post, PostReply}
use Rattle.world_events.specs.Live.{IsLivePacket}
use Rattle.world_agreement.specs.Partners.{has_name, service_of}
use Rattle.world_laws.proofs.AskLaws.{arrive_lightens, call_answered_lightens, call_failed_lightens}
use Rattle.world_laws.proofs.WeightLemmas.{cost_some}
use Rattle.world_laws.proofs.Weights.{is_among, load, cost, left_by, chain_behind, call_weight, message_weight, sent_weight, weight_of_arrival, weight_of_return}
use Rattle.world_laws.specs.InHand.{written_at, IsInHand}
use Rattle.world_laws.proofs.WorldWeights.{names_of, packet_weight, weight_if, in_hand, world_weight}

-- ---- packets

-- the packet that is written behind others has the next number
behind : {X : Type 0} (xs : List X) (x : X) → slice_get (xs ++ x ∷ []) (length xs) ≡ Some x
behind [] x = refl
behind (y ∷ ys) x = behind ys x

packet_next : (packets : List Packet) (p : Packet) → packet_in (length packets + 1) (packets ++ p ∷ []) ≡ Some p
packet_next packets p = (let e : length packets + 1 ≡ suc (length packets) = omega arith in ap (λ n. packet_in n (packets ++ p ∷ [])) e ∙ behind packets p)

-- ---- weights

some_weight : (among : Bool) (n : ℕ) → 1 ≤ (if among then cost (suc n) else 1)
some_weight true n = cost_some (suc n)
some_weight false n = omega arith

message_some : (names : List (List ℕ)) (set : SetMessage) (q : Option Request) → 1 ≤ message_weight names set q
message_some names set None = omega arith
message_some names set (Some q) = some_weight (is_among set.dest names) (left_by (chain_behind set.dest q) names)

packet_some : (names : List (List ℕ)) (p : Packet) → 1 ≤ packet_weight names p
packet_some names (Call from flight set) = message_some names set set.desired
packet_some names (CallReply to flight call_number reply) = omega arith
packet_some names (Post post) = omega arith
packet_some names (PostReply post reply) = omega arith

-- what is sent of a live request weighs at most what its event answers
abbrev IsLight : (AnswerMessage → Option Packet) → Type 0
IsLight back = (names : List (List ℕ)) (a : AnswerMessage) → weight_if names (back a) ≤ 1

back_light : (back : AnswerMessage → Option Packet) → IsLight back → (names : List (List ℕ)) (a : Option AnswerMessage) → weight_if names (answered_back back a) ≤ 1
back_light back light names None = omega arith
back_light back light names (Some a) = light names a

sent_light : (back : AnswerMessage → Option Packet) → IsLight back → (names : List (List ℕ)) (name : List ℕ) (arrived : Arrived) → weight_if names (sent name back arrived) ≤ sent_weight names arrived
sent_light back light names name (Done index id a) = back_light back light names a
sent_light back light names name (Sends flight set) = omega arith
sent_light back light names name (Known a) = light names a

reply_to_light : (names : List (List ℕ)) (a : AnswerMessage) (o : Option Packet) → weight_if names (reply_to a o) ≤ 1
reply_to_light names a None = omega arith
reply_to_light names a (Some (Call from flight set)) = omega arith
reply_to_light names a (Some (CallReply to flight call_number reply)) = omega arith
reply_to_light names a (Some (Post post)) = omega arith
reply_to_light names a (Some (PostReply post reply)) = omega arith

reply_light : (packets : List Packet) → IsLight (reply_among packets)
reply_light packets names a = reply_to_light names a (find (is_call_of a.caller a.number) packets)

-- ---- a service among the others

-- the service of a name, at its place
record IsAt (name : List ℕ) (services : List Kept) (s : Kept) : Type 0 where
  within : position_or_len (has_name name) services < length services
  is : s ≡ get_or services (position_or_len (has_name name) services) s
  named : me s ≡ name

is_at : (name : List ℕ) (services : List Kept) (s : Kept) → service_of name services ≡ Some s → IsAt name services s
is_at name services s e =
    let at = position_or_len (has_name name) services in
    let got : slice_get services at ≡ Some s = sym (find_at (has_name name) services) ∙ e in
    let within = slice_get_within services at s got in
    record {
      within = within;
      is = same_Some s (get_or services at s) (sym got ∙ slice_get-get_or services at s within);
      named = text_is (me s) name (splits (has_name name) services s e).passes;
    }

found_among : (name : List ℕ) (services : List Kept) (s : Kept) → service_of name services ≡ Some s → is_among name (names_of services) ≡ true
found_among name [] s e = cc
found_among name (x ∷ xs) s e = elim (cases_Bool (has_name name x)) [
  | inl is ↦ rw is refl
  | inr other ↦ rw other (found_among name xs s (rw other at e))
]

-- ---- a turn

-- what is written behind these packets is the packet in hand
hand_is : (w : World) (packets : List Packet) (o : Option Packet) → w.packets ≡ packets ++ option_to_list o → in_hand w (option_map (λ _. length packets + 1) o) ≡ o
hand_is w packets None e = refl
hand_is w packets (Some p) e = ap (packet_in (length packets + 1)) e ∙ packet_next packets p

-- what a service does makes it lighter, with what is written of it, than with what came
abbrev Lightens : List (List ℕ) → (Kept → Served) → ℕ → Kept → Type 0
Lightens names act came s = (me (act s).service ≡ me s) × (load names (act s).service + weight_if names (act s).packet < load names s + came)

turned_falls : (w later : World) (name : List ℕ) (s : Kept) (act : Kept → Served) (came : ℕ) → later.services ≡ w.services → later.packets ≡ w.packets
    → service_of name w.services ≡ Some s → Lightens (names_of w.services) act came s
    → world_weight (turned name later (act s)).world (written_at (turned name later (act s)).answer) < sum_by (load (names_of w.services)) w.services + came
turned_falls w later name s act came services packets found light =
    let names = names_of w.services in
    let at = position_or_len (has_name name) w.services in
    let d = act s in
    let there = is_at name w.services s found in
    let put = set w.services at d.service in
    let placed : with_service name d.service later.services ≡ put = ap (with_service name d.service) services in
    let same_names : names_of put ≡ names = map-set_same me w.services at d.service s (light.0 ∙ ap me there.is) in
    let all_names : names_of (with_service name d.service later.services) ≡ names = ap names_of placed ∙ same_names in
    let world = (turned name later d).world in
    let loads : sum_by (load (names_of world.services)) world.services ≡ sum_by (load names) put =
    ap (λ n. sum_by (load n) world.services) all_names ∙ ap (sum_by (load names)) placed in
    let hand : weight_if (names_of world.services) (in_hand world (option_map (λ _. next_packet later) d.packet)) ≡ weight_if names d.packet =
    ap (λ n. weight_if n (in_hand world (option_map (λ _. next_packet later) d.packet))) all_names ∙ ap (weight_if names) (hand_is world later.packets d.packet refl) in
    let total = sum_by-set (load names) w.services at d.service s there.within in
    let own : load names (get_or w.services at s) ≡ load names s = ap (load names) (sym there.is) in
    let less = light.1 in
    omega (arith, loads, hand, total, own, less)

turn_falls : (w later : World) (name : List ℕ) (o : Option Kept) (act : Kept → Served) (came : ℕ) → later.services ≡ w.services → later.packets ≡ w.packets
    → service_of name w.services ≡ o → 1 ≤ came → ((s : Kept) → service_of name w.services ≡ Some s → Lightens (names_of w.services) act came s)
    → (why : WorldStepRefused)
    → world_weight (if_there o (refused w why) (λ s. turned name later (act s))).world (written_at (if_there o (refused w why) (λ s. turned name later (act s))).answer)
    < sum_by (load (names_of w.services)) w.services + came
turn_falls w later name None act came services packets found some light why = omega (arith, some)
turn_falls w later name (Some s) act came services packets found some light why = turned_falls w later name s act came services packets found (light s found)

-- ---- a live call comes

call_arrive_served_weighs : (names : List (List ℕ)) (flight : ℕ) (set : SetMessage) (name : List ℕ) (answer : Result Arrived ArriveRefused)
    → weight_if names (sent_or name (λ a. Some (CallReply set.caller flight set.number (Answer a))) (λ why. Some (CallReply set.caller flight set.number (live_refusal why))) answer)
    ≤ weight_of_arrival names answer
call_arrive_served_weighs names flight set name (Ok arrived) = sent_light (λ a. Some (CallReply set.caller flight set.number (Answer a))) (λ ns a. omega arith) names name arrived
call_arrive_served_weighs names flight set name (Err why) = omega arith

call_arrive_served_light : (w : World) (flight : ℕ) (set : SetMessage) (q : Request) (s : Kept) → service_of set.dest w.services ≡ Some s
    → Lightens (names_of w.services) (λ s. call_arrive_served flight set q s (next_inputs w)) (call_weight (names_of w.services) set.dest q) s
call_arrive_served_light w flight set q s found =
    let names = names_of w.services in
    let there = is_at set.dest w.services s found in
    let a = arrive_event s (CallOrigin set.caller set.number) q (next_inputs w) in
    let A : List ℕ → Type 0 = λ n. is_among n names ≡ true in
    let among = subst A (sym there.named) (found_among set.dest w.services s found) in
    let l = arrive_lightens names s q (next_inputs w) (CallOrigin set.caller set.number) among in
    let weighs = call_arrive_served_weighs names flight set (me a.service) a.answer in
    let price : call_weight names (me s) q ≡ call_weight names set.dest q = ap (λ n. call_weight names n q) there.named in
    let less = l.1 in
    (l.0, omega (arith, weighs, price, less))

call_falls : (w : World) (k flight : ℕ) (set : SetMessage) (o : Option Request)
    → world_weight (call_delivered w k flight set o).world (written_at (call_delivered w k flight set o).answer)
    < sum_by (load (names_of w.services)) w.services + message_weight (names_of w.services) set o
call_falls w k flight set None = omega arith
call_falls w k flight set (Some q) =
    turn_falls w (once_drawn w) set.dest (service_of set.dest w.services) (λ s. call_arrive_served flight set q s (next_inputs w)) (call_weight (names_of w.services) set.dest q) refl refl refl
    (message_some (names_of w.services) set (Some q)) (call_arrive_served_light w flight set q) _

-- ---- something comes back of a live call

returned_weighs : (names : List (List ℕ)) (packets : List Packet) (name : List ℕ) (answer : Result Arrived CallRefused)
    → weight_if names (sent_or name (reply_among packets) (λ why. None) answer) ≤ weight_of_return names answer
returned_weighs names packets name (Ok arrived) = sent_light (reply_among packets) (reply_light packets) names name arrived
returned_weighs names packets name (Err why) = omega arith

call_answered_served_light : (w : World) (flight : ℕ) (a : AnswerMessage) (s : Kept) → Lightens (names_of w.services) (call_answered_served w.packets flight a) 1 s
call_answered_served_light w flight a s =
    let names = names_of w.services in
    let e = call_answered_event s flight a in
    let l = call_answered_lightens names s flight a in
    let weighs = returned_weighs names w.packets (me e.service) e.answer in
    let less = l.1 in
    (l.0, omega (arith, weighs, less))

call_failed_served_light : (w : World) (flight number : ℕ) (why : Why) (s : Kept) → Lightens (names_of w.services) (call_failed_served w.packets flight number why) 1 s
call_failed_served_light w flight number why s =
    let names = names_of w.services in
    let e = call_failed_event s flight number why in
    let l = call_failed_lightens names s flight number why in
    let weighs = returned_weighs names w.packets (me e.service) e.answer in
    let less = l.1 in
    (l.0, omega (arith, weighs, less))

reply_falls : (w : World) (to : List ℕ) (flight : ℕ) (number : ℕ) (reply : Live)
    → world_weight (reply_delivered w to flight number reply).world (written_at (reply_delivered w to flight number reply).answer) < sum_by (load (names_of w.services)) w.services + 1
reply_falls w to flight number (Answer a) =
    turn_falls w w to (service_of to w.services) (call_answered_served w.packets flight a) 1 refl refl refl (omega arith) (λ s found. call_answered_served_light w flight a s) _
reply_falls w to flight number (Refused word n) =
    turn_falls w w to (service_of to w.services) (call_failed_served w.packets flight number _) 1 refl refl refl (omega arith) (λ s found. call_failed_served_light w flight number _ s) _

packet_falls : (w : World) (k : ℕ) (p : Packet) → IsLivePacket p
    → world_weight (delivered w k (Some p)).world (written_at (delivered w k (Some p)).answer) < sum_by (load (names_of w.services)) w.services + packet_weight (names_of w.services) p
packet_falls w k (Call from flight set) live = call_falls w k flight set set.desired
packet_falls w k (CallReply to flight call_number reply) live = reply_falls w to flight call_number reply
packet_falls w k (Post post) live = absurd live
packet_falls w k (PostReply post reply) live = absurd live

-- the delivery of a live call or of what comes back of one
pub delivery_falls : (w : World) (k : ℕ) (p : Packet) → packet_of k w ≡ Some p → IsLivePacket p
    → world_weight (turn w (Deliver k)).world (written_at (turn w (Deliver k)).answer) < world_weight w (Some k)
unfolding turn
delivery_falls w k p is live =
    let names = names_of w.services in
    let D : Option Packet → Type 0 = λ o. world_weight (delivered w k o).world (written_at (delivered w k o).answer) < sum_by (load names) w.services + weight_if names o in
    subst D (sym is) (packet_falls w k p live)

-- ---- what is written is live

abbrev LiveIf : Option Packet → Type 0
LiveIf o = IfSome o IsLivePacket

reply_to_live : (a : AnswerMessage) (o : Option Packet) → LiveIf (reply_to a o)
reply_to_live a None = tt
reply_to_live a (Some (Call from flight set)) = tt
reply_to_live a (Some (CallReply to flight call_number reply)) = tt
reply_to_live a (Some (Post post)) = tt
reply_to_live a (Some (PostReply post reply)) = tt

back_live : (back : AnswerMessage → Option Packet) → ((a : AnswerMessage) → LiveIf (back a)) → (a : Option AnswerMessage) → LiveIf (answered_back back a)
back_live back live None = tt
back_live back live (Some a) = live a

sent_live : (back : AnswerMessage → Option Packet) → ((a : AnswerMessage) → LiveIf (back a)) → (name : List ℕ) (arrived : Arrived) → LiveIf (sent name back arrived)
sent_live back live name (Done index id a) = back_live back live a
sent_live back live name (Sends flight set) = tt
sent_live back live name (Known a) = live a

sent_or_live : {E : Type 0} (back : AnswerMessage → Option Packet) (refusal : E → Option Packet) → ((a : AnswerMessage) → LiveIf (back a)) → ((why : E) → LiveIf (refusal why))
    → (name : List ℕ) (answer : Result Arrived E) → LiveIf (sent_or name back refusal answer)
sent_or_live back refusal live nothing name (Ok arrived) = sent_live back live name arrived
sent_or_live back refusal live nothing name (Err why) = nothing why

-- what a turn writes is in hand in the world after it
abbrev HandsOn : Turn → Type 0
HandsOn t = IsInHand t.world (written_at t.answer)

written_live : (packets : List Packet) (o : Option Packet) → LiveIf o
    → IfSome (option_map (λ _. length packets + 1) o) (λ k. IsSomeAnd (packet_in k (packets ++ option_to_list o)) IsLivePacket)
written_live packets None live = tt
written_live packets (Some p) live = subst (λ o. IsSomeAnd o IsLivePacket) (sym (packet_next packets p)) live

turn_live : (w later : World) (o : Option Kept) (name : List ℕ) (act : Kept → Served) (why : WorldStepRefused) → ((s : Kept) → LiveIf (act s).packet)
    → HandsOn (if_there o (refused w why) (λ s. turned name later (act s)))
turn_live w later None name act why live = tt
turn_live w later (Some s) name act why live = written_live later.packets (act s).packet (live s)

call_live : (w : World) (k flight : ℕ) (set : SetMessage) (o : Option Request) → HandsOn (call_delivered w k flight set o)
call_live w k flight set None = tt
call_live w k flight set (Some q) =
    turn_live w (once_drawn w) (service_of set.dest w.services) set.dest (λ s. call_arrive_served flight set q s (next_inputs w)) _ (λ s.
    let a = arrive_event s (CallOrigin set.caller set.number) q (next_inputs w) in
    sent_or_live (λ m. Some (CallReply set.caller flight set.number (Answer m))) (λ why. Some (CallReply set.caller flight set.number (live_refusal why))) (λ m. tt) (λ why. tt) (me a.service) a.answer)

reply_live : (w : World) (to : List ℕ) (flight : ℕ) (number : ℕ) (reply : Live) → HandsOn (reply_delivered w to flight number reply)
reply_live w to flight number (Answer a) =
    turn_live w w (service_of to w.services) to (call_answered_served w.packets flight a) _ (λ s.
    let e = call_answered_event s flight a in
    sent_or_live (reply_among w.packets) (λ why. None) (λ m. reply_to_live m (find (is_call_of m.caller m.number) w.packets)) (λ why. tt) (me e.service) e.answer)
reply_live w to flight number (Refused word n) =
    turn_live w w (service_of to w.services) to (call_failed_served w.packets flight number (WasRefused word n)) _ (λ s.
    let e = call_failed_event s flight number (WasRefused word n) in
    sent_or_live (reply_among w.packets) (λ why. None) (λ m. reply_to_live m (find (is_call_of m.caller m.number) w.packets)) (λ why. tt) (me e.service) e.answer)

packet_live : (w : World) (k : ℕ) (p : Packet) → IsLivePacket p → HandsOn (delivered w k (Some p))
packet_live w k (Call from flight set) live = call_live w k flight set set.desired
packet_live w k (CallReply to flight call_number reply) live = reply_live w to flight call_number reply
packet_live w k (Post post) live = absurd live
packet_live w k (PostReply post reply) live = absurd live

begin_live : (w : World) (name : List ℕ) (q : Request) → HandsOn (drawing_at name w (arrive_served w.packets q))
begin_live w name q =
    turn_live w (once_drawn w) (service_of name w.services) name (λ s. arrive_served w.packets q s (next_inputs w)) _ (λ s.
    let a = arrive_event s Outside q (next_inputs w) in
    sent_or_live (reply_among w.packets) unsaid (λ m. reply_to_live m (find (is_call_of m.caller m.number) w.packets)) (λ why. tt) (me a.service) a.answer)

-- what is written of a request that comes from outside is live
pub begin_writes_live : (w : World) (name : List ℕ) (q : Request) → IsInHand (turn w (Begin name q)).world (written_at (turn w (Begin name q)).answer)
unfolding turn
begin_writes_live w name q = begin_live w name q

-- and so is what is written at the delivery of a live packet
pub delivery_writes_live : (w : World) (k : ℕ) (p : Packet) → packet_of k w ≡ Some p → IsLivePacket p
    → IsInHand (turn w (Deliver k)).world (written_at (turn w (Deliver k)).answer)
unfolding turn
delivery_writes_live w k p is live = subst (λ o. HandsOn (delivered w k o)) (sym is) (packet_live w k p live)
