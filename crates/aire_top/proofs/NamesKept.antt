-- Requests with what is delivered of them, and orders, happen at each service that is there, and leave all services their names.
use Rattle.std.proofs.Common.{◌≡◌, ℕ, Bool, ◌||◌, true, false, cond, List, [], ◌∷◌, Option, Some, None, IsSome, IsSomeAnd, IsOk, map, refl, sym, ap, ◌∙◌, subst, inl, inr}
use Rattle.std.specs.List.{list_any}
use Rattle.std.proofs.lemmas.Bool.{cases_Bool, cond-true, cond-false}
use Rattle.std.proofs.lemmas.Option.{same_Some}
use Rattle.lang_base.specs.Texts.{same_text}
use Rattle.lang_core.specs.declared.ids.Origin.TheVariants.{Outside, Call as CallOrigin}
use Rattle.lang_core.specs.declared.request.Request.{Request}
use Rattle.repair_messages.specs.declared.messages.SetMessage.{SetMessage}
use Rattle.journal_rows.specs.declared.orders.Command.{Command}
use Rattle.call_registers.specs.declared.register.Why.TheVariants.{Refused as WasRefused}
use Rattle.service_events.specs.State.{Kept, me}
use Rattle.service_events.proofs.OrderSettings.{order_setting}
use Rattle.world_agreement.specs.Partners.{has_name, service_of}
use Rattle.world_events.specs.Ends.{IsThere}
use Rattle.world_events.specs.Events.{Served, after_event, after_events, answer_to, arrive_served, call_answered_served, call_arrive_served, call_delivered, call_failed_served, delivered, if_there, order_served, refused, reply_delivered, turn, turn_at, turned}
use Rattle.world_events.specs.Live.{IsLivePacket}
use Rattle.world_events.specs.Worlds.{World, next_inputs, once_drawn, packet_of, with_service}
use Rattle.world_events.specs.declared.event.Event.{Event}
use Rattle.world_events.specs.declared.event.Event.TheVariants.{Begin, Deliver, Order}
use Rattle.world_events.specs.declared.event.WorldStepRefused.TheVariants.{NoService}
use Rattle.world_events.specs.declared.packet.Live.{Live}
use Rattle.world_events.specs.declared.packet.Live.TheVariants.{Answer as LiveAnswer, Refused as LiveRefused}
use Rattle.world_events.specs.declared.packet.Packet.{Packet}
use Rattle.world_events.specs.declared.packet.Packet.TheVariants.{Call, CallReply, Post as PostPacket, PostReply as PostReplyPacket}
use Rattle.script_run.proofs.HandedOn.{begin_writes_live}
use Rattle.script_run.proofs.HandedOn.{put, with_is_put}
use Rattle.script_run.proofs.HandedOn.{hand_hands}
use Rattle.script_run.proofs.HandedOn.{arrive_lives, call_answered_lives, call_failed_lives}
use Rattle.script_run.specs.HandedOn.{IsInHand}
use Rattle.script_run.specs.HandedOn.{IsAsking, IsRun, written}

-- ---- a service in place of one of the same setting

abbrev KeepsNames : World → World → Type 0
KeepsNames before now = map me now.services ≡ map me before.services

names_put : (name : List ℕ) (s t : Kept) → t.setting ≡ s.setting → (xs : List Kept) → service_of name xs ≡ Some s → map me (put name t xs) ≡ map me xs
names_put name s t setting [] here = refl
names_put name s t setting (z ∷ zs) here = elim (cases_Bool (has_name name z)) [
  | inl is ↦ (let it : z ≡ s = same_Some z s (sym (cond-true (has_name name z) (Some z) (service_of name zs) is) ∙ here) in
      rw is (ap (λ n. n ∷ map me zs) (ap (λ x. x.me) setting ∙ ap me (sym it))))
  | inr other ↦ rw other (ap (λ ns. me z ∷ ns) (names_put name s t setting zs (sym (cond-false (has_name name z) (Some z) (service_of name zs) other) ∙ here)))
]

turn_names : (w then : World) (name : List ℕ) (act : Kept → Served) → then.services ≡ w.services → ((s : Kept) → (act s).service.setting ≡ s.setting) → KeepsNames w (turn_at name w then act).world
turn_names w then name act same keeps = by (service_of name w.services) refl
  where
    by : (o : Option Kept) → service_of name w.services ≡ o → KeepsNames w (if_there o (refused w NoService) (λ s. turned name then (act s))).world
    by None found = refl
    by (Some s) found =
        ap (λ (xs : List Kept). map me (with_service name (act s).service xs)) same
        ∙ ap (λ (xs : List Kept). map me xs) (with_is_put name (act s).service w.services)
        ∙ names_put name s (act s).service (keeps s) w.services found

-- ---- events

begun_names : (w : World) (name : List ℕ) (q : Request) → KeepsNames w (after_event w (Begin name q))
unfolding turn
begun_names w name q = turn_names w (once_drawn w) name (λ s. arrive_served w.packets q s (next_inputs w)) refl (λ s. (arrive_lives s Outside q (next_inputs w)).setting)

pub ordered_names : (w : World) (name : List ℕ) (command : Command) (token who : List ℕ) → KeepsNames w (after_event w (Order name command token who))
unfolding turn
ordered_names w name command token who =
    turn_names w (once_drawn w) name (λ s. order_served command token who s (next_inputs w)) refl (λ s. order_setting s command token who (next_inputs w))

call_names : (w : World) (number flight : ℕ) (set : SetMessage) (o : Option Request) → KeepsNames w (call_delivered w number flight set o).world
call_names w number flight set None = refl
call_names w number flight set (Some q) =
    turn_names w (once_drawn w) set.dest (λ s. call_arrive_served flight set q s (next_inputs w)) refl
    (λ s. (arrive_lives s (CallOrigin set.caller set.number) q (next_inputs w)).setting)

reply_names : (w : World) (to : List ℕ) (flight number : ℕ) (reply : Live) → KeepsNames w (reply_delivered w to flight number reply).world
reply_names w to flight number (LiveAnswer a) = turn_names w w to (call_answered_served w.packets flight a) refl (λ s. (call_answered_lives s flight a).setting)
reply_names w to flight number (LiveRefused word n) =
    turn_names w w to (call_failed_served w.packets flight number (WasRefused word n)) refl (λ s. (call_failed_lives s flight number (WasRefused word n)).setting)

packet_names : (w : World) (k : ℕ) (o : Option Packet) → IsSomeAnd o IsLivePacket → KeepsNames w (delivered w k o).world
packet_names w k None live = absurd live
packet_names w k (Some (Call from flight set)) live = call_names w k flight set set.desired
packet_names w k (Some (CallReply to flight number reply)) live = reply_names w to flight number reply
packet_names w k (Some (PostPacket post)) live = absurd live
packet_names w k (Some (PostReplyPacket post reply)) live = absurd live

delivered_names : (w : World) (k : ℕ) → IsInHand w (Some k) → KeepsNames w (after_event w (Deliver k))
unfolding turn
delivered_names w k live = packet_names w k (packet_of k w) live

-- ---- a request and what is delivered of it

run_names : (events : List Event) (w : World) (packet : Option ℕ) → IsInHand w packet → IsRun w packet events → KeepsNames w (after_events w events)
run_names [] w None live run = refl
run_names [] w (Some k) live run = absurd run
run_names (e ∷ events) w None live run = absurd run
run_names (e ∷ events) w (Some k) live run =
    let I : Event → Type 0 = λ d. IsRun (after_event w d) (written w d) events in
    let K : Event → Type 0 = λ d. KeepsNames w (after_events (after_event w d) events) in
    let rest = run_names events (after_event w (Deliver k)) (written w (Deliver k)) (hand_hands w k live) (subst I run.0 run.1) in
    subst K (sym run.0) (rest ∙ delivered_names w k live)

pub asking_names : (w : World) (service : List ℕ) (q : Request) (events : List Event) → IsAsking w service q events → KeepsNames w (after_events w events)
asking_names w service q [] are = absurd are
asking_names w service q (e ∷ events) are =
    let I : Event → Type 0 = λ d. IsRun (after_event w d) (written w d) events in
    let K : Event → Type 0 = λ d. KeepsNames w (after_events (after_event w d) events) in
    let rest = run_names events (after_event w (Begin service q)) (written w (Begin service q)) (begin_writes_live w service q) (subst I are.0 are.1) in
    subst K (sym are.0) (rest ∙ begun_names w service q)

-- ---- they happen where the service is there

there_head : (b : Bool) (s : Kept) (o : Option Kept) (rest : Bool) → (rest ≡ true → IsSome o) → (b || rest) ≡ true → IsSome (cond b (Some s) o)
there_head true s o rest later is = refl
there_head false s o rest later is = later is

-- a service is there whose name is one of the names
pub there_among : (name : List ℕ) (services : List Kept) → list_any (λ n. same_text n name) (map me services) ≡ true → IsThere services name
there_among name [] is = cc
there_among name (s ∷ services) is =
    there_head (same_text (me s) name) s (service_of name services) (list_any (λ n. same_text n name) (map me services)) (there_among name services) is

turn_ok : (w then : World) (name : List ℕ) (act : Kept → Served) → IsThere w.services name → IsOk (turn_at name w then act).answer
turn_ok w then name act there = by (service_of name w.services) there
  where
    by : (o : Option Kept) → IsSome o → IsOk (if_there o (refused w NoService) (λ s. turned name then (act s))).answer
    by None there = cc
    by (Some s) there = refl

pub begun_ok : (w : World) (name : List ℕ) (q : Request) → IsThere w.services name → IsOk (answer_to w (Begin name q))
unfolding turn
begun_ok w name q there = turn_ok w (once_drawn w) name (λ s. arrive_served w.packets q s (next_inputs w)) there

pub ordered_ok : (w : World) (name : List ℕ) (command : Command) (token who : List ℕ) → IsThere w.services name → IsOk (answer_to w (Order name command token who))
unfolding turn
ordered_ok w name command token who there = turn_ok w (once_drawn w) name (λ s. order_served command token who s (next_inputs w)) there
