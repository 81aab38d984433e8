-- Deliveries that follow one another come to an end, and there is one list of them.
use Rattle.std.proofs.Common.{◌≡◌, ℕ, zero, suc, ◌<◌, ◌≤◌, List, [], ◌∷◌, Option, Some, None, IsSomeAnd, refl, ap, sym, ◌∙◌, subst, arith}
use Rattle.lang_core.specs.declared.request.Request.{Request}
use Rattle.world_events.specs.Events.{after_event}
use Rattle.world_events.specs.Live.{AllLiveEvents, IsLivePacket}
use Rattle.world_events.specs.Worlds.{World, packet_of}
use Rattle.world_events.specs.declared.event.Event.{Event}
use Rattle.world_events.specs.declared.event.Event.TheVariants.{Begin, Deliver}
use Rattle.world_events.specs.declared.packet.Packet.{Packet}
use Rattle.world_laws.specs.InHand.{IsInHand}
use Rattle.world_laws.proofs.WorldWeights.{world_weight}
use Rattle.world_laws.proofs.DeliveryLaws.{begin_writes_live, delivery_falls, delivery_writes_live}
use Rattle.world_laws.specs.Runs.{IsRun, IsAsking, written}

-- a delivery of what is in hand makes the world and what is in hand then lighter
falls_of : (w : World) (number : ℕ) (o : Option Packet) → packet_of number w ≡ o → IsSomeAnd o IsLivePacket
    → world_weight (after_event w (Deliver number)) (written w (Deliver number)) < world_weight w (Some number)
falls_of w number None is live = absurd live
falls_of w number (Some p) is live = delivery_falls w number p is live

hands_of : (w : World) (number : ℕ) (o : Option Packet) → packet_of number w ≡ o → IsSomeAnd o IsLivePacket → IsInHand (after_event w (Deliver number)) (written w (Deliver number))
hands_of w number None is live = absurd live
hands_of w number (Some p) is live = delivery_writes_live w number p is live

-- and what is in hand then is live again
pub hand_hands : (w : World) (number : ℕ) → IsInHand w (Some number) → IsInHand (after_event w (Deliver number)) (written w (Deliver number))
hand_hands w number live = hands_of w number (packet_of number w) refl live

pub hand_falls : (w : World) (number : ℕ) → IsInHand w (Some number) → world_weight (after_event w (Deliver number)) (written w (Deliver number)) < world_weight w (Some number)
hand_falls w number live = falls_of w number (packet_of number w) refl live

-- ---- there is a run

-- a list of events that is the run of what is in hand
abbrev pub Run : World → Option ℕ → Type 0
Run w packet = (events : List Event) × IsRun w packet events

-- the deliveries after one of them, which is the first
pub run_on : (w : World) (number : ℕ) → Run (after_event w (Deliver number)) (written w (Deliver number)) → Run w (Some number)
run_on w number rest = (Deliver number ∷ rest.0, (refl, rest.1))

-- what the world and the packet in hand weigh is a bound on how many there are
run_within : (n : ℕ) (w : World) (packet : Option ℕ) → IsInHand w packet → world_weight w packet ≤ n → Run w packet
run_within n w None live h = ([], tt)
run_within zero w (Some k) live h = let f = hand_falls w k live in absurd (omega (arith, f, h))
run_within (suc n) w (Some k) live h =
    let f = hand_falls w k live in
    run_on w k (run_within n (after_event w (Deliver k)) (written w (Deliver k)) (hand_hands w k live) (omega (arith, f, h)))

-- what is in hand is delivered, and what that writes, up to a delivery that writes nothing
pub has_run : (w : World) (packet : Option ℕ) → IsInHand w packet → Run w packet
has_run w packet live = run_within (world_weight w packet) w packet live (omega arith)

-- so it is with what is written of a request from outside, whatever the world
pub has_asking : (w : World) (service : List ℕ) (q : Request) → (events : List Event) × IsAsking w service q events
has_asking w service q =
    let run = has_run (after_event w (Begin service q)) (written w (Begin service q)) (begin_writes_live w service q) in
    (Begin service q ∷ run.0, (refl, run.1))

-- ---- there is one

pub one_run : (w : World) (packet : Option ℕ) (events others : List Event) → IsRun w packet events → IsRun w packet others → events ≡ others
one_run w None [] [] a b = refl
one_run w None [] (f ∷ others) a b = absurd b
one_run w None (e ∷ events) others a b = absurd a
one_run w (Some k) [] others a b = absurd a
one_run w (Some k) (e ∷ events) [] a b = absurd b
one_run w (Some k) (e ∷ events) (f ∷ others) a b =
    let same : e ≡ f = a.0 ∙ sym b.0 in
    let R : Event → Type 0 = λ x. IsRun (after_event w x) (written w x) others in
    ap (λ x. x ∷ events) same ∙ ap (λ es. f ∷ es) (one_run (after_event w e) (written w e) events others a.1 (subst R (sym same) b.1))

pub one_asking : (w : World) (service : List ℕ) (q : Request) (events others : List Event) → IsAsking w service q events → IsAsking w service q others → events ≡ others
one_asking w service q [] others a b = absurd a
one_asking w service q (e ∷ events) [] a b = absurd b
one_asking w service q (e ∷ events) (f ∷ others) a b =
    let same : e ≡ f = a.0 ∙ sym b.0 in
    let R : Event → Type 0 = λ x. IsRun (after_event w x) (written w x) others in
    ap (λ es. e ∷ es) (one_run (after_event w e) (written w e) events others a.1 (subst R (sym same) b.1)) ∙ ap (λ x. x ∷ others) same

-- ---- what kind of events they are

run_live : (w : World) (packet : Option ℕ) (events : List Event) → IsRun w packet events → AllLiveEvents events
run_live w None [] a = tt
run_live w None (e ∷ events) a = absurd a
run_live w (Some k) [] a = absurd a
run_live w (Some k) (e ∷ events) a =
    let L : Event → Type 0 = λ x. AllLiveEvents (x ∷ events) in
    subst L (sym a.0) (tt, run_live (after_event w e) (written w e) events a.1)

-- a request and the deliveries that follow it are events of live requests alone
pub asking_live : (w : World) (service : List ℕ) (q : Request) (events : List Event) → IsAsking w service q events → AllLiveEvents events
asking_live w service q [] a = absurd a
asking_live w service q (e ∷ events) a =
    let L : Event → Type 0 = λ x. AllLiveEvents (x ∷ events) in
    subst L (sym a.0) (tt, run_live (after_event w e) (written w e) events a.1)
