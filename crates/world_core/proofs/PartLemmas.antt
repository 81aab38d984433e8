-- What is left of a world's parts is what a service's turn leaves.
use Rattle.std.proofs.Common.{◌≡◌, ℕ, zero, suc, ◌<◌, ◌≤◌, ◌++◌, Bool, true, false, cond, List, [], ◌∷◌, Option, Some, None, IsSome, IfSome, option_and_then, slice_get, Result, Ok, Err, length, ltb, get_or, set, position, refl, sym, ap, ◌∙◌, subst, append-nil, arith}
use Rattle.std.specs.List.{position_or_len}
use Rattle.std.specs.Option.{ok_or}
use Rattle.std.specs.Result.{IsErrAnd}
use Rattle.std.proofs.lemmas.Result.{err_from_is_err_and}
use Rattle.std.proofs.lemmas.Bool.{ltb-true}
use Rattle.std.proofs.lemmas.Bool.Decides.{nat_tests}
use Rattle.std.proofs.lemmas.List.{set-get_or}
use Rattle.std.proofs.lemmas.List.Folds.{find_at}
use Rattle.std.proofs.lemmas.Option.{slice_get-get_or, slice_get_past}
use Rattle.service_events.specs.State.{Kept}
use Rattle.world_agreement.specs.Partners.{has_name, service_of}
use Rattle.world_events.specs.Events.{Answer, Turn, at_service, if_there, next_post_turn, next_post_served, refused, turned}
use Rattle.world_events.specs.Ends.{HasEnds, IsClosed, IsThere, PostsTo, PostsWell}
use Rattle.world_events.specs.Turns.{Turns, turned_to}
use Rattle.world_events.specs.Worlds.{World, packet_in, packet_of, with_service}
use Rattle.world_events.specs.declared.event.Event.TheVariants.{Post as Posts}
use Rattle.world_events.specs.declared.event.WorldStepRefused.{WorldStepRefused}
use Rattle.world_events.specs.declared.event.WorldStepRefused.TheVariants.{NoMemory, NoService, NoPacket, NoFlight}
use Rattle.world_events.specs.declared.packet.Packet.{Packet}
use Rattle.world_laws.proofs.EndLaws.{found_ends}
use Rattle.world_core.specs.Acting.{Acts, Finds, told, written}
use Rattle.world_core.specs.Environments.{Environment, world_of}
use Rattle.world_core.specs.declared.served.Served.{Served}

pub subst2 : {X Y : Type 0} (P : X → Y → Type 0) {x x' : X} {y y' : Y} → x ≡ x' → y ≡ y' → P x y → P x' y'
subst2 {X} {Y} P {x} {x'} {y} {y'} is same p = subst (λ a. P a y') is (subst (λ b. P x b) same p)

-- ---- a service at its place

at_end : {X : Type 0} (p : X → Bool) (b : Bool) (xs : List X) (at : ℕ) → ltb (position_or_len p xs) (length xs) ≡ b → cond b (Some (position_or_len p xs)) None ≡ Some at
    → (position_or_len p xs < length xs) × (position_or_len p xs ≡ at)
at_end p true xs at h e = (ltb-true _ _ h, cc)
at_end p false xs at h e = cc

past_end : {X : Type 0} (p : X → Bool) (b : Bool) (xs : List X) → ltb (position_or_len p xs) (length xs) ≡ b → cond b (Some (position_or_len p xs)) None ≡ None → length xs ≤ position_or_len p xs
past_end p true xs h e = cc
past_end p false xs h e = grind (arith, nat_tests)

-- where no service has the name
pub absent : (name : List ℕ) (services : List Kept) → position (has_name name) services ≡ None → service_of name services ≡ None
absent name services h =
    find_at (has_name name) services ∙ slice_get_past services (position_or_len (has_name name) services) (past_end (has_name name) _ services refl h)

-- the service at the place of a name is that of the name
pub record IsAt (name : List ℕ) (services : List Kept) (at : ℕ) (s : Kept) : Type 0 where
  pub place : position_or_len (has_name name) services ≡ at
  pub itself : s ≡ get_or services at s
  pub found : service_of name services ≡ Some s

pub found_place : (place : Option ℕ) (at : ℕ) → Ok at ≡ ok_or {E = WorldStepRefused} place NoService → place ≡ Some at
found_place None at h = cc
found_place (Some k) at h = cc

-- the place of a service, in what is seen of the services
pub ready_place : (name : List ℕ) (lent services : List Kept) (at : ℕ) → lent ≡ services → Finds (position (has_name name) lent) (Ok at) → position (has_name name) services ≡ Some at
ready_place name lent services at is finds = found_place (position (has_name name) services) at (subst (λ (xs : List Kept). Ok at ≡ ok_or {E = WorldStepRefused} (position (has_name name) xs) NoService) is finds)

pub lent_place : (name other : List ℕ) (lent services : List Kept) (at : ℕ) → lent ≡ services → other ≡ name → position (has_name other) lent ≡ Some at → position (has_name name) services ≡ Some at
lent_place name other lent services at is same found =
    subst (λ (n : List ℕ). position (has_name n) services ≡ Some at) same (subst (λ (xs : List Kept). position (has_name other) xs ≡ Some at) is found)

pub at_place : (name : List ℕ) (services : List Kept) (at : ℕ) (s : Kept) → position (has_name name) services ≡ Some at → s ≡ get_or services at s → IsAt name services at s
at_place name services at s place is =
    let e = at_end (has_name name) _ services at refl place in
    record {
      place = e.1;
      itself = is;
      found = find_at (has_name name) services ∙ slice_get-get_or services _ s e.0 ∙ ap (λ k. Some (get_or services k s)) e.1 ∙ ap Some (sym is);
    }

-- where there is a place, the service is there
of_place : (name : List ℕ) (services : List Kept) (at : ℕ) → position (has_name name) services ≡ Some at → IsSome (service_of name services)
of_place name services at place =
    let e = at_end (has_name name) _ services at refl place in
    let P : Option Kept → Type 0 = λ o. IsSome o in
    subst P (sym (find_at (has_name name) services)) (slice_get_within services (position_or_len (has_name name) services) e.0)
  where
    slice_get_within : (xs : List Kept) (n : ℕ) → n < length xs → IsSome (slice_get xs n)
    slice_get_within [] n l = absurd (omega (arith, l))
    slice_get_within (x ∷ xs) zero l = refl
    slice_get_within (x ∷ xs) (suc n) l = slice_get_within xs n (omega (arith, l))

-- ---- what is left

-- a service that is left as it was
same_set : (services : List Kept) (at : ℕ) (s s' : Kept) → s ≡ get_or services at s → s' ≡ s → set services at s' ≡ services
same_set services at s s' is e = ap (set services at) (e ∙ is) ∙ set-get_or services at s

module _ (turn : World → Turn) (services : List Kept) (packets : List Packet) (e : Environment) (name : List ℕ) (at : ℕ) (s : Kept) (there : IsAt name services at s) where
  abbrev here : World
  here = world_of services packets e

  left_as : (services' : List Kept) (packets' : List Packet) (e' : Environment) (s' : Kept) (more : List Packet) (answer answer' : Answer) → services' ≡ set services at s' → packets' ≡ packets ++ more
      → answer ≡ answer' → turned_to (world_of (with_service name s' services) (packets ++ more) e') answer' ≡ turn here → turned_to (world_of services' packets' e') answer ≡ turn here
  left_as services' packets' e' s' more answer answer' left put tells is =
      ap (λ xs. turned_to (world_of xs packets' e') answer) (left ∙ ap (λ k. set services k s') (sym there.place))
      ∙ ap (λ ps. turned_to (world_of (with_service name s' services) ps e') answer) put
      ∙ ap (turned_to (world_of (with_service name s' services) (packets ++ more) e')) tells ∙ is

  -- a service did this, and the packet of it is written
  pub turns_done : (services' : List Kept) (packets' : List Packet) (e' : Environment) (s' : Kept) (m : Served) (answer : Answer) → services' ≡ set services at s' → packets' ≡ packets ++ written (Ok m)
      → answer ≡ told name packets (Ok m) → Acts turn name packets s e (Ok m) s' e' → Turns (turn here) here answer (world_of services' packets' e')
  turns_done services' packets' e' s' m answer left put tells acts =
      let T : Answer → Type 0 = λ a. Turns (turn here) here a (world_of services' packets' e') in
      subst T (sym tells) (left_as services' packets' e' s' (written (Ok m)) (told name packets (Ok m)) (told name packets (Ok m)) left put refl (acts services there.found))

  -- where the service is put in its place
  pub turns_told : (ready now : List Packet) (e' : Environment) (s' : Kept) (m : Served) (answer : Answer) → ready ≡ packets → now ≡ ready ++ written (Ok m)
      → answer ≡ told name ready (Ok m) → Acts turn name packets s e (Ok m) s' e' → Turns (turn here) here answer (world_of (set services at s') now e')
  turns_told ready now e' s' m answer same put tells acts =
      turns_done (set services at s') now e' s' m answer refl (put ∙ ap (λ ps. ps ++ written (Ok m)) same) (tells ∙ ap (λ ps. told name ps (Ok m)) same) acts

  pub lacked : (services' : List Kept) (packets' : List Packet) (e' : Environment) (s' : Kept) → services' ≡ set services at s' → packets' ≡ packets → s' ≡ s → e' ≡ e → world_of services' packets' e' ≡ here
  lacked services' packets' e' s' left put same stays =
      ap (λ xs. world_of xs packets' e') (left ∙ same_set services at s s' there.itself same)
      ∙ ap (λ ps. world_of services ps e') put ∙ ap (world_of services packets) stays

  -- a service refused, or wanted memory
  pub turns_refused : (services' : List Kept) (packets' : List Packet) (e' : Environment) (s' : Kept) (why : WorldStepRefused) → services' ≡ set services at s' → packets' ≡ packets
      → Acts turn name packets s e (Err why) s' e' → Turns (turn here) here (Err why) (world_of services' packets' e')
  turns_refused services' packets' e' s' NoMemory left put acts = lacked services' packets' e' s' left put acts.0 acts.1
  turns_refused services' packets' e' s' NoService left put acts = left_as services' packets' e' s' (written (Err NoService)) (Err NoService) (Err NoService) left (put ∙ sym (append-nil packets)) refl (acts services there.found)
  turns_refused services' packets' e' s' (NoPacket n) left put acts = left_as services' packets' e' s' (written (Err (NoPacket n))) (Err (NoPacket n)) (Err (NoPacket n)) left (put ∙ sym (append-nil packets)) refl (acts services there.found)
  turns_refused services' packets' e' s' (NoFlight n) left put acts = left_as services' packets' e' s' (written (Err (NoFlight n))) (Err (NoFlight n)) (Err (NoFlight n)) left (put ∙ sym (append-nil packets)) refl (acts services there.found)

  -- the same, where the refusal is handed on
  pub turns_handed : (packets' : List Packet) (e' : Environment) (s' : Kept) (why : WorldStepRefused) (answer : Answer) → packets' ≡ packets → IsErrAnd answer (λ x. x ≡ why)
      → Acts turn name packets s e (Err why) s' e' → Turns (turn here) here answer (world_of (set services at s') packets' e')
  turns_handed packets' e' s' why answer put handed acts =
      let p = err_from_is_err_and answer handed in
      let T : Answer → Type 0 = λ a. Turns (turn here) here a (world_of (set services at s') packets' e') in
      subst T (sym (p.1 ∙ ap Err p.2)) (turns_refused (set services at s') packets' e' s' why refl put acts)

-- ---- want of memory

pub lacks_acts : (turn : World → Turn) (name : List ℕ) (packets : List Packet) (s : Kept) (e : Environment) (result : Result Served WorldStepRefused) (s' : Kept) (e' : Environment)
    → IsErrAnd result (λ why. why ≡ NoMemory) → s' ≡ s → e' ≡ e → Acts turn name packets s e result s' e'
lacks_acts turn name packets s e result s' e' lacks same stays =
    let p = err_from_is_err_and result lacks in
    let A : Result Served WorldStepRefused → Type 0 = λ r. Acts turn name packets s e r s' e' in
    subst A (sym (p.1 ∙ ap Err p.2)) (same, stays)

pub lacks_all : (t : Turn) (w w' : World) (answer : Answer) → IsErrAnd answer (λ why. why ≡ NoMemory) → w' ≡ w → Turns t w answer w'
lacks_all t w w' answer lacks same =
    let p = err_from_is_err_and answer lacks in
    let T : Answer → Type 0 = λ a. Turns t w a w' in
    subst T (sym (p.1 ∙ ap Err p.2)) same

-- ---- a service that isn't there

-- nothing happens at a service that isn't there, or for want of memory
pub nowhere : (w w' : World) (name : List ℕ) (go : Kept → Turn) (why : WorldStepRefused) → Finds (position (has_name name) w.services) (Err why) → w' ≡ w
    → Turns (if_there (service_of name w.services) (refused w NoService) go) w (Err why) w'
nowhere w w' name go NoMemory finds same = same
nowhere w w' name go NoService finds same =
    ap (λ x. turned_to x (Err NoService)) same ∙ sym (ap (λ o. if_there o (refused w NoService) go) (absent name w.services (is_none (position (has_name name) w.services) finds)))
  where
    is_none : (place : Option ℕ) → Err NoService ≡ ok_or place NoService → place ≡ None
    is_none None h = refl
    is_none (Some k) h = cc
nowhere w w' name go (NoPacket n) finds same = absurd (unlike (position (has_name name) w.services) finds)
  where
    unlike : (place : Option ℕ) → Err (NoPacket n) ≡ ok_or place NoService → ⊥
    unlike None h = cc
    unlike (Some k) h = cc
nowhere w w' name go (NoFlight n) finds same = absurd (unlike (position (has_name name) w.services) finds)
  where
    unlike : (place : Option ℕ) → Err (NoFlight n) ≡ ok_or place NoService → ⊥
    unlike None h = cc
    unlike (Some k) h = cc

pub nowhere_by : (w w' : World) (name : List ℕ) (go : Kept → Turn) (why : WorldStepRefused) (answer : Answer) (lent : List Kept) → IsErrAnd answer (λ x. x ≡ why) → lent ≡ w.services
    → Finds (position (has_name name) lent) (Err why) → w' ≡ w → Turns (if_there (service_of name w.services) (refused w NoService) go) w answer w'
nowhere_by w w' name go why answer lent handed is finds same =
    let p = err_from_is_err_and answer handed in
    let T : Answer → Type 0 = λ a. Turns (if_there (service_of name w.services) (refused w NoService) go) w a w' in
    let there = subst (λ (xs : List Kept). Finds (position (has_name name) xs) (Err why)) is finds in
    subst T (sym (p.1 ∙ ap Err p.2)) (nowhere w w' name go why there same)

-- ---- a post

module _ (w : World) (from to : List ℕ) where
  abbrev beside : Option ℕ
  beside = option_and_then (λ _. position (has_name from) w.services) (position (has_name to) w.services)

  -- the same of what is seen of the services
  pub lent_beside : (lent : List Kept) (o : Option ℕ) → lent ≡ w.services → o ≡ option_and_then (λ _. position (has_name from) lent) (position (has_name to) lent) → beside ≡ o
  lent_beside lent o is h = sym (subst (λ (xs : List Kept). o ≡ option_and_then (λ _. position (has_name from) xs) (position (has_name to) xs)) is h)

  abbrev Unposted : Option Kept → Option Kept → Type 0
  Unposted o p =
      (refused w NoService ≡ if_there o (refused w NoService) (λ _. if_there p (refused w NoService) (λ s. turned from w (next_post_served to s))))
      × IfSome o (λ _. IfSome p (PostsTo to))

  -- where one of the two isn't there
  pub unposted : beside ≡ None → (refused w NoService ≡ next_post_turn w from to) × PostsWell w (Posts from to)
  unposted none = by_to (position (has_name to) w.services) refl none
    where
      by_from : (o p : Option Kept) → p ≡ None → Unposted o p
      by_from None None is = (refl, tt)
      by_from (Some s) None is = (refl, tt)
      by_from o (Some s) is = cc

      by_to : (o : Option ℕ) → position (has_name to) w.services ≡ o → option_and_then (λ _. position (has_name from) w.services) o ≡ None
          → Unposted (service_of to w.services) (service_of from w.services)
      by_to None is none = subst (λ x. Unposted x (service_of from w.services)) (sym (absent to w.services is)) (refl, tt)
      by_to (Some k) is none = by_from (service_of to w.services) (service_of from w.services) (absent from w.services none)

  -- where both are there, and the message of the post goes there
  pub posted_there : (at : ℕ) → beside ≡ Some at → (position (has_name from) w.services ≡ Some at) × (next_post_turn w from to ≡ at_service from w (next_post_served to))
  posted_there at is = by (position (has_name to) w.services) refl is
    where
      there : (o : Option Kept) → IsSome o → if_there o (refused w NoService) (λ _. at_service from w (next_post_served to)) ≡ at_service from w (next_post_served to)
      there None some = cc
      there (Some s) some = refl

      by : (o : Option ℕ) → position (has_name to) w.services ≡ o → option_and_then (λ _. position (has_name from) w.services) o ≡ Some at
          → (position (has_name from) w.services ≡ Some at) × (next_post_turn w from to ≡ at_service from w (next_post_served to))
      by None found is = cc
      by (Some k) found is = (is, there (service_of to w.services) (of_place to w.services k found))

  pub posts_well : (s : Kept) → service_of from w.services ≡ Some s → PostsTo to s → PostsWell w (Posts from to)
  posts_well s found goes = by (service_of to w.services)
    where
      by : (o : Option Kept) → IfSome o (λ _. IfSome (service_of from w.services) (PostsTo to))
      by None = tt
      by (Some x) = subst (λ o. IfSome o (PostsTo to)) (sym found) goes

-- one that is there has a place
pub has_place : (name : List ℕ) (services : List Kept) → IsThere services name → IsSome (position (has_name name) services)
has_place name services there = by (position (has_name name) services) refl
  where
    by : (o : Option ℕ) → position (has_name name) services ≡ o → IsSome o
    by (Some k) is = refl
    by None is = (let gone : IsSome {T = Kept} None = subst (λ o. IsSome o) (absent name services is) there in cc)

-- ---- a packet

pub packet_found : (p : Packet) (packets ready : List Packet) (number : ℕ) → Some p ≡ packet_in number ready → ready ≡ packets → Some p ≡ packet_in number packets
packet_found p packets ready number is same = is ∙ ap (packet_in number) same

-- where there is none of this number
pub no_packet : (t : Option Packet → Turn) (w w' : World) (number : ℕ) (ready : List Packet) → None ≡ packet_in number ready → ready ≡ w.packets → w' ≡ w → refused w (NoPacket number) ≡ t None
    → Turns (t (packet_of number w)) w (Err (NoPacket number)) w'
no_packet t w w' number ready none same stays is =
    ap (λ x. turned_to x (Err (NoPacket number))) stays ∙ is ∙ ap t (none ∙ ap (packet_in number) same)

-- a turn with the packet of this number
pub of_packet : (t : Option Packet → Turn) (w w' : World) (number : ℕ) (p : Packet) (answer : Answer) → Some p ≡ packet_of number w → Turns (t (Some p)) w answer w' → Turns (t (packet_of number w)) w answer w'
of_packet t w w' number p answer is h = (let T : Option Packet → Type 0 = λ o. Turns (t o) w answer w' in subst T is h)

-- both ends of the packet of this number are there
pub ends_of_packet : (w : World) (number : ℕ) (p : Packet) → IsClosed w → Some p ≡ packet_of number w → HasEnds w.services p
ends_of_packet w number p closed is =
    (let P : Option Packet → Type 0 = λ o. IfSome o (HasEnds w.services) in subst P (sym is) (found_ends w closed number))

-- what a service did among packets, by the same packets
pub acts_at : (turn : World → Turn) (name : List ℕ) (packets ready : List Packet) (s : Kept) (e : Environment) (result : Result Served WorldStepRefused) (s' : Kept) (e' : Environment) → ready ≡ packets
    → Acts turn name ready s e result s' e' → Acts turn name packets s e result s' e'
acts_at turn name packets ready s e result s' e' same acts = subst (λ ps. Acts turn name ps s e result s' e') same acts

-- ---- a packet at one of its ends

-- for want of memory the packets are those that were there
pub lacks_before : (t : Turn) (services : List Kept) (packets ready : List Packet) (e : Environment) (answer : Answer) → IsErrAnd answer (λ why. why ≡ NoMemory) → ready ≡ packets
    → Turns t (world_of services packets e) answer (world_of services ready e)
lacks_before t services packets ready e answer lacks same = lacks_all t _ _ answer lacks (ap (λ ps. world_of services ps e) same)

-- so they are where there is none of this number
pub none_before : (of : World → Option Packet → Turn) (services : List Kept) (packets ready : List Packet) (e : Environment) (number : ℕ) → None ≡ packet_in number ready → ready ≡ packets
    → refused (world_of services packets e) (NoPacket number) ≡ of (world_of services packets e) None
    → Turns (of (world_of services packets e) (packet_in number packets)) (world_of services packets e) (Err (NoPacket number)) (world_of services ready e)
none_before of services packets ready e number none same is =
    no_packet (of (world_of services packets e)) (world_of services packets e) _ number ready none same (ap (λ ps. world_of services ps e) same) is

-- the packet has this number, and the service of this name, which is an end of it, is at this place
pub record IsPacketAt (name : List ℕ) (services : List Kept) (packets : List Packet) (number : ℕ) (p : Packet) (at : ℕ) (s : Kept) : Type 0 where
  pub found : Some p ≡ packet_in number packets
  pub there : IsAt name services at s

-- so it is of what is seen of the packets and of the services
pub packet_at : (name other : List ℕ) (lent services : List Kept) (ready packets : List Packet) (number : ℕ) (p : Packet) (at : ℕ) (s : Kept) → Some p ≡ packet_in number ready → ready ≡ packets
    → lent ≡ services → other ≡ name → position (has_name other) lent ≡ Some at → s ≡ get_or services at s → IsPacketAt name services packets number p at s
packet_at name other lent services ready packets number p at s found same is named place itself = record {
  found = packet_found p packets ready number found same;
  there = at_place name services at s (lent_place name other lent services at is named place) itself;
}

module _ (of : World → Option Packet → Turn) (services : List Kept) (packets ready : List Packet) (e : Environment) (name : List ℕ) (number : ℕ) (p : Packet) (at : ℕ) (s : Kept)
    (end : IsPacketAt name services packets number p at s) (same : ready ≡ packets) where
  abbrev world : World
  world = world_of services packets e

  abbrev of_it : World → Turn
  of_it x = of x (Some p)

  -- the service refused, or wanted memory
  pub packet_handed : (e' : Environment) (s' : Kept) (why : WorldStepRefused) (answer : Answer) → IsErrAnd answer (λ x. x ≡ why) → Acts of_it name ready s e (Err why) s' e'
      → Turns (of world (packet_of number world)) world answer (world_of (set services at s') ready e')
  packet_handed e' s' why answer handed acts =
      of_packet (of world) world _ number p answer end.found
      (turns_handed of_it services packets e name at s end.there ready e' s' why answer same handed (acts_at of_it name packets ready s e (Err why) s' e' same acts))

  -- the service did this, and the packet of it is written
  pub packet_told : (now : List Packet) (e' : Environment) (s' : Kept) (m : Served) (answer : Answer) (other : List ℕ) → now ≡ ready ++ written (Ok m) → answer ≡ told other ready (Ok m) → other ≡ name
      → Acts of_it name ready s e (Ok m) s' e' → Turns (of world (packet_of number world)) world answer (world_of (set services at s') now e')
  packet_told now e' s' m answer other put tells named acts =
      of_packet (of world) world _ number p answer end.found
      (turns_told of_it services packets e name at s end.there ready now e' s' m answer same put (tells ∙ ap (λ n. told n ready (Ok m)) named)
      (acts_at of_it name packets ready s e (Ok m) s' e' same acts))
