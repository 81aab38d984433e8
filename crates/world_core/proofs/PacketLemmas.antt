-- The first packet of a call, found from the last packet of its key back.
use Rattle.std.proofs.Common.{◌≡◌, ℕ, zero, suc, ◌+◌, ◌-◌, ◌<◌, ◌≤◌, Bool, true, false, ◌&&◌, cond, List, [], ◌∷◌, ◌++◌, Option, Some, None, find, length, take, get_or, map, min, nat_eq, inl, inr, refl, sym, ap, ◌∙◌, arith, add-one, take-suc}
use Rattle.std.proofs.lemmas.Bool.{cases_Bool}
use Rattle.std.proofs.lemmas.List.{length-map, length-take, map-append, take-take}
use Rattle.std.proofs.lemmas.Option.{slice_get-get_or}
use Rattle.std.proofs.Math.Nat.{le-min, min-le_left, min-le_right}
use Rattle.lang_base.specs.Texts.{same_text}
use Rattle.lang_lists.specs.Ends.{end_behind, last_end}
use Rattle.lang_lists.specs.Keys.{call_key}
use Rattle.lang_lists.proofs.HashEndLemmas.{last_end-within, last_end-map}
use Rattle.lang_lists.proofs.KeyLemmas.{call_other}
use Rattle.lang_lists.proofs.SearchLemmas.{IsQuiet, IsSought, sought_first, sought_next}
use Rattle.world_events.specs.Events.{is_call_of}
use Rattle.world_events.specs.Worlds.{packet_in}
use Rattle.world_events.specs.declared.packet.Packet.{Packet}
use Rattle.world_events.specs.declared.packet.Packet.TheVariants.{Call, CallReply, Post, PostReply}
use Rattle.world_core.specs.Packets.{packet_key}

-- ---- what is found in a list

-- what was found first, else this
abbrev pub found_or : {X : Type 0} → Option X → Option X → Option X
found_or None other = other
found_or (Some x) other = Some x

found_one_more : {X : Type 0} (p : X → Bool) (x : X) (ys : List X) → find p (ys ++ x ∷ []) ≡ found_or (find p ys) (cond (p x) (Some x) None)
found_one_more p x [] = refl
found_one_more p x (y ∷ ys) = elim (cases_Bool (p y)) [
  | inl is ↦ rw is refl
  | inr other ↦ rw other (found_one_more p x ys)
]

skips_head : {X : Type 0} (p : X → Bool) (c : Bool) (e : ℕ) (x : X) (xs : List X) → (c ≡ false → p x ≡ false) → find p xs ≡ find p (take e xs)
    → find p (x ∷ xs) ≡ find p (take (end_behind c e) (x ∷ xs))
skips_head p c (suc e) x xs h later = ap (λ o. cond (p x) (Some x) o) later
skips_head p true zero x xs h later = ap (λ o. cond (p x) (Some x) o) later
skips_head p false zero x xs h later = (let fails : p x ≡ false = h refl in rw fails later)

-- nothing passes behind the last that passes a weaker test
found_before : {X : Type 0} (p q : X → Bool) → ((x : X) → q x ≡ false → p x ≡ false) → (xs : List X) → find p xs ≡ find p (take (last_end q xs) xs)
found_before p q h [] = refl
found_before p q h (x ∷ xs) = skips_head p (q x) (last_end q xs) x xs (h x) (found_before p q h xs)

map-take : {X : Type 0} (key : X → ℕ) (n : ℕ) (xs : List X) → map key (take n xs) ≡ take n (map key xs)
map-take key zero xs = refl
map-take key (suc n) [] = refl
map-take key (suc n) (x ∷ xs) = ap (λ ys. key x ∷ ys) (map-take key n xs)

-- ---- calls

other_key : (caller : List ℕ) (number : ℕ) (p : Packet) → nat_eq (call_key caller number) (packet_key p) ≡ false → is_call_of caller number p ≡ false
other_key caller number (Call from flight set) h = flipped (nat_eq set.number number) (same_text set.caller caller) (call_other caller set.caller number set.number h)
  where
    flipped : (a b : Bool) → (b && a) ≡ false → (a && b) ≡ false
    flipped true true h = h
    flipped true false h = refl
    flipped false b h = refl
other_key caller number (CallReply to flight set reply) h = refl
other_key caller number (Post post) h = refl
other_key caller number (PostReply post reply) h = refl

-- nothing but the ends of the key are looked at on the way
abbrev pub stay : Unit {0} → Packet → Unit {0}
stay s p = s

pub quiet : (key : ℕ) → IsQuiet packet_key stay key
quiet key = record { stays = λ s x h. refl }

module _ (caller : List ℕ) (number : ℕ) where
  abbrev key : ℕ
  key = call_key caller number

  abbrev passes : Packet → Bool
  passes = is_call_of caller number

  -- up to this end it is still to be looked for; behind it the first is that of this number, if that isn't 0
  pub record IsFirst (xs : List Packet) (end first : ℕ) : Type 0 where
    pub walked : IsSought packet_key stay key tt xs end
    pub is : find passes xs ≡ found_or (find passes (take end xs)) (packet_in first xs)

  last_is : (xs : List Packet) → find passes xs ≡ find passes (take (last_end (nat_eq key) (map packet_key xs)) xs)
  last_is xs =
      found_before passes (λ p. nat_eq key (packet_key p)) (λ p h. other_key caller number p h) xs
      ∙ ap (λ n. find passes (take n xs)) (sym (last_end-map (nat_eq key) packet_key xs))

  none_behind : (o : Option Packet) → o ≡ found_or o None
  none_behind None = refl
  none_behind (Some p) = refl

  -- at the end of the key among all packets
  pub first_begins : (xs : List Packet) (end : ℕ) → end ≡ last_end (nat_eq key) (map packet_key xs) → IsFirst xs end 0
  first_begins xs end at = record {
    walked = sought_first packet_key stay key (quiet key) tt xs end at;
    is = last_is xs ∙ ap (λ n. find passes (take n xs)) (sym at) ∙ none_behind (find passes (take end xs));
  }

  choose : (o : Option Packet) (b : Bool) (x : Packet) (end first : ℕ) (xs : List Packet) → packet_in end xs ≡ Some x
      → found_or (found_or o (cond b (Some x) None)) (packet_in first xs) ≡ found_or o (packet_in (cond b end first) xs)
  choose None true x end first xs here = sym here
  choose None false x end first xs here = refl
  choose (Some p) b x end first xs here = refl

  at_end : (xs : List Packet) (end : ℕ) (x : Packet) → 0 < end → end ≤ length xs → x ≡ get_or xs (end - 1) x → packet_in end xs ≡ Some x
  at_end xs zero x some within is = absurd (omega (arith, some))
  at_end xs (suc place) x some within is =
      let e : place ≡ suc place - 1 = omega arith in
      let here : get_or xs place x ≡ x = ap (λ n. get_or xs n x) e ∙ sym is in
      slice_get-get_or xs place x (omega (arith, within)) ∙ ap Some here

  up_to : (xs : List Packet) (n : ℕ) (x : Packet) → n < length xs → find passes (take (n + 1) xs) ≡ found_or (find passes (take n xs)) (cond (passes (get_or xs n x)) (Some (get_or xs n x)) None)
  up_to xs n x lt = rw (add-one, take-suc xs n x lt) (found_one_more passes (get_or xs n x) (take n xs))

  -- one end before
  pub first_goes : (xs : List Packet) (end first next : ℕ) (x : Packet) → IsFirst xs end first → 0 < end → x ≡ get_or xs (end - 1) x
      → next ≡ last_end (nat_eq (get_or (map packet_key xs) (end - 1) 0)) (take (end - 1) (map packet_key xs)) → IsFirst xs next (cond (passes x) end first)
  first_goes xs end first next x h some is found =
      let e : end ≡ (end - 1) + 1 = omega arith in
      let front = take (end - 1) xs in
      let there : next ≡ last_end (nat_eq key) (map packet_key front) =
      found ∙ ap (λ k. last_end (nat_eq k) (take (end - 1) (map packet_key xs))) (h.walked.keyed some) ∙ ap (last_end (nat_eq key)) (sym (map-take packet_key (end - 1) xs)) in
      let inner : next ≤ end - 1 =
      omega (arith, there, last_end-within (nat_eq key) (map packet_key front), length-map front packet_key, length-take (end - 1) xs) in
      let here = ap (λ n. find passes (take n xs)) e ∙ up_to xs (end - 1) x (omega (arith, h.walked.within)) ∙ ap (λ y. found_or (find passes front) (cond (passes y) (Some y) None)) (sym is) in
      let before = last_is front ∙ ap (λ n. find passes (take n front)) (sym there) ∙ ap (find passes) (take-take next (end - 1) xs inner) in
      let rest : Option Packet = packet_in first xs in
      record {
        walked = sought_next packet_key stay key (quiet key) tt xs end next x h.walked some is refl found;
        is = h.is ∙ ap (λ o. found_or o rest) here ∙ choose (find passes front) (passes x) x end first xs (at_end xs end x some h.walked.within is)
            ∙ ap (λ o. found_or o (packet_in (cond (passes x) end first) xs)) before;
      }

  -- where nothing is left to look at
  pub first_found : (xs : List Packet) (end first : ℕ) → IsFirst xs end first → end ≡ 0 → packet_in first xs ≡ find passes xs
  first_found xs end first h none = sym (h.is ∙ ap (λ n. found_or (find passes (take n xs)) (packet_in first xs)) none)

-- ---- a packet more

pub keyed_more : (keys : List ℕ) (packets : List Packet) (key : ℕ) (p : Packet) → keys ≡ map packet_key packets → key ≡ packet_key p → keys ++ key ∷ [] ≡ map packet_key (packets ++ p ∷ [])
keyed_more keys packets key p is same =
    ap (λ ks. ks ++ key ∷ []) is ∙ ap (λ k. map packet_key packets ++ k ∷ []) same ∙ sym (map-append packet_key packets (p ∷ []))

-- where there is room for one more, there is in both
pub room_left : (a b spare : ℕ) → min a b ≡ spare → 0 < spare → 0 < a
room_left a b spare is some = omega (arith, min-le_left a b, is, some)

pub room_right : (a b spare : ℕ) → min a b ≡ spare → 0 < spare → 0 < b
room_right a b spare is some = omega (arith, min-le_right a b, is, some)

pub room_both : (a b : ℕ) → 0 < a → 0 < b → 0 < min a b
room_both a b left right = (let least : 1 ≤ min a b = le-min (omega (arith, left)) (omega (arith, right)) in omega (arith, least))
