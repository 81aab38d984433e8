-- What the way up from a request finds: its root, and the slots in which calls lead down again.
use Rattle.std.proofs.Common.{◌≡◌, ◌≤◌, ◌<◌, ◌+◌, ◌==◌, ℕ, zero, suc, Bool, true, false, not, ◌||◌, cond, List, [], ◌∷◌, ◌++◌, length, Some, None, map, position, reverse, slice_get, ◌⊎◌, inl, inr, refl, sym, ap, ◌∙◌, subst, nat_eq, nat_lt, eq-eqb, eqb-true, true≢false, arith}
use Rattle.std.specs.List.{list_any, position_or_len}
use Rattle.std.proofs.lemmas.Bool.{and_parts, cases_Bool, lt-ltb}
use Rattle.std.proofs.lemmas.List.{reverse-append}
use Rattle.lang_base.specs.Texts.{same_text}
use Rattle.lang_core.specs.Origins.{is_call}
use Rattle.lang_core.specs.declared.ids.Origin.{Origin}
use Rattle.lang_core.specs.declared.ids.Origin.TheVariants.{Outside, Call}
use Rattle.lang_core.specs.declared.ids.RequestId.{RequestId}
use Rattle.execution.specs.Executions.{Act, History, survives}
use Rattle.execution.specs.Together.{IsLegalTogether, history_in, name_of}
use Rattle.order_finder.specs.declared.candidate.At.{At}
use Rattle.one_world.specs.Certificates.{AreApart, AreNamed, survivors}
use Rattle.one_world.specs.Searches.{Log, named}
use Rattle.one_world.specs.Trees.{act_in}
use Rattle.one_world.proofs.Lists.{Has, each_has, if_false, if_true, same_is}
use Rattle.one_world.proofs.OneRun.{IsAt}
use Rattle.one_world.proofs.Passing.{alive_first, dead_first}
use Rattle.one_order.specs.Cycles.{Place, id_at, in_slot, place_in}
use Rattle.one_order.specs.Pairs.{Rooted}
use Rattle.one_order.specs.Roots.{WayUp, called_by, called_in, caller_of, climb, climb_on, found_place, made_in, places_left, rooted, rooted_at, rooted_left, way_up, with_slot}
use Rattle.one_order.specs.Shown.{act_at, place_of}
use Rattle.one_order.proofs.Blocked.{AreRooted}
use Rattle.one_order.proofs.Climbs.{AreNumbered, Up, apart_first, apart_later, at, came_by, down, get_has, numbers_in, one_call, root_named, step_of, up_at}
use Rattle.one_order.proofs.Left.{Survivor}
use Rattle.one_order.proofs.Marks.{Mark, down_twice}
use Rattle.one_order.proofs.Rising.{act_found, rises}

-- ---- the slot of a call

unlike_first : (x n : ℕ) (xs : List ℕ) (k : ℕ) → AreApart (x ∷ xs) → slice_get xs k ≡ Some n → nat_eq x n ≡ false
unlike_first x n xs k apart e = elim (cases_Bool (nat_eq x n)) [
  | inl is ↦ absurd (each_has (λ y. ¬ (x ≡ y)) n xs apart.0 (get_has xs k n e) (eqb-true x n is))
  | inr other ↦ other
]

passed_len : (b : Bool) (n : ℕ) → b ≡ false → cond (not b) (1 + n) 0 ≡ suc n
passed_len b n e = ap (λ c. cond (not c) (1 + n) 0) e ∙ (let more : 1 + n ≡ suc n = omega arith in more)

slot_len : (ns : List ℕ) → AreApart ns → (k n : ℕ) → slice_get ns k ≡ Some n → position_or_len (λ m. m == n) ns ≡ k
slot_len [] apart k n e = absurd cc
slot_len (x ∷ xs) apart zero n e =
    let same : x ≡ n = cc in
    ap (λ b. cond (not b) (1 + position_or_len (λ m. m == n) xs) 0) (eq-eqb x n same)
slot_len (x ∷ xs) apart (suc k) n e =
    passed_len (nat_eq x n) (position_or_len (λ m. m == n) xs) (unlike_first x n xs k apart e) ∙ ap suc (slot_len xs apart.1 k n e)

slot_within : (ns : List ℕ) (k n : ℕ) → slice_get ns k ≡ Some n → k < length ns
slot_within [] k n e = absurd cc
slot_within (x ∷ xs) zero n e = omega arith
slot_within (x ∷ xs) (suc k) n e = (let lt = slot_within xs k n e in omega (arith, lt))

slot_is : (ns : List ℕ) → AreApart ns → (k n : ℕ) → slice_get ns k ≡ Some n → position (λ m. m == n) ns ≡ Some k
slot_is ns apart k n e =
    let len = slot_len ns apart k n e in
    ap (λ m. cond (nat_lt m (length ns)) (Some m) None) len
    ∙ if_true (nat_lt k (length ns)) (Some k) None (lt-ltb k (length ns) (slot_within ns k n e))

-- ---- the request that made a call

any_get : (n : ℕ) (ns : List ℕ) → list_any (nat_eq n) ns ≡ true → (k : ℕ) × (slice_get ns k ≡ Some n)
any_get n [] e = absurd (true≢false (sym e))
any_get n (m ∷ ns) e = elim (cases_Bool (nat_eq n m)) [
  | inl is ↦ (0, ap Some (sym (eqb-true n m is)))
  | inr other ↦ (let later = any_get n ns (sym (ap (λ b. b || list_any (nat_eq n) ns) other) ∙ e) in (suc later.0, later.1))
]

get_any : (n : ℕ) (ns : List ℕ) (k : ℕ) → slice_get ns k ≡ Some n → list_any (nat_eq n) ns ≡ true
get_any n [] k e = absurd cc
get_any n (m ∷ ns) zero e = (let same : n ≡ m = cc in ap (λ b. b || list_any (nat_eq n) ns) (eq-eqb n m same))
get_any n (m ∷ ns) (suc k) e = elim (cases_Bool (nat_eq n m)) [
  | inl is ↦ ap (λ b. b || list_any (nat_eq n) ns) is
  | inr other ↦ ap (λ b. b || list_any (nat_eq n) ns) other ∙ get_any n ns k e
]

made_first : (b : Act) (acts : List Act) → AreApart (numbers_in (b ∷ acts)) → (a : Act) (k n : ℕ) → Has a (b ∷ acts) → slice_get a.numbers k ≡ Some n
    → list_any (nat_eq n) b.numbers ≡ true → b ≡ a
made_first b acts apart a k n there e is =
    let own = any_get n b.numbers is in
    (one_call (b ∷ acts) apart b a (inl refl) there own.0 k n own.1 e).0

made_is : (acts : List Act) → AreApart (numbers_in acts) → (a : Act) (k n : ℕ) → Has a acts → slice_get a.numbers k ≡ Some n → made_in n acts ≡ Some a
made_is [] apart a k n there e = absurd there
made_is (b ∷ acts) apart a k n (inl same) e =
    let is = get_any n b.numbers k (subst (λ (c : Act). slice_get c.numbers k ≡ Some n) same e) in
    if_true (list_any (nat_eq n) b.numbers) (Some b) (made_in n acts) is ∙ ap Some (sym same)
made_is (b ∷ acts) apart a k n (inr there) e = elim (cases_Bool (list_any (nat_eq n) b.numbers)) [
  | inl is ↦ if_true (list_any (nat_eq n) b.numbers) (Some b) (made_in n acts) is ∙ ap Some (made_first b acts apart a k n (inr there) e is)
  | inr other ↦ if_false (list_any (nat_eq n) b.numbers) (Some b) (made_in n acts) other ∙ made_is acts (apart_later b.numbers (numbers_in acts) apart) a k n there e
]

-- ---- as the code has them

-- a caller that hasn't the call in a slot
pub no_slot : (world : List History) (o : Origin) (caller : List ℕ) (number : ℕ) (h : History) (a : Act) → o ≡ Call caller number → history_in caller world ≡ Some h
    → made_in number h.acts ≡ Some a → position (λ n. n == number) a.numbers ≡ None → None ≡ caller_of world o
no_slot world o caller number h a e f g i =
    sym (ap (caller_of world) e ∙ ap (called_by number) f ∙ ap (called_in number h) g ∙ ap (with_slot h a) i)

pub rooted_places : (world : List History) (ats : List At) → map (rooted_at world) ats ≡ map (rooted world) (map place_of ats)
rooted_places world [] = refl
rooted_places world (e ∷ ats) = ap (λ rs. rooted world (place_of e) ∷ rs) (rooted_places world ats)

abbrev with_root : RequestId → WayUp → Rooted
with_root id way = record { id = id; root = id_at way.root; slots = way.slots }

-- at a request that none called
pub stands : (n : ℕ) (world : List History) (p : Place) (slots : List ℕ) → caller_of world p.act.origin ≡ None → climb n world p slots ≡ record { root = p; slots = slots }
stands zero world p slots e = refl
stands (suc n) world p slots e = ap (climb_on (climb n world) p slots) e

-- at another
pub goes_up : (n m : ℕ) (world : List History) (p q : Place) (k : ℕ) (slots : List ℕ) → n ≡ suc m → caller_of world p.act.origin ≡ Some (q, k)
    → climb n world p slots ≡ climb m world q (k ∷ slots)
goes_up n m world p q k slots e is = ap (λ x. climb x world p slots) e ∙ ap (climb_on (climb m world) p slots) is

pub rooted_is : (world : List History) (p r : Place) (slots : List ℕ) → way_up world p ≡ record { root = r; slots = slots }
    → rooted world p ≡ record { id = id_at p; root = id_at r; slots = slots }
rooted_is world p r slots e = ap (with_root (id_at p)) e

pub climb_begins : (world : List History) (p r : Place) (more : ℕ) (slots : List ℕ) → more ≡ length p.act.request.chain → r ≡ p → slots ≡ []
    → climb more world r (reverse slots) ≡ way_up world p
climb_begins world p r more slots e f g =
    ap (λ n. climb n world r (reverse slots)) e
    ∙ ap (λ (q : Place). climb (length p.act.request.chain) world q (reverse slots)) f
    ∙ ap (λ ss. climb (length p.act.request.chain) world p (reverse ss)) g

-- behind a caller
pub climb_goes_on : (world : List History) (r q : Place) (more fewer k : ℕ) (slots slots_now : List ℕ) (way : WayUp) → more ≡ suc fewer → caller_of world r.act.origin ≡ Some (q, k)
    → slots_now ≡ slots ++ k ∷ [] → climb more world r (reverse slots) ≡ way → climb fewer world q (reverse slots_now) ≡ way
climb_goes_on world r q more fewer k slots slots_now way e is put so =
    ap (climb fewer world q) (ap reverse put ∙ reverse-append slots (k ∷ [])) ∙ sym (goes_up more fewer world r q k (reverse slots) e is) ∙ so

-- where no more are looked for, or there is none
pub climb_ends : (world : List History) (p r : Place) (more : ℕ) (slots : List ℕ) → (caller_of world r.act.origin ≡ None) ⊎ (more ≡ 0)
    → climb more world r (reverse slots) ≡ way_up world p → rooted world p ≡ record { id = id_at p; root = id_at r; slots = reverse slots }
climb_ends world p r more slots (inl none) so = rooted_is world p r (reverse slots) (sym so ∙ stands more world r (reverse slots) none)
climb_ends world p r more slots (inr zero_more) so = rooted_is world p r (reverse slots) (sym so ∙ ap (λ n. climb n world r (reverse slots)) zero_more)

-- ---- one step up

call_of : (o : Origin) (c : List ℕ) (n : ℕ) → is_call c n o ≡ true → o ≡ Call c n
call_of Outside c n e = absurd (true≢false (sym e))
call_of (Call caller number) c n e =
    let parts = and_parts (same_text caller c) (nat_eq number n) e in
    ap (λ (s : List ℕ). Call s number) (same_is caller c parts.0) ∙ ap (Call c) (eqb-true number n parts.1)

own_numbers : (acts : List Act) → AreApart (numbers_in acts) → (a : Act) → Has a acts → AreApart a.numbers
own_numbers [] apart a there = absurd there
own_numbers (b ∷ acts) apart a (inl e) = subst (λ (c : Act). AreApart c.numbers) (sym e) (apart_first b.numbers (numbers_in acts) apart)
own_numbers (b ∷ acts) apart a (inr there) = own_numbers acts (apart_later b.numbers (numbers_in acts) apart) a there

module _ (world : List History) (legal : IsLegalTogether world) (named_so : AreNamed world) (numbered : AreNumbered world) where
  caller_is : (q p : Place) (k : ℕ) → IsAt world q.history q.act → in_slot world q k ≡ Some p → caller_of world p.act.origin ≡ Some (q, k)
  caller_is q p k home e =
      let step = step_of world q p k e in
      let origin = call_of p.act.origin (name_of q.history) step.number (came_by world numbered q k p step) in
      let apart = each_has (λ (h : History). AreApart (numbers_in h.acts)) q.history world numbered home.there in
      let made = made_is q.history.acts apart q.act k step.number home.logged step.numbered in
      let slot = slot_is q.act.numbers (own_numbers q.history.acts apart q.act home.logged) k step.number step.numbered in
      ap (caller_of world) origin
      ∙ ap (called_by step.number) home.found
      ∙ ap (called_in step.number q.history) made
      ∙ ap (with_slot q.history q.act) slot

  -- ---- to the root

  record Climbs (i : RequestId) (slots acc : List ℕ) (way : WayUp) : Type 0 where
    root : id_at way.root ≡ i
    slots_are : way.slots ≡ down slots acc

  at_root : (p : Place) → p.act.origin ≡ Outside → (fuel : ℕ) (acc : List ℕ) → climb fuel world p acc ≡ record { root = p; slots = acc }
  at_root p outside zero acc = refl
  at_root p outside (suc fuel) acc = ap (λ o. climb_on (climb fuel world) p acc (caller_of world o)) outside

  climbs : (i : RequestId) (slots : List ℕ) (p : Place) → Up world i slots p → (fuel : ℕ) → length slots ≤ fuel → (acc : List ℕ) → Climbs i slots acc (climb fuel world p acc)
  climbs i [] p up fuel le acc =
      subst (Climbs i [] acc) (sym (at_root p up.outside fuel acc)) (record { root = sym (root_named world i p up); slots_are = refl })
  climbs i (k ∷ slots) p up zero le acc = absurd (omega (arith, le))
  climbs i (k ∷ slots) p up (suc fuel) le acc =
      let q : Place = up.0 in
      let step = caller_is q p k (up_at world i slots q up.3) up.2 in
      let more = climbs i slots q up.3 fuel (omega (arith, le)) (k ∷ acc) in
      subst (Climbs i (k ∷ slots) acc) (sym (ap (climb_on (climb fuel world) p acc) step)) (record { root = more.root; slots_are = more.slots_are })

  -- a request that survives is marked by its root and the slots
  pub rooted_mark : (p : Place) → IsAt world p.history p.act → survives p.act ≡ true → Mark world (rooted world p).root (down (rooted world p).slots []) (id_at p)
  rooted_mark p home alive =
      let r = rises world legal named_so p.history p.act home alive in
      let way = climbs r.root r.slots p r.up (length p.act.request.chain) r.short [] in
      let mark : Mark world r.root r.slots (id_at p) = record { place = p; up = r.up; alive = alive; is = refl } in
      let slots : down (way_up world p).slots [] ≡ r.slots = ap (λ s. down s []) way.slots_are ∙ down_twice r.slots in
      subst (λ (j : RequestId). Mark world j (down (way_up world p).slots []) (id_at p)) (sym way.root)
      (subst (λ s. Mark world r.root s (id_at p)) (sym slots) mark)

  -- ---- what is left of a log

  record Places (h : History) (ns : List ℕ) (ps : List Place) : Type 0 where
    numbers : map (λ (p : Place). p.act.id) ps ≡ ns
    each : (p : Place) → Has p ps → (p.history ≡ h) × IsAt world p.history p.act × (survives p.act ≡ true)

  found_is : (h : History) → history_in (name_of h) world ≡ Some h → Has h world → (n : ℕ) (s : Survivor n h.acts) → act_at n (history_in (name_of h) world) ≡ Some (at h s.act)
  found_is h served there n s =
      let apart = each_has (λ (g : History). AreApart (map (λ (c : Act). c.id) g.acts)) h world named_so.ids there in
      let found : act_in n h.acts ≡ Some s.act = subst (λ m. act_in m h.acts ≡ Some s.act) s.number (act_found s.act h.acts apart s.logged) in
      ap (act_at n) served ∙ ap (place_in h) found

  each_more : (h : History) → history_in (name_of h) world ≡ Some h → Has h world → (n : ℕ) (s : Survivor n h.acts) (ns : List ℕ) (ps : List Place) → Places h ns ps
      → (p : Place) → Has p (at h s.act ∷ ps) → (p.history ≡ h) × IsAt world p.history p.act × (survives p.act ≡ true)
  each_more h served there n s ns ps rest p (inl e) =
      subst (λ (q : Place). (q.history ≡ h) × IsAt world q.history q.act × (survives q.act ≡ true)) (sym e)
      (refl, record { there = there; found = served; logged = s.logged }, s.alive)
  each_more h served there n s ns ps rest p (inr more) = rest.each p more

  one_more : (h : History) → history_in (name_of h) world ≡ Some h → Has h world → (n : ℕ) (s : Survivor n h.acts) (ns : List ℕ) (ps : List Place) → Places h ns ps
      → Places h (n ∷ ns) (at h s.act ∷ ps)
  one_more h served there n s ns ps rest = record {
    numbers = ap (λ m. m ∷ map (λ (p : Place). p.act.id) ps) s.number ∙ ap (λ ms. n ∷ ms) rest.numbers;
    each = each_more h served there n s ns ps rest;
  }

  places : (h : History) → history_in (name_of h) world ≡ Some h → Has h world → (left : List Act) → ((n : ℕ) → Has n (survivors left) → Survivor n h.acts)
      → Places h (survivors left) (places_left world h left)
  places h served there [] all = record { numbers = refl; each = λ p none. absurd none }
  places h served there (a ∷ left) all = elim (cases_Bool (survives a)) [
    | inl alive ↦ (let is = alive_first a left alive in
        let s = all a.id (subst (Has a.id) (sym is) (inl refl)) in
        let rest = places h served there left (λ n later. all n (subst (Has n) (sym is) (inr later))) in
        let found : places_left world h (a ∷ left) ≡ at h s.act ∷ places_left world h left =
        if_true (survives a) (found_place (act_at a.id (history_in (name_of h) world)) ++ places_left world h left) (places_left world h left) alive
        ∙ ap (λ o. found_place o ++ places_left world h left) (found_is h served there a.id s) in
        subst (λ ps. Places h (survivors (a ∷ left)) ps) (sym found)
        (subst (λ ns. Places h ns (at h s.act ∷ places_left world h left)) (sym is) (one_more h served there a.id s (survivors left) (places_left world h left) rest)))
    | inr dead ↦ (let is = dead_first a left dead in
        let rest = places h served there left (λ n later. all n (subst (Has n) (sym is) later)) in
        let same : places_left world h (a ∷ left) ≡ places_left world h left =
        if_false (survives a) (found_place (act_at a.id (history_in (name_of h) world)) ++ places_left world h left) (places_left world h left) dead in
        subst (λ ps. Places h (survivors (a ∷ left)) ps) (sym same) (subst (λ ns. Places h ns (places_left world h left)) (sym is) rest))
  ]

  same_numbers : (ps : List Place) → map (λ (e : Rooted). e.id.number) (map (rooted world) ps) ≡ map (λ (p : Place). p.act.id) ps
  same_numbers [] = refl
  same_numbers (p ∷ ps) = ap (λ ns. p.act.id ∷ ns) (same_numbers ps)

  has_rooted : (e : Rooted) (ps : List Place) → Has e (map (rooted world) ps) → (p : Place) × Has p ps × (e ≡ rooted world p)
  has_rooted e [] there = absurd there
  has_rooted e (p ∷ ps) (inl is) = (p, inl refl, is)
  has_rooted e (p ∷ ps) (inr there) = (let more = has_rooted e ps there in (more.0, inr more.1, more.2))

  -- each with its root
  pub left_rooted : (l : Log) → history_in (name_of l.history) world ≡ Some l.history → Has l.history world → ((n : ℕ) → Has n (survivors l.left) → Survivor n l.history.acts)
      → AreRooted world l (rooted_left world l)
  left_rooted l served there all =
      let ps : List Place = places_left world l.history l.left in
      let found = places l.history served there l.left all in
      record {
        numbers = same_numbers ps ∙ found.numbers;
        ids = λ e among. (let p = has_rooted e ps among in
            let each = found.each p.0 p.1 in
            subst (λ (x : Rooted). x.id ≡ named l.history x.id.number) (sym p.2) (ap (λ (h : History). named h p.0.act.id) each.0));
        marks = λ e among. (let p = has_rooted e ps among in
            let each = found.each p.0 p.1 in
            subst (λ (x : Rooted). Mark world x.root (down x.slots []) x.id) (sym p.2) (rooted_mark p.0 each.1 each.2));
      }
