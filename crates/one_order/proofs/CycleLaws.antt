-- What the test of two entries finds, as a cycle.
use Rattle.std.proofs.Common.{◌≡◌, inl, inr, ℕ, Bool, true, false, not, ◌&&◌, List, [], ◌∷◌, ◌++◌, Option, Some, None, IfSome, refl, sym, ap, ◌∙◌, subst, nat_eq, eqb-true, eq-eqb, true≢false}
use Rattle.std.proofs.lemmas.Bool.{and_from, and_parts, cases_Bool}
use Rattle.lang_base.specs.Texts.{same_text}
use Rattle.lang_core.specs.declared.ids.Origin.{Origin}
use Rattle.lang_core.specs.declared.ids.Origin.TheVariants.{Outside, Call}
use Rattle.lang_core.specs.declared.ids.RequestId.{RequestId}
use Rattle.execution.specs.Executions.{Act, History, survives}
use Rattle.execution.specs.Together.{history_in}
use Rattle.one_order.specs.Certificates.{order_in}
use Rattle.one_order.specs.Cycles.{AreNeighbours, ComesTo, IsBefore, IsShown, IsWay, LeadTo, Place, ShowsCycle, along, id_at, is_earlier, place_in}
use Rattle.one_order.specs.declared.certificates.Certificate.{Certificate}
use Rattle.one_order.specs.declared.certificates.Certificate.TheVariants.{Cycle}
use Rattle.one_order.specs.Shown.{act_at, are_neighbours, are_next, comes_by, comes_to, is_at, is_before, is_front, is_pair, next_in, same_ids}
use Rattle.one_world.specs.Certificates.{survivors}
use Rattle.one_world.specs.Checks.{is_outside}
use Rattle.one_world.specs.Searches.{front}
use Rattle.one_world.specs.Trees.{act_in}
use Rattle.one_world.proofs.Lists.{if_false, if_true, same_is, same_self}
use Rattle.one_world.proofs.Passing.{alive_first, dead_first}

-- ---- names

abbrev named : List ℕ → ℕ → RequestId
named service number = record { service = service; number = number }

pub same_ids_is : (a b : RequestId) → same_ids a b ≡ true → a ≡ b
same_ids_is a b e =
    let parts = and_parts (nat_eq a.number b.number) (same_text a.service b.service) e in
    ap (named a.service) (eqb-true a.number b.number parts.0) ∙ ap (λ (s : List ℕ). named s b.number) (same_is a.service b.service parts.1)

pub same_ids_self : (a : RequestId) → same_ids a a ≡ true
same_ids_self a = and_from (nat_eq a.number a.number) (same_text a.service a.service) (eq-eqb a.number a.number refl) (same_self a.service)

pub same_ids_apart : (a b : RequestId) → same_ids a b ≡ false → ¬ (a ≡ b)
same_ids_apart a b isnt e = true≢false (sym (subst (λ (c : RequestId). same_ids a c ≡ true) e (same_ids_self a)) ∙ isnt)

-- ---- where a root comes to

outside_is : (o : Origin) → is_outside o ≡ true → o ≡ Outside
outside_is Outside e = refl
outside_is (Call caller number) e = absurd (true≢false (sym e))

-- the request that is found
record Found (o : Option Place) (id : RequestId) : Type 0 where
  place : Place
  there : o ≡ Some place
  alive : survives place.act ≡ true
  is : id_at place ≡ id

found_is : (id : RequestId) (o : Option Place) → is_at id o ≡ true → Found o id
found_is id None e = absurd (true≢false (sym e))
found_is id (Some p) e =
    let parts = and_parts (survives p.act) (same_ids (id_at p) id) e in
    record { place = p; there = refl; alive = parts.0; is = same_ids_is (id_at p) id parts.1 }

comes_from_act : (world : List History) (root : RequestId) (slots : List ℕ) (id : RequestId) (h : History) (o : Option Act) → history_in root.service world ≡ Some h
    → act_in root.number h.acts ≡ o → comes_by world slots id (place_in h o) ≡ true → ComesTo world root slots id
comes_from_act world root slots id h None served logged e = absurd (true≢false (sym e))
comes_from_act world root slots id h (Some a) served logged e =
    let p : Place = record { history = h; act = a } in
    let parts = and_parts (is_outside a.origin && survives a) (is_at id (along world slots p)) e in
    let root_parts = and_parts (is_outside a.origin) (survives a) parts.0 in
    let found = found_is id (along world slots p) parts.1 in
    record {
      history = h;
      act = a;
      is_root = record { served = served; logged = logged; outside = outside_is a.origin root_parts.0; alive = root_parts.1 };
      place = found.place;
      there = found.there;
      alive = found.alive;
      is = found.is;
    }

comes_from_history : (world : List History) (root : RequestId) (slots : List ℕ) (id : RequestId) (o : Option History) → history_in root.service world ≡ o
    → comes_by world slots id (act_at root.number o) ≡ true → ComesTo world root slots id
comes_from_history world root slots id None served e = absurd (true≢false (sym e))
comes_from_history world root slots id (Some h) served e = comes_from_act world root slots id h (act_in root.number h.acts) served refl e

pub comes_to_so : (world : List History) (root : RequestId) (slots : List ℕ) (id : RequestId) → comes_to world root slots id ≡ true → ComesTo world root slots id
comes_to_so world root slots id e = comes_from_history world root slots id (history_in root.service world) refl e

-- ---- neighbours

front_here : (acts : List Act) (n : ℕ) → front acts ≡ Some n → (ns : List ℕ) × (survivors acts ≡ n ∷ ns)
front_here [] n e = absurd cc
front_here (a ∷ acts) n e = elim (cases_Bool (survives a)) [
  | inl alive ↦ (let is : Some a.id ≡ Some n = sym (if_true (survives a) (Some a.id) (front acts) alive) ∙ e in
      let same : a.id ≡ n = cc in
      (survivors acts, alive_first a acts alive ∙ ap (λ m. m ∷ survivors acts) same))
  | inr dead ↦ (let later = front_here acts n (sym (if_false (survives a) (Some a.id) (front acts) dead) ∙ e) in
      (later.0, dead_first a acts dead ∙ later.1))
]

is_front_so : (n : ℕ) (o : Option ℕ) → is_front n o ≡ true → o ≡ Some n
is_front_so n None e = absurd (true≢false (sym e))
is_front_so n (Some m) e = ap (λ k. Some k) (eqb-true m n e)

-- what survives of a log, with these two one behind the other
record AreNext (first second : ℕ) (acts : List Act) : Type 0 where
  before : List ℕ
  after : List ℕ
  is : survivors acts ≡ before ++ first ∷ second ∷ after

next_more : (first second : ℕ) (a : Act) (acts : List Act) → AreNext first second acts → AreNext first second (a ∷ acts)
next_more first second a acts next = elim (cases_Bool (survives a)) [
  | inl alive ↦ record { before = a.id ∷ next.before; after = next.after; is = alive_first a acts alive ∙ ap (λ ns. a.id ∷ ns) next.is }
  | inr dead ↦ record { before = next.before; after = next.after; is = dead_first a acts dead ∙ next.is }
]

next_here : (first second : ℕ) (a : Act) (acts : List Act) → (survives a && nat_eq a.id first) ≡ true → is_front second (front acts) ≡ true → AreNext first second (a ∷ acts)
next_here first second a acts here e =
    let parts = and_parts (survives a) (nat_eq a.id first) here in
    let later = front_here acts second (is_front_so second (front acts) e) in
    record {
      before = [];
      after = later.0;
      is = alive_first a acts parts.0 ∙ ap (λ n. n ∷ survivors acts) (eqb-true a.id first parts.1) ∙ ap (λ ns. first ∷ ns) later.1;
    }

are_next_so : (first second : ℕ) (acts : List Act) → are_next first second acts ≡ true → AreNext first second acts
are_next_so first second [] e = absurd (true≢false (sym e))
are_next_so first second (a ∷ acts) e = elim (cases_Bool (survives a && nat_eq a.id first)) [
  | inl here ↦ next_here first second a acts here (sym (if_true (survives a && nat_eq a.id first) (is_front second (front acts)) (are_next first second acts) here) ∙ e)
  | inr isnt ↦ next_more first second a acts
      (are_next_so first second acts (sym (if_false (survives a && nat_eq a.id first) (is_front second (front acts)) (are_next first second acts) isnt) ∙ e))
]

neighbours_in : (world : List History) (first second : RequestId) (o : Option History) → history_in first.service world ≡ o → first.service ≡ second.service
    → next_in first.number second.number o ≡ true → AreNeighbours world first second
neighbours_in world first second None served same e = absurd (true≢false (sym e))
neighbours_in world first second (Some h) served same e =
    let next = are_next_so first.number second.number h.acts e in
    record { history = h; served = served; same = same; before = next.before; after = next.after; is = next.is }

pub neighbours_so : (world : List History) (first second : RequestId) → are_neighbours world first second ≡ true → AreNeighbours world first second
neighbours_so world first second e =
    let parts = and_parts (same_text first.service second.service) (next_in first.number second.number (history_in first.service world)) e in
    neighbours_in world first second (history_in first.service world) refl (same_is first.service second.service parts.0) parts.1

-- ---- ways

not_false : (b : Bool) → not b ≡ true → b ≡ false
not_false true e = absurd (true≢false (sym e))
not_false false e = refl

before_so : (world : List History) (root other first second : RequestId) (first_slots second_slots : List ℕ)
    → is_before world root other first second first_slots second_slots ≡ true → IsBefore world root other
before_so world root other first second first_slots second_slots e =
    let parts = and_parts (not (same_ids root other)) (is_pair world first second root other first_slots second_slots) e in
    let pair = and_parts (are_neighbours world first second) (comes_to world root first_slots first && comes_to world other second_slots second) parts.1 in
    let both = and_parts (comes_to world root first_slots first) (comes_to world other second_slots second) pair.1 in
    record {
      first = first;
      second = second;
      neighbours = neighbours_so world first second pair.0;
      first_slots = first_slots;
      second_slots = second_slots;
      of_root = comes_to_so world root first_slots first both.0;
      of_other = comes_to_so world other second_slots second both.1;
      apart = same_ids_apart root other (not_false (same_ids root other) parts.0);
    }

lead_more : (world : List History) (root : RequestId) (roots : List RequestId) (last next : RequestId) → LeadTo world root roots last → IsBefore world last next
    → LeadTo world root (roots ++ next ∷ []) next
lead_more world root [] last next e before = (subst (λ (r : RequestId). IsBefore world r next) (sym e) before, refl)
lead_more world root (r ∷ roots) last next lead before = (lead.0, lead_more world r roots last next lead.1 before)

way_more : (world : List History) (root last next : RequestId) (roots roots_now : List RequestId) → IsWay world root last roots → IsBefore world last next
    → roots_now ≡ roots ++ next ∷ [] → IsWay world root next roots_now
way_more world root last next roots roots_now w before put = record {
  later = w.later ++ next ∷ [];
  is = put ∙ ap (λ (rs : List RequestId). rs ++ next ∷ []) w.is;
  way = lead_more world root w.later last next w.way before;
}

way_ends : (world : List History) (root last end : RequestId) (roots : List RequestId) → IsWay world root last roots → same_ids last end ≡ true → IsWay world root end roots
way_ends world root last end roots w e = subst (λ (r : RequestId). IsWay world root r roots) (same_ids_is last end e) w

-- the same by what tests gave
pub way_goes_on : (world : List History) (root last next first second : RequestId) (first_slots second_slots : List ℕ) (b : Bool) (roots roots_now : List RequestId)
    → IsWay world root last roots → b ≡ is_before world last next first second first_slots second_slots → b ≡ true → roots_now ≡ roots ++ next ∷ [] → IsWay world root next roots_now
way_goes_on world root last next first second first_slots second_slots b roots roots_now w is so put =
    way_more world root last next roots roots_now w (before_so world last next first second first_slots second_slots (sym is ∙ so)) put

pub way_is : (world : List History) (root last end : RequestId) (b : Bool) (roots : List RequestId) → IsWay world root last roots → b ≡ same_ids last end → b ≡ true
    → IsWay world root end roots
way_is world root last end b roots w is so = way_ends world root last end roots w (sym is ∙ so)

-- ---- what is shown

module _ (world : List History) (first second root other : RequestId) (first_slots second_slots : List ℕ) (e : is_pair world first second root other first_slots second_slots ≡ true) where
  parts : (are_neighbours world first second ≡ true) × ((comes_to world root first_slots first && comes_to world other second_slots second) ≡ true)
  parts = and_parts (are_neighbours world first second) (comes_to world root first_slots first && comes_to world other second_slots second) e

  both : (comes_to world root first_slots first ≡ true) × (comes_to world other second_slots second ≡ true)
  both = and_parts (comes_to world root first_slots first) (comes_to world other second_slots second) parts.1

  shows_back : same_ids root other ≡ false → (back : List RequestId) → IsWay world other root back → ShowsCycle world first second back
  shows_back isnt back way = record {
    neighbours = neighbours_so world first second parts.0;
    way = inr (record {
      root = root;
      other = other;
      first_slots = first_slots;
      second_slots = second_slots;
      of_first = comes_to_so world root first_slots first both.0;
      of_second = comes_to_so world other second_slots second both.1;
      apart = same_ids_apart root other isnt;
      way = way;
    });
  }

  shows_turned : same_ids root other ≡ true → (back : List RequestId) → (is_earlier second_slots first_slots ≡ true) × (back ≡ []) → ShowsCycle world first second back
  shows_turned same back turned = record {
    neighbours = neighbours_so world first second parts.0;
    way = inl (record {
      root = root;
      first_slots = first_slots;
      second_slots = second_slots;
      of_first = comes_to_so world root first_slots first both.0;
      of_second = subst (λ (r : RequestId). ComesTo world r second_slots second) (sym (same_ids_is root other same)) (comes_to_so world other second_slots second both.1);
      turned = turned.0;
      none = turned.1;
    });
  }

  -- the same of what is found, if anything is
  pub back_turned : (b : Bool) → b ≡ same_ids root other → b ≡ true → (found : Option (List RequestId))
      → IfSome found (λ back. (is_earlier second_slots first_slots ≡ true) × (back ≡ [])) → IfSome found (λ back. ShowsCycle world first second back)
  back_turned b is same None turned = tt
  back_turned b is same (Some back) turned = shows_turned (sym is ∙ same) back turned

  pub back_leads : (b : Bool) → b ≡ same_ids root other → b ≡ false → (found : Option (List RequestId))
      → IfSome found (λ back. IsWay world other root back) → IfSome found (λ back. ShowsCycle world first second back)
  back_leads b is isnt None way = tt
  back_leads b is isnt (Some back) way = shows_back (sym is ∙ isnt) back way

-- ---- what is told

pub told_shown : (world : List History) (first second : RequestId) (back : List RequestId) (told : Certificate) → told ≡ Cycle first second back → ShowsCycle world first second back
    → IsShown world told
told_shown world first second back told is shows = subst (IsShown world) (sym is) shows

pub told_none : (first second : RequestId) (back : List RequestId) (told : Certificate) → told ≡ Cycle first second back → order_in told ≡ None
told_none first second back told is = ap order_in is
