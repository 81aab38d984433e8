-- The way up from a request to its root: it is the only one, and calls lead down it again.
use Rattle.std.proofs.Common.{◌≡◌, ℕ, zero, suc, true, List, [], ◌∷◌, ◌++◌, Option, Some, None, slice_get, inl, inr, refl, sym, ap, ◌∙◌, subst, nat_eq, eqb-true, true≢false}
use Rattle.std.specs.List.{AllByRecursion}
use Rattle.std.proofs.lemmas.Bool.{and_parts}
use Rattle.lang_base.specs.Texts.{same_text}
use Rattle.lang_core.specs.Origins.{is_call}
use Rattle.lang_core.specs.declared.ids.Origin.{Origin}
use Rattle.lang_core.specs.declared.ids.Origin.TheVariants.{Outside, Call}
use Rattle.lang_core.specs.declared.ids.RequestId.{RequestId}
use Rattle.lang_core.specs.declared.trace.CallMade.{CallMade}
use Rattle.execution.specs.Executions.{Act, History, survives}
use Rattle.execution.specs.Together.{comes_from, history_in, name_of}
use Rattle.one_world.specs.Certificates.{AreApart}
use Rattle.one_world.specs.Trees.{IsCallee, IsRoot, callee_in, calls_of}
use Rattle.one_world.proofs.Alike.{both_some}
use Rattle.one_world.proofs.Facts.{callee_there}
use Rattle.one_world.proofs.Lists.{Has, each_has, has_behind, has_found, same_is}
use Rattle.one_world.proofs.OneRun.{IsAt, root_at}
use Rattle.one_order.specs.Cycles.{ComesTo, Place, along, callee_at, id_at, in_slot, led_to, place_in, then_along}

abbrev pub at : History → Act → Place
at h a = record { history = h; act = a }

-- the way up from a request to a root, by the slots of the calls, the last call first; each request on it survives that made a call
abbrev pub Up : List History → RequestId → List ℕ → Place → Type 0
Up world i [] p = IsRoot world i p.history p.act
Up world i (k ∷ slots) p = (q : Place) × (survives q.act ≡ true) × (in_slot world q k ≡ Some p) × Up world i slots q

-- slots the other way round, and these behind them
abbrev pub down : List ℕ → List ℕ → List ℕ
down [] later = later
down (k ∷ slots) later = down slots (k ∷ later)

-- no number of a call stands twice in a history
abbrev pub numbers_in : List Act → List ℕ
numbers_in [] = []
numbers_in (a ∷ acts) = a.numbers ++ numbers_in acts

abbrev pub AreNumbered : List History → Type 0
AreNumbered world = AllByRecursion (λ h. AreApart (numbers_in h.acts)) world

-- ---- down again

-- calls lead from the root to what they lead to from the request
record Top (world : List History) (i : RequestId) (slots : List ℕ) (o : Option Place) : Type 0 where
  history : History
  act : Act
  is_root : IsRoot world i history act
  there : along world slots (at history act) ≡ o

top_of : (world : List History) (i : RequestId) (slots : List ℕ) (p : Place) → Up world i slots p → (later : List ℕ) → Top world i (down slots later) (along world later p)
top_of world i [] p up later = record { history = p.history; act = p.act; is_root = up; there = refl }
top_of world i (k ∷ slots) p up later =
    let top = top_of world i slots up.0 up.3 (k ∷ later) in
    record { history = top.history; act = top.act; is_root = top.is_root; there = top.there ∙ ap (λ o. then_along o (λ q. along world later q)) up.2 }

-- a root comes to each request from which a way leads up to it
pub comes_down : (world : List History) (i : RequestId) (slots : List ℕ) (p : Place) → Up world i slots p → survives p.act ≡ true → ComesTo world i (down slots []) (id_at p)
comes_down world i slots p up alive =
    let top = top_of world i slots p up [] in
    record { history = top.history; act = top.act; is_root = top.is_root; place = p; there = top.there; alive = alive; is = refl }

-- ---- a step up

-- the call in a slot, and where it led
pub record IsStep (world : List History) (q : Place) (slot : ℕ) (p : Place) : Type 0 where
  pub number : ℕ
  pub call : CallMade
  pub numbered : slice_get q.act.numbers slot ≡ Some number
  pub made : slice_get (calls_of q.act) slot ≡ Some call
  pub callee : IsCallee world (name_of q.history) number call p.history p.act

found_callee : (world : List History) (caller : List ℕ) (n : ℕ) (c : CallMade) (h : History) (o : Option Act) (p : Place) → history_in c.dest world ≡ Some h
    → callee_in caller n h.acts ≡ o → place_in h o ≡ Some p → IsCallee world caller n c p.history p.act
found_callee world caller n c h None p served called e = absurd cc
found_callee world caller n c h (Some a) p served called e =
    let same : at h a ≡ p = cc in
    subst (λ (x : Place). IsCallee world caller n c x.history x.act) same (record { served = served; called = called })

served_callee : (world : List History) (caller : List ℕ) (n : ℕ) (c : CallMade) (o : Option History) (p : Place) → history_in c.dest world ≡ o
    → callee_at caller n o ≡ Some p → IsCallee world caller n c p.history p.act
served_callee world caller n c None p served e = absurd cc
served_callee world caller n c (Some h) p served e = found_callee world caller n c h (callee_in caller n h.acts) p served refl e

step_by : (world : List History) (q p : Place) (slot : ℕ) (o : Option ℕ) (u : Option CallMade) → slice_get q.act.numbers slot ≡ o → slice_get (calls_of q.act) slot ≡ u
    → led_to world (name_of q.history) o u ≡ Some p → IsStep world q slot p
step_by world q p slot None u numbered made e = absurd cc
step_by world q p slot (Some n) None numbered made e = absurd cc
step_by world q p slot (Some n) (Some c) numbered made e = record {
  number = n;
  call = c;
  numbered = numbered;
  made = made;
  callee = served_callee world (name_of q.history) n c (history_in c.dest world) p refl e;
}

pub step_of : (world : List History) (q p : Place) (slot : ℕ) → in_slot world q slot ≡ Some p → IsStep world q slot p
step_of world q p slot e = step_by world q p slot (slice_get q.act.numbers slot) (slice_get (calls_of q.act) slot) refl refl e

pub up_at : (world : List History) (i : RequestId) (slots : List ℕ) (p : Place) → Up world i slots p → IsAt world p.history p.act
up_at world i [] p up = root_at world i p.history p.act up
up_at world i (k ∷ slots) p up =
    let step = step_of world up.0 p k up.2 in
    let there = callee_there world (name_of up.0.history) step.number step.call p.history p.act step.callee in
    record { there = there.world_has; found = there.found; logged = there.logged }

-- ---- it is the only one

all_first : (P : ℕ → Type 0) (us vs : List ℕ) → AllByRecursion P (us ++ vs) → AllByRecursion P us
all_first P [] vs all = tt
all_first P (u ∷ us) vs all = (all.0, all_first P us vs all.1)

pub apart_first : (xs ys : List ℕ) → AreApart (xs ++ ys) → AreApart xs
apart_first [] ys apart = tt
apart_first (x ∷ xs) ys apart = (all_first (λ y. ¬ (x ≡ y)) xs ys apart.0, apart_first xs ys apart.1)

pub apart_later : (xs ys : List ℕ) → AreApart (xs ++ ys) → AreApart ys
apart_later [] ys apart = apart
apart_later (x ∷ xs) ys apart = apart_later xs ys apart.1

pub apart_both : (n : ℕ) (xs ys : List ℕ) → AreApart (xs ++ ys) → Has n xs → Has n ys → ⊥
apart_both n [] ys apart h k = h
apart_both n (x ∷ xs) ys apart (inl e) k = each_has (λ y. ¬ (x ≡ y)) n (xs ++ ys) apart.0 (has_behind n xs ys k) (sym e)
apart_both n (x ∷ xs) ys apart (inr h) k = apart_both n xs ys apart.1 h k

pub get_has : (xs : List ℕ) (k n : ℕ) → slice_get xs k ≡ Some n → Has n xs
get_has [] k n e = absurd cc
get_has (x ∷ xs) zero n e = inl cc
get_has (x ∷ xs) (suc k) n e = inr (get_has xs k n e)

one_slot : (xs : List ℕ) → AreApart xs → (k m n : ℕ) → slice_get xs k ≡ Some n → slice_get xs m ≡ Some n → k ≡ m
one_slot [] apart k m n e f = absurd cc
one_slot (x ∷ xs) apart zero zero n e f = refl
one_slot (x ∷ xs) apart zero (suc m) n e f =
    let same : x ≡ n = cc in
    absurd (each_has (λ y. ¬ (x ≡ y)) n xs apart.0 (get_has xs m n f) same)
one_slot (x ∷ xs) apart (suc k) zero n e f =
    let same : x ≡ n = cc in
    absurd (each_has (λ y. ¬ (x ≡ y)) n xs apart.0 (get_has xs k n e) same)
one_slot (x ∷ xs) apart (suc k) (suc m) n e f = ap suc (one_slot xs apart.1 k m n e f)

pub has_front : {X : Type 0} (x : X) (xs ys : List X) → Has x xs → Has x (xs ++ ys)
has_front x [] ys h = absurd h
has_front x (y ∷ xs) ys (inl e) = inl e
has_front x (y ∷ xs) ys (inr h) = inr (has_front x xs ys h)

among_numbers : (a : Act) (acts : List Act) → Has a acts → (n : ℕ) → Has n a.numbers → Has n (numbers_in acts)
among_numbers a [] there n h = absurd there
among_numbers a (b ∷ acts) (inl e) n h = has_front n b.numbers (numbers_in acts) (subst (λ (x : Act). Has n x.numbers) e h)
among_numbers a (b ∷ acts) (inr there) n h = has_behind n b.numbers (numbers_in acts) (among_numbers a acts there n h)

-- the request and the slot of a call
pub one_call : (acts : List Act) → AreApart (numbers_in acts) → (a b : Act) → Has a acts → Has b acts → (k m n : ℕ) → slice_get a.numbers k ≡ Some n → slice_get b.numbers m ≡ Some n
    → (a ≡ b) × (k ≡ m)
one_call [] apart a b h g k m n e f = absurd h
one_call (c ∷ acts) apart a b (inl i) (inl j) k m n e f =
    let same : a ≡ b = i ∙ sym j in
    let own : AreApart b.numbers = subst (λ (x : Act). AreApart x.numbers) (sym j) (apart_first c.numbers (numbers_in acts) apart) in
    (same, one_slot b.numbers own k m n (subst (λ (x : Act). slice_get x.numbers k ≡ Some n) same e) f)
one_call (c ∷ acts) apart a b (inl i) (inr g) k m n e f =
    absurd (apart_both n c.numbers (numbers_in acts) apart (subst (λ (x : Act). Has n x.numbers) i (get_has a.numbers k n e)) (among_numbers b acts g n (get_has b.numbers m n f)))
one_call (c ∷ acts) apart a b (inr h) (inl j) k m n e f =
    absurd (apart_both n c.numbers (numbers_in acts) apart (subst (λ (x : Act). Has n x.numbers) j (get_has b.numbers m n f)) (among_numbers a acts h n (get_has a.numbers k n e)))
one_call (c ∷ acts) apart a b (inr h) (inr g) k m n e f = one_call acts (apart_later c.numbers (numbers_in acts) apart) a b h g k m n e f

pub call_same : (o : Origin) (c d : List ℕ) (n m : ℕ) → is_call c n o ≡ true → is_call d m o ≡ true → (c ≡ d) × (n ≡ m)
call_same Outside c d n m e f = absurd (true≢false (sym e))
call_same (Call caller number) c d n m e f =
    let one = and_parts (same_text caller c) (nat_eq number n) e in
    let other = and_parts (same_text caller d) (nat_eq number m) f in
    (sym (same_is caller c one.0) ∙ same_is caller d other.0, sym (eqb-true number n one.1) ∙ eqb-true number m other.1)

not_outside : (o : Origin) (c : List ℕ) (n : ℕ) → o ≡ Outside → is_call c n o ≡ true → ⊥
not_outside o c n e is = true≢false (sym (sym (ap (is_call c n) e) ∙ is))

abbrev id_with : List ℕ → ℕ → RequestId
id_with service number = record { service = service; number = number }

id_is : (i : RequestId) (service : List ℕ) (number : ℕ) → i.service ≡ service → i.number ≡ number → i ≡ record { service = service; number = number }
id_is i service number e f = ap (λ (s : List ℕ). id_with s i.number) e ∙ ap (id_with service) f

place_is : (p q : Place) → p.history ≡ q.history → p.act ≡ q.act → p ≡ q
place_is p q e f = ap (λ (h : History). at h p.act) e ∙ ap (at q.history) f

slots_are : (k m : ℕ) (slots others : List ℕ) → k ≡ m → slots ≡ others → k ∷ slots ≡ m ∷ others
slots_are k m slots others e f = cc

pub root_named : (world : List History) (i : RequestId) (p : Place) → IsRoot world i p.history p.act → i ≡ id_at p
root_named world i p root =
    let service = (has_found (λ (g : History). same_text (name_of g) i.service) world p.history root.served).1 in
    let number = (has_found (λ (b : Act). nat_eq b.id i.number) p.history.acts p.act root.logged).1 in
    id_is i (name_of p.history) p.act.id (sym (same_is (name_of p.history) i.service service)) (sym (eqb-true p.act.id i.number number))

module _ (world : List History) (numbered : AreNumbered world) where
  pub came_by : (q : Place) (k : ℕ) (p : Place) (s : IsStep world q k p) → is_call (name_of q.history) s.number p.act.origin ≡ true
  came_by q k p s = (has_found (comes_from (name_of q.history) s.number) p.history.acts p.act s.callee.called).1

  -- who called, and in which slot
  one_caller : (q r p : Place) (k m : ℕ) → IsAt world q.history q.act → IsAt world r.history r.act → IsStep world q k p → IsStep world r m p → (q ≡ r) × (k ≡ m)
  one_caller q r p k m at_q at_r s t =
      let call = call_same p.act.origin (name_of q.history) (name_of r.history) s.number t.number (came_by q k p s) (came_by r m p t) in
      let home : q.history ≡ r.history = both_some (history_in (name_of q.history) world) q.history r.history at_q.found
      (subst (λ n. history_in n world ≡ Some r.history) (sym call.0) at_r.found) in
      let there : Has q.act r.history.acts = subst (λ (h : History). Has q.act h.acts) home at_q.logged in
      let apart = each_has (λ (h : History). AreApart (numbers_in h.acts)) r.history world numbered at_r.there in
      let same = one_call r.history.acts apart q.act r.act there at_r.logged k m t.number (s.numbered ∙ ap Some call.1) t.numbered in
      (place_is q r home same.0, same.1)

  -- no two ways lead up from a request
  pub one_way : (i j : RequestId) (slots others : List ℕ) (p : Place) → Up world i slots p → Up world j others p → (i ≡ j) × (slots ≡ others)
  one_way i j [] [] p up other = (root_named world i p up ∙ sym (root_named world j p other), refl)
  one_way i j [] (m ∷ others) p up other =
      let step = step_of world other.0 p m other.2 in
      absurd (not_outside p.act.origin (name_of other.0.history) step.number up.outside (came_by other.0 m p step))
  one_way i j (k ∷ slots) [] p up other =
      let step = step_of world up.0 p k up.2 in
      absurd (not_outside p.act.origin (name_of up.0.history) step.number other.outside (came_by up.0 k p step))
  one_way i j (k ∷ slots) (m ∷ others) p up other =
      let at_q = up_at world i slots up.0 up.3 in
      let at_r = up_at world j others other.0 other.3 in
      let same = one_caller up.0 other.0 p k m at_q at_r (step_of world up.0 p k up.2) (step_of world other.0 p m other.2) in
      let rest = one_way i j slots others other.0 (subst (Up world i slots) same.0 up.3) other.3 in
      (rest.0, slots_are k m slots others same.1 rest.1)
