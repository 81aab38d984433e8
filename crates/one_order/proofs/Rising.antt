-- In a legal execution a way leads up from each request that survives to a root.
use Rattle.std.proofs.Common.{◌≡◌, ◌≤◌, ◌<◌, ℕ, zero, suc, Bool, true, not, List, [], ◌∷◌, length, Option, Some, None, IsSomeAnd, find, filter, slice_get, slice_index_or, All, inl, inr, refl, sym, ap, ◌∙◌, subst, nat_eq, eq-eqb, eqb-true, map, arith}
use Rattle.std.specs.List.{AllByRecursion, Any}
use Rattle.std.proofs.lemmas.Bool.{and_from, and_parts, cases_Bool}
use Rattle.std.proofs.lemmas.List.{length-append}
use Rattle.std.proofs.lemmas.List.Elements.{recursion_from_All}
use Rattle.lang_base.specs.Texts.{same_text}
use Rattle.lang_core.specs.Origins.{is_call}
use Rattle.lang_core.specs.declared.ids.Origin.{Origin}
use Rattle.lang_core.specs.declared.ids.Origin.TheVariants.{Outside, Call}
use Rattle.lang_core.specs.declared.ids.RequestId.{RequestId}
use Rattle.lang_core.specs.declared.request.Response.{Response}
use Rattle.lang_core.specs.declared.trace.CallMade.{CallMade}
use Rattle.execution.specs.Executions.{Act, Deed, History, survives}
use Rattle.execution.specs.Together.{AreServed, IsAmong, IsCalledFor, IsLegalTogether, IsOne, IsServed, Makes, Serves, WantedIsCalledFor, comes_from, history_in, name_of}
use Rattle.one_world.specs.Certificates.{AreApart, AreNamed}
use Rattle.one_world.specs.Trees.{act_in, callee_in, calls_of, deed_calls, id_of}
use Rattle.one_world.proofs.Facts.{IsOnward, lawful, onward}
use Rattle.one_world.proofs.Lists.{Has, each_has, has_found, has_id, same_is, same_self}
use Rattle.one_world.proofs.OneRun.{IsAt}
use Rattle.one_order.specs.Cycles.{callee_at, in_slot, led_to, place_in}
use Rattle.one_order.proofs.Climbs.{Up, at}

-- ---- lists

has_at : {X : Type 0} (xs : List X) (k : ℕ) (x : X) → k < length xs → slice_index_or xs k x ≡ x → Has x xs
has_at [] k x lt e = absurd (omega (arith, lt))
has_at (y ∷ xs) zero x lt e = inl (sym e)
has_at (y ∷ xs) (suc k) x lt e = inr (has_at xs k x (omega (arith, lt)) e)

two_kept : {X : Type 0} (P : X → Type 0) (p : X → Bool) (y : X) (xs : List X) (x : X) → Has x xs → p x ≡ true → IsOne P (y ∷ filter p xs) → ⊥
two_kept P p y [] x there is one = there
two_kept P p y (z ∷ xs) x (inl e) is one =
    let here : p z ≡ true = ap p (sym e) ∙ is in
    let both : IsOne P (y ∷ z ∷ filter p xs) = rw here at one in
    both
two_kept P p y (z ∷ xs) x (inr there) is one = elim (cases_Bool (p z)) as (λ _. ⊥) [
  | inl here ↦ (let both : IsOne P (y ∷ z ∷ filter p xs) = rw here at one in both)
  | inr other ↦ two_kept P p y xs x there is (rw other at one)
]

-- the one of which a test holds is found
only_found : {X : Type 0} (P : X → Type 0) (p : X → Bool) (xs : List X) (x : X) → Has x xs → p x ≡ true → IsOne P (filter p xs) → find p xs ≡ Some x
only_found P p [] x there is one = absurd there
only_found P p (y ∷ xs) x (inl e) is one = (let here : p y ≡ true = ap p (sym e) ∙ is in rw here (ap Some (sym e)))
only_found P p (y ∷ xs) x (inr there) is one = elim (cases_Bool (p y)) [
  | inl here ↦ absurd (two_kept P p y xs x there is (rw here at one))
  | inr other ↦ rw other (only_found P p xs x there is (rw other at one))
]

each_get : {X : Type 0} (P : X → Type 0) (xs : List X) (k : ℕ) (x : X) → AllByRecursion P xs → slice_get xs k ≡ Some x → P x
each_get P [] k x all e = absurd cc
each_get P (y ∷ xs) zero x all e = (let same : y ≡ x = cc in subst P same all.0)
each_get P (y ∷ xs) (suc k) x all e = each_get P xs k x all.1 e

-- the request of this number
pub act_found : (a : Act) (acts : List Act) → AreApart (map (λ (c : Act). c.id) acts) → Has a acts → act_in a.id acts ≡ Some a
act_found a [] apart there = absurd there
act_found a (b ∷ acts) apart (inl e) = rw (eq-eqb b.id a.id (ap (λ (c : Act). c.id) (sym e))) (ap Some (sym e))
act_found a (b ∷ acts) apart (inr there) = elim (cases_Bool (nat_eq b.id a.id)) [
  | inl is ↦ absurd (each_has (λ n. ¬ (b.id ≡ n)) a.id (map (λ (c : Act). c.id) acts) apart.0 (has_id a acts there) (eqb-true b.id a.id is))
  | inr other ↦ rw other (act_found a acts apart.1 there)
]

-- ---- calls by slot

among_slot : (n : ℕ) (c : CallMade) (ns : List ℕ) (cs : List CallMade) → IsAmong n c ns cs → (k : ℕ) × (slice_get ns k ≡ Some n) × (slice_get cs k ≡ Some c)
among_slot n c [] cs h = absurd h
among_slot n c (m ∷ ns) [] h = absurd h
among_slot n c (m ∷ ns) (d ∷ cs) (inl e) = (0, ap Some e.0, ap Some e.1)
among_slot n c (m ∷ ns) (d ∷ cs) (inr h) = (let there = among_slot n c ns cs h in (suc there.0, there.1, there.2))

served_slot : (world : List History) (caller : List ℕ) (ns : List ℕ) (cs : List CallMade) (rs : List Response) → AreServed world caller ns cs rs
    → (k n : ℕ) (c : CallMade) → slice_get ns k ≡ Some n → slice_get cs k ≡ Some c → (r : Response) × IsServed world caller n c r
served_slot world caller [] cs rs served k n c e f = absurd cc
served_slot world caller (m ∷ ns) [] rs served k n c e f = absurd served
served_slot world caller (m ∷ ns) (d ∷ cs) [] served k n c e f = absurd served
served_slot world caller (m ∷ ns) (d ∷ cs) (r ∷ rs) served zero n c e f =
    let number : m ≡ n = cc in
    let call : d ≡ c = cc in
    (r, subst (λ (x : CallMade). IsServed world caller n x r) call (subst (λ (x : ℕ). IsServed world caller x d r) number served.0))
served_slot world caller (m ∷ ns) (d ∷ cs) (r ∷ rs) served (suc k) n c e f = served_slot world caller ns cs rs served.1 k n c e f

-- ---- who called a request

abbrev asked : History → Act → CallMade
asked h a = record { dest = name_of h; request = a.request }

-- a request that survives made the call that another comes from
record Caller (world : List History) (h : History) (a : Act) (caller : List ℕ) (number : ℕ) : Type 0 where
  history : History
  act : Act
  there : IsAt world history act
  named : name_of history ≡ caller
  alive : survives act ≡ true
  slot : ℕ
  numbered : slice_get act.numbers slot ≡ Some number
  made : slice_get (calls_of act) slot ≡ Some (asked h a)

made_calls : (n : ℕ) (c : CallMade) (ns : List ℕ) (did : Option Deed) → IsSomeAnd did (λ d. IsAmong n c ns d.calls) → IsAmong n c ns (deed_calls did)
made_calls n c ns None made = absurd made
made_calls n c ns (Some d) made = made

called_by : (world : List History) (h : History) (a : Act) (caller : List ℕ) (number : ℕ) (o : Option History) → history_in caller world ≡ o
    → IsSomeAnd o (λ g. Any (Makes number (asked h a)) g.acts) → Caller world h a caller number
called_by world h a caller number None served any = absurd any
called_by world h a caller number (Some g) served any =
    let b : Act = any.1 in
    let makes : Makes number (asked h a) b = any.4 in
    let found = has_found (λ (k : History). same_text (name_of k) caller) world g served in
    let named = same_is (name_of g) caller found.1 in
    let slot = among_slot number (asked h a) b.numbers (calls_of b) (made_calls number (asked h a) b.numbers b.did makes.makes) in
    record {
      history = g;
      act = b;
      there = record {
        there = found.0;
        found = subst (λ (d : List ℕ). history_in d world ≡ Some g) (sym named) served;
        logged = has_at g.acts any.0 b any.2 any.3;
      };
      named = named;
      alive = makes.survives;
      slot = slot.0;
      numbered = slot.1;
      made = slot.2;
    }

wanted_each : (world part : List History) → AllByRecursion (λ (g : History). All (WantedIsCalledFor world g) g.acts) part
    → AllByRecursion (λ (g : History). AllByRecursion (WantedIsCalledFor world g) g.acts) part
wanted_each world [] all = tt
wanted_each world (g ∷ part) all = (recursion_from_All (WantedIsCalledFor world g) g.acts all.0, wanted_each world part all.1)

module _ (world : List History) (legal : IsLegalTogether world) where
  caller_of : (h : History) (a : Act) → IsAt world h a → survives a ≡ true → (caller : List ℕ) (number : ℕ) → a.origin ≡ Call caller number → Caller world h a caller number
  caller_of h a there alive caller number e =
      let all = wanted_each world world (recursion_from_All (λ (g : History). All (WantedIsCalledFor world g) g.acts) world legal.called_for) in
      let own = each_has (λ (g : History). AllByRecursion (WantedIsCalledFor world g) g.acts) h world all there.there in
      let wanted = (and_parts a.wanted (not a.struck) alive).0 in
      let for : IsCalledFor world (name_of h) a a.origin = each_has (WantedIsCalledFor world h) a h.acts own there.logged wanted in
      called_by world h a caller number (history_in caller world) refl (subst (IsCalledFor world (name_of h) a) e for)

  -- the call leads back to it
  leads_back : (h : History) (a : Act) → IsAt world h a → (caller : List ℕ) (number : ℕ) → a.origin ≡ Call caller number → (c : Caller world h a caller number)
      → in_slot world (at c.history c.act) c.slot ≡ Some (at h a)
  leads_back h a there caller number e c =
      let law = lawful world legal c.history c.there.there c.act c.there.logged in
      let served = served_slot world (name_of c.history) c.act.numbers (calls_of c.act) c.act.answers (law.served c.alive) c.slot number (asked h a) c.numbered c.made in
      let one : IsOne (Serves (asked h a) served.0) (filter (comes_from (name_of c.history) number) h.acts) =
      subst (λ o. IsSomeAnd o (λ (g : History). IsOne (Serves (asked h a) served.0) (filter (comes_from (name_of c.history) number) g.acts))) there.found served.1 in
      let mine : comes_from (name_of c.history) number a ≡ true =
      subst (λ (o : Origin). is_call (name_of c.history) number o ≡ true) (sym e)
      (and_from (same_text caller (name_of c.history)) (nat_eq number number) (subst (λ (s : List ℕ). same_text caller s ≡ true) (sym c.named) (same_self caller)) (eq-eqb number number refl)) in
      let found : callee_in (name_of c.history) number h.acts ≡ Some a =
      only_found (Serves (asked h a) served.0) (comes_from (name_of c.history) number) h.acts a there.logged mine one in
      ap (λ o. led_to world (name_of c.history) o (slice_get (calls_of c.act) c.slot)) c.numbered
      ∙ ap (λ o. led_to world (name_of c.history) (Some number) o) c.made
      ∙ ap (λ o. callee_at (name_of c.history) number o) there.found
      ∙ ap (λ o. place_in h o) found

  chain_grows : (h : History) (a : Act) (caller : List ℕ) (number : ℕ) (c : Caller world h a caller number) → length a.request.chain ≡ suc (length c.act.request.chain)
  chain_grows h a caller number c =
      let law = lawful world legal c.history c.there.there c.act c.there.logged in
      let calls = onward world c.history c.act law c.alive in
      let own = each_get (IsOnward (name_of c.history) c.history.setting.peers c.act.request) (calls_of c.act) c.slot (asked h a) calls c.made in
      let longer = length-append c.act.request.chain (name_of c.history ∷ []) in
      let same = ap length own.chain in
      omega (arith, longer, same)

  -- a way up to a root
  pub record Rises (h : History) (a : Act) : Type 0 where
    pub root : RequestId
    pub slots : List ℕ
    pub up : Up world root slots (at h a)
    pub short : length slots ≤ length a.request.chain

  module _ (named : AreNamed world) where
    from_outside : (h : History) (a : Act) → IsAt world h a → survives a ≡ true → a.origin ≡ Outside → Rises h a
    from_outside h a there alive e =
        let apart = each_has (λ (g : History). AreApart (map (λ (c : Act). c.id) g.acts)) h world named.ids there.there in
        record {
          root = id_of h a;
          slots = [];
          short = omega arith;
          up = record { served = there.found; logged = act_found a h.acts apart there.logged; outside = e; alive = alive };
        }

    from_caller : (h : History) (a : Act) → IsAt world h a → (caller : List ℕ) (number : ℕ) → a.origin ≡ Call caller number → (c : Caller world h a caller number)
        → Rises c.history c.act → Rises h a
    from_caller h a there caller number e c rises =
        let grows = chain_grows h a caller number c in
        let shorter = rises.short in
        record {
          root = rises.root;
          slots = c.slot ∷ rises.slots;
          up = (at c.history c.act, c.alive, leads_back h a there caller number e c, rises.up);
          short = omega (arith, grows, shorter);
        }

    rise_by : (size : ℕ) (h : History) (a : Act) → IsAt world h a → survives a ≡ true → length a.request.chain ≤ size → (o : Origin) → a.origin ≡ o → Rises h a
    rise_by size h a there alive le Outside e = from_outside h a there alive e
    rise_by zero h a there alive le (Call caller number) e =
        let grows = chain_grows h a caller number (caller_of h a there alive caller number e) in
        absurd (omega (arith, grows, le))
    rise_by (suc size) h a there alive le (Call caller number) e =
        let c = caller_of h a there alive caller number e in
        let grows = chain_grows h a caller number c in
        from_caller h a there caller number e c (rise_by size c.history c.act c.there c.alive (omega (arith, grows, le)) c.act.origin refl)

    pub rises : (h : History) (a : Act) → IsAt world h a → survives a ≡ true → Rises h a
    rises h a there alive = rise_by (length a.request.chain) h a there alive (omega arith) a.origin refl
