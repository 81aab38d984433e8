-- Each reply is that of one entry, to the call that the entry comes from.
use Rattle.std.proofs.Common.{◌≡◌, ℕ, Bool, true, false, ◌&&◌, List, [], ◌∷◌, Option, Some, None, IsSome, IsSomeAnd, nat_eq, refl, sym, ap, ◌∙◌, subst, arith, eqb-true, eq-eqb, ne_eqb}
use Rattle.std.specs.Cmp.Lexicographic.{nat_list_eq_equiv}
use Rattle.std.proofs.lemmas.Bool.{and_parts, and_from, false_from_ne_true}
use Rattle.lang_base.specs.Texts.{same_text}
use Rattle.lang_core.specs.Origins.{is_call}
use Rattle.lang_core.specs.declared.ids.Origin.TheVariants.{Call}
use Rattle.request_log.specs.Entries.{has_id, has_origin, find_call}
use Rattle.request_log.specs.declared.entry.Entry.{Entry}
use Rattle.call_registers.specs.Replies.{reply, IsBelowAll, IsRising}
use Rattle.call_registers.specs.declared.reply.Reply.{Reply}
use Rattle.service_events.specs.Fits.{Fits, HasReply, IsReply}
use Rattle.service_events.specs.State.{Kept}
use Rattle.service_events.proofs.CallRowLemmas.{Each, each_weaker}
use Rattle.service_events.proofs.LogLemmas.{call_is, itself, found_call}
use Rattle.service_events.proofs.PartLemmas.{logged}
use Rattle.service_events.proofs.PostedLaw.{IsOfEntry, of_entry}
use Rattle.service_events.proofs.SearchLemmas.{text_is, some_none, splits, found_all}
use Rattle.service_parts.proofs.AgeLemmas.{each_both}

-- ---- the reply of a number

below_not : (id : ℕ) (ps : List Reply) → IsBelowAll id ps → Each (λ (p : Reply). nat_eq id p.id ≡ false) ps
below_not id [] h = tt
below_not id (p ∷ ps) h = (ne_eqb id p.id (λ e. omega (arith, e, h.0)), below_not id ps h.1)

-- each is the one of its number
pub found_itself : (ps : List Reply) → IsRising ps → Each (λ (p : Reply). reply p.id ps ≡ Some p) ps
found_itself [] h = tt
found_itself (p ∷ ps) h = (
  (let is = eq-eqb p.id p.id refl in rw is refl),
  each_both (λ (x : Reply). reply x.id ps ≡ Some x) (λ (x : Reply). nat_eq p.id x.id ≡ false) (λ (x : Reply). reply x.id (p ∷ ps) ≡ Some x)
      (λ x found other. rw other found) ps (found_itself ps h.1) (below_not p.id ps h.0),
)

-- ---- whose it is

-- it is a reply to this call
abbrev pub is_to : List ℕ → ℕ → Reply → Bool
is_to c n p = same_text c p.caller && nat_eq n p.number

some_same : {X : Type 0} (o : Option X) (x y : X) → o ≡ Some x → o ≡ Some y → x ≡ y
some_same None x y e f = cc
some_same (Some z) x y e f = cc

some_that : {X : Type 0} (o : Option X) (x : X) (P : X → Type 0) → o ≡ Some x → IsSomeAnd o P → P x
some_that None x P e h = absurd h
some_that (Some y) x P e h = (let same : y ≡ x = cc in subst P same h)

module _ (s : Kept) (f : Fits s) where
  -- each is of the entry of its number
  pub owned : Each (IsOfEntry s.journal s.entries) s.replies
  owned =
      each_weaker (λ (p : Reply). reply p.id s.replies ≡ Some p) (IsOfEntry s.journal s.entries)
      (λ p found. of_entry s.journal s.entries s.replies p.id p (logged s f) found) s.replies (found_itself s.replies f.replies.rising)

  -- the entry of a call that a reply is to is the reply's
  pub to_its : (c : List ℕ) (n : ℕ) (p : Reply) (w : IsOfEntry s.journal s.entries p) → is_to c n p ≡ true → find_call (Call c n) s.entries ≡ Some w.entry
  to_its c n p w is =
      let parts = and_parts (same_text c p.caller) (nat_eq n p.number) is in
      let caller = text_is c p.caller parts.0 in
      let number = eqb-true n p.number parts.1 in
      let from : w.entry.origin ≡ Call c n = w.from ∙ ap (λ x. Call x p.number) (sym caller) ∙ ap (Call c) (sym number) in
      found_call s.entries p.id w.entry c n w.found (ap (is_call c n) from ∙ itself c n) f.asked.distinct

  -- where a call has no entry, no reply is to it
  pub to_none : (c : List ℕ) (n : ℕ) → find_call (Call c n) s.entries ≡ None → Each (λ (p : Reply). is_to c n p ≡ false) s.replies
  to_none c n none =
      each_weaker (IsOfEntry s.journal s.entries) (λ (p : Reply). is_to c n p ≡ false)
      (λ p w. false_from_ne_true (is_to c n p) (λ is. some_none (find_call (Call c n) s.entries) (subst IsSome (sym (to_its c n p w is)) refl) none)) s.replies owned

  -- a reply to a call that has an entry is that of the entry
  pub to_others : (c : List ℕ) (n : ℕ) (e : Entry) → find_call (Call c n) s.entries ≡ Some e
      → Each (λ (p : Reply). nat_eq p.id e.id ≡ false → is_to c n p ≡ false) s.replies
  to_others c n e found =
      each_weaker (IsOfEntry s.journal s.entries) (λ (p : Reply). nat_eq p.id e.id ≡ false → is_to c n p ≡ false)
      (λ p w other. false_from_ne_true (is_to c n p) (λ is.
      let same : w.entry ≡ e = some_same (find_call (Call c n) s.entries) w.entry e (to_its c n p w is) found in
      let own : w.entry.id ≡ p.id = eqb-true w.entry.id p.id (splits (has_id p.id) s.entries w.entry w.found).passes in
      let true_is : nat_eq p.id e.id ≡ true = eq-eqb p.id e.id (sym own ∙ ap (λ (x : Entry). x.id) same) in
      let both : true ≡ false = sym true_is ∙ other in
      cc)) s.replies owned

  -- and that one is to it
  pub to_own : (c : List ℕ) (n : ℕ) (e : Entry) → find_call (Call c n) s.entries ≡ Some e
      → Each (λ (p : Reply). nat_eq p.id e.id ≡ true → is_to c n p ≡ true) s.replies
  to_own c n e found =
      let from = call_is c n e.origin (splits (has_origin c n) s.entries e found).passes in
      let has : HasReply s.journal s.replies e (Call c n) =
      subst (HasReply s.journal s.replies e) from
      (found_all (λ (x : Entry). HasReply s.journal s.replies x x.origin) (has_origin c n) s.entries e f.replies.entries found) in
      each_weaker (λ (p : Reply). reply p.id s.replies ≡ Some p) (λ (p : Reply). nat_eq p.id e.id ≡ true → is_to c n p ≡ true)
      (λ p own same.
      let is = some_that (reply e.id s.replies) p (IsReply s.journal c n e) (ap (λ k. reply k s.replies) (sym (eqb-true p.id e.id same)) ∙ own) has in
      and_from (same_text c p.caller) (nat_eq n p.number)
      (ap (same_text c) is.caller ∙ nat_list_eq_equiv.refl c) (eq-eqb n p.number (sym is.number))) s.replies (found_itself s.replies f.replies.rising)
