-- Replies that get one more, or one of which is changed.
use Rattle.std.proofs.Common.{◌≡◌, ℕ, ◌<◌, true, false, cond, List, [], ◌∷◌, ◌++◌, Some, None, All, option_map, refl, sym, ap, ◌∙◌, subst, inl, inr, nat_eq}
use Rattle.std.proofs.lemmas.Bool.{cases_Bool}
use Rattle.std.proofs.lemmas.List.Elements.{All-cons, All-head, All-tail}
use Rattle.std.proofs.lemmas.List.Folds.{find-append}
use Rattle.call_registers.specs.Replies.{has_entry, reply, IsAboveAll, IsBelowAll, IsRising, at_entry}
use Rattle.call_registers.specs.declared.reply.Reply.{Reply}
use Rattle.service_events.proofs.KeyLemmas.{change_own as change_own_at, change_other as change_other_at}

-- ---- one more

pub push_other : (k : ℕ) (ps : List Reply) (p : Reply) → nat_eq p.id k ≡ false → reply k (ps ++ p ∷ []) ≡ reply k ps
push_other k [] p h = rw h refl
push_other k (x ∷ ps) p h = ap (λ o. cond (has_entry k x) (Some x) o) (push_other k ps p h)

pub push_own : (k : ℕ) (ps : List Reply) (p : Reply) → nat_eq p.id k ≡ true → reply k ps ≡ None → reply k (ps ++ p ∷ []) ≡ Some p
push_own k ps p h none = find-append (has_entry k) ps (p ∷ []) ∙ rw (none, h) refl

pub above_all : (id : ℕ) (ps : List Reply) → All (λ (p : Reply). p.id < id) ps → IsAboveAll id ps
above_all id [] h = tt
above_all id (p ∷ ps) h =
    (All-head (λ (x : Reply). x.id < id) p ps h, above_all id ps (All-tail (λ (x : Reply). x.id < id) p ps h))

-- ---- one changed

module _ (id : ℕ) (f : Reply → Reply) (same : (p : Reply) → (f p).id ≡ p.id) where
  pub change_own : (ps : List Reply) → reply id (at_entry id f ps) ≡ option_map f (reply id ps)
  change_own ps = change_own_at (λ (p : Reply). p.id) id f same ps

  pub change_other : (k : ℕ) → nat_eq id k ≡ false → (ps : List Reply) → reply k (at_entry id f ps) ≡ reply k ps
  change_other k h ps = change_other_at (λ (p : Reply). p.id) id f same k h ps

  below_change : (n : ℕ) (ps : List Reply) → IsBelowAll n ps → IsBelowAll n (at_entry id f ps)
  below_change n [] h = tt
  below_change n (p ∷ ps) h = elim (cases_Bool (has_entry id p)) [
    | inl is ↦ rw is (subst (λ k. n < k) (sym (same p)) h.0, h.1)
    | inr other ↦ rw other (h.0, below_change n ps h.1)
  ]

  pub rising_change : (ps : List Reply) → IsRising ps → IsRising (at_entry id f ps)
  rising_change [] h = tt
  rising_change (p ∷ ps) h = elim (cases_Bool (has_entry id p)) [
    | inl is ↦ rw is (subst (λ k. IsBelowAll k ps) (sym (same p)) h.0, h.1)
    | inr other ↦ rw other (below_change p.id ps h.0, rising_change ps h.1)
  ]

  -- what speaks of its number alone
  pub all_change : (P : ℕ → Type 0) (ps : List Reply) → All (λ (p : Reply). P p.id) ps → All (λ (p : Reply). P p.id) (at_entry id f ps)
  all_change P [] h = h
  all_change P (p ∷ ps) h =
      let head : P p.id = All-head (λ (x : Reply). P x.id) p ps h in
      let tail = All-tail (λ (x : Reply). P x.id) p ps h in
      elim (cases_Bool (has_entry id p)) [
        | inl is ↦ rw is (All-cons (λ (x : Reply). P x.id) (f p) ps (subst P (sym (same p)) head) tail)
        | inr other ↦ rw other (All-cons (λ (x : Reply). P x.id) p (at_entry id f ps) head (all_change P ps tail))
      ]
