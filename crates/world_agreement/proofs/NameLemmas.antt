-- Services and their histories, found by their names; entries, found by their numbers and calls.
use Rattle.std.proofs.Common.{◌≡◌, ℕ, suc, Bool, true, List, [], ◌∷◌, Option, Some, None, Contains, find, filter, option_map, inl, inr, refl, sym, ap, ◌∙◌, subst, arith, eq-eqb, eqb-true}
use Rattle.std.proofs.lemmas.Bool.{cases_Bool, cond-true, cond-false, false_from_ne_true}
use Rattle.std.specs.Cmp.Lexicographic.{nat_list_eq_equiv}
use Rattle.lang_base.specs.Texts.{same_text}
use Rattle.lang_core.specs.declared.ids.Origin.TheVariants.{Call}
use Rattle.execution.specs.Together.{history_in}
use Rattle.request_log.specs.Entries.{has_id, has_origin, find_call, IsDistinct}
use Rattle.request_log.specs.declared.entry.Entry.{Entry}
use Rattle.service_events.specs.State.{Kept, me}
use Rattle.service_events.proofs.SearchLemmas.{text_is, splits, found_behind, contains_cases}
use Rattle.service_events.proofs.LogLemmas.{call_is, front_id}
use Rattle.world_agreement.specs.Partners.{has_name, service_of, NamesDiffer}
use Rattle.world_agreement.specs.Legal.{history, histories}
use Rattle.world_agreement.proofs.ListLemmas.{find_map, filter_none, found_passes}

-- ---- services

pub differ_later : (s : Kept) (services : List Kept) → NamesDiffer (s ∷ services) → NamesDiffer services
differ_later s services h i j d l w = h (suc i) (suc j) d (omega (arith, l)) (omega (arith, w))

pub differ_first : (s : Kept) (services : List Kept) → NamesDiffer (s ∷ services) → (t : Kept) → Contains services t → me s ≡ me t → ⊥
differ_first s services h t has same =
    let Differs : Kept → Type 0 = λ x. me s ≡ me x → ⊥ in
    subst Differs has.2 (h 0 (suc has.0) t (omega arith) (omega (arith, has.1))) same

-- where names differ, a service is found by its own
pub found_by_name : (services : List Kept) → NamesDiffer services → (s : Kept) → Contains services s → service_of (me s) services ≡ Some s
found_by_name [] h s has = absurd (omega (arith, has.1))
found_by_name (t ∷ services) h s has = elim (contains_cases t s services has) [
  | inl is ↦ cond-true (has_name (me s) t) (Some t) (service_of (me s) services)
      (subst (λ name. same_text (me t) name ≡ true) (ap me is) (nat_list_eq_equiv.refl (me t))) ∙ ap Some is
  | inr later ↦ cond-false (has_name (me s) t) (Some t) (service_of (me s) services)
      (false_from_ne_true (has_name (me s) t) (λ e. differ_first t services h s later (text_is (me t) (me s) e)))
      ∙ found_by_name services (differ_later t services h) s later
]

-- a service that is found has that name
pub name_is : (name : List ℕ) (services : List Kept) (s : Kept) → service_of name services ≡ Some s → me s ≡ name
name_is name services s e = text_is (me s) name (found_passes (has_name name) services s e)

-- its history is found by it
pub found_history : (name : List ℕ) (services : List Kept) (s : Kept) → service_of name services ≡ Some s → history_in name (histories services) ≡ Some (history s)
found_history name services s e = find_map (λ h. same_text h.setting.me name) history services ∙ ap (option_map history) e

-- ---- entries

-- an entry that is found is found by its number
pub found_by_id : (p : Entry → Bool) (log : List Entry) (e : Entry) → IsDistinct log → find p log ≡ Some e → find (has_id e.id) log ≡ Some e
found_by_id p log e apart found =
    let s = splits p log e found in
    subst (λ es. find (has_id e.id) es ≡ Some e) (sym s.is)
    (found_behind (has_id e.id) s.before e s.rest (front_id s.before e s.rest (subst IsDistinct s.is apart)) (eq-eqb e.id e.id refl))

-- so is an entry that is there
pub found_own : (log : List Entry) (e : Entry) → IsDistinct log → Contains log e → find (has_id e.id) log ≡ Some e
found_own [] e apart has = absurd (omega (arith, has.1))
found_own (x ∷ xs) e apart has = elim (contains_cases x e xs has) [
  | inl is ↦ cond-true (has_id e.id x) (Some x) (find (has_id e.id) xs) (eq-eqb x.id e.id (ap (λ (y : Entry). y.id) is)) ∙ ap Some is
  | inr later ↦ (let mine = found_own xs e apart.1 later in
      cond-false (has_id e.id x) (Some x) (find (has_id e.id) xs)
      (false_from_ne_true (has_id e.id x) (λ same. not_both (find (has_id e.id) xs) (subst (λ k. find (has_id k) xs ≡ None) (eqb-true x.id e.id same) apart.0.id) mine)) ∙ mine)
]
  where
    not_both : (o : Option Entry) → o ≡ None → o ≡ Some e → ⊥
    not_both None none some = cc
    not_both (Some y) none some = cc

-- no other entry comes from its call
pub only_one : (c : List ℕ) (n : ℕ) (log : List Entry) (e : Entry) → IsDistinct log → find_call (Call c n) log ≡ Some e → filter (has_origin c n) log ≡ e ∷ []
only_one c n [] e apart found = cc
only_one c n (x ∷ xs) e apart found = elim (cases_Bool (has_origin c n x)) [
  | inl is ↦ (let from : x.origin ≡ Call c n = call_is c n x.origin is in
      let none : find_call (Call c n) xs ≡ None = subst (λ o. find_call o xs ≡ None) from apart.0.origin in
      let same : Some x ≡ Some e = sym (cond-true (has_origin c n x) (Some x) (find_call (Call c n) xs) is) ∙ found in
      let one : x ≡ e = cc in
      cond-true (has_origin c n x) (x ∷ filter (has_origin c n) xs) (filter (has_origin c n) xs) is
      ∙ ap (λ es. x ∷ es) (filter_none (has_origin c n) xs none) ∙ ap (λ y. y ∷ []) one)
  | inr other ↦ cond-false (has_origin c n x) (x ∷ filter (has_origin c n) xs) (filter (has_origin c n) xs) other
      ∙ only_one c n xs e apart.1 (sym (cond-false (has_origin c n x) (Some x) (find_call (Call c n) xs) other) ∙ found)
]
