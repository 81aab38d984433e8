-- What an entry of a service answered last, which is kept of folded ones too.
use Rattle.std.proofs.Common.{◌≡◌, ℕ, List, [], ◌∷◌, ◌++◌, Bool, Some, None, find, map, nat_eq, option_map, inl, inr, refl, sym, ap, ◌∙◌}
use Rattle.std.proofs.lemmas.Bool.{cases_Bool}
use Rattle.request_log.specs.Entries.{has_id}
use Rattle.request_log.specs.Folded.{as_entry, has_number}
use Rattle.request_log.specs.declared.entry.Entry.{Entry}
use Rattle.request_log.specs.declared.folded.Folded.{Folded}
use Rattle.service_events.specs.State.{Kept, folded, unfolded}
use Rattle.service_events.proofs.HorizonLemmas.{all_entries, found_past}
use Rattle.preview_core.specs.Repairs.{response_in, response_of}

-- a folded entry is found by its number as it is kept
found_as : (id : ℕ) (kept : List Folded) → find (has_id id) (map as_entry kept) ≡ option_map as_entry (find (has_number id) kept)
found_as id [] = refl
found_as id (f ∷ kept) = elim (cases_Bool (nat_eq f.id id)) [
  | inl is ↦ rw is refl
  | inr other ↦ rw other (found_as id kept)
]

found_front : (p : Entry → Bool) (front back : List Entry) (e : Entry) → find p front ≡ Some e → find p (front ++ back) ≡ Some e
found_front p [] back e is = cc
found_front p (x ∷ xs) back e is = elim (cases_Bool (p x)) [
  | inl here ↦ (let same : Some x ≡ Some e = rw here at is in rw here same)
  | inr other ↦ (let later : find p xs ≡ Some e = rw other at is in rw other (found_front p xs back e later))
]

module _ (s : Kept) (id : ℕ) (kept : List Folded) (same : map as_entry kept ≡ folded s) where
  found_kept : find (has_id id) (folded s) ≡ option_map as_entry (find (has_number id) kept)
  found_kept = ap (find (has_id id)) (sym same) ∙ found_as id kept

  -- of a folded one
  pub past_response : (f : Folded) → find (has_number id) kept ≡ Some f → response_of id s ≡ Some f.response
  past_response f found =
      let here : find (has_id id) (folded s) ≡ Some (as_entry f) = found_kept ∙ ap (option_map as_entry) found in
      let whole : find (has_id id) s.entries ≡ Some (as_entry f) =
      ap (find (has_id id)) (sym (all_entries s)) ∙ found_front (has_id id) (folded s) (unfolded s) (as_entry f) here in
      ap response_in whole

  -- of another one
  pub later_response : find (has_number id) kept ≡ None → response_of id s ≡ response_in (find (has_id id) (unfolded s))
  later_response none = ap response_in (found_past s (has_id id) (found_kept ∙ ap (option_map as_entry) none))
