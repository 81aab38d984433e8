-- All entries of a log: what is found among them, and what a change of those that aren't folded makes of all.
use Rattle.std.proofs.Common.{◌≡◌, ℕ, zero, suc, ◌+◌, Bool, true, false, cond, not, List, [], ◌∷◌, ◌++◌, length, map, set, Option, Some, None, find, option_map, refl, sym, ap, ◌∙◌, arith, append_assoc}
use Rattle.std.specs.List.{insert, position_or_len}
use Rattle.std.specs.Option.{option_or}
use Rattle.std.proofs.lemmas.List.{length-map, map-append}
use Rattle.std.proofs.lemmas.List.Folds.{find-append}
use Rattle.request_log.specs.declared.entry.Entry.{Entry}
use Rattle.request_log.specs.declared.folded.Folded.{Folded}
use Rattle.request_log.specs.Entries.{changed, has_id, with_entry}
use Rattle.request_log.specs.Folded.{as_entry, whole}
use Rattle.request_log.proofs.ChangeLemmas.{none_changed}
use Rattle.request_log.proofs.EntryLemmas.{insert-behind, not_first, set-behind}

-- ---- what is found

first_by : (b : Bool) (f : Folded) (o : Option Entry) (r : Option Folded) → o ≡ option_map as_entry r → cond b (Some (as_entry f)) o ≡ option_map as_entry (cond b (Some f) r)
first_by true f o r later = refl
first_by false f o r later = later

-- among the folded ones, as an entry
pub found_folded : (p : Entry → Bool) (fs : List Folded) → find p (map as_entry fs) ≡ option_map as_entry (find (λ f. p (as_entry f)) fs)
found_folded p [] = refl
found_folded p (f ∷ fs) = first_by (p (as_entry f)) f (find p (map as_entry fs)) (find (λ f. p (as_entry f)) fs) (found_folded p fs)

-- what is none of the folded ones is found among the others
pub found_behind : (p : Entry → Bool) (fs : List Folded) (es : List Entry) → find p (map as_entry fs) ≡ None → find p (whole fs es) ≡ find p es
found_behind p fs es none = find-append p (map as_entry fs) es ∙ ap (λ o. option_or o (find p es)) none

-- what is one of them is found there
pub found_before : (p : Entry → Bool) (fs : List Folded) (es : List Entry) (e : Entry) → find p (map as_entry fs) ≡ Some e → find p (whole fs es) ≡ Some e
found_before p fs es e is = find-append p (map as_entry fs) es ∙ ap (λ o. option_or o (find p es)) is

position_by : (p : Entry → Bool) (x : Entry) (front es : List Entry) (b : Bool) → b ≡ false → position_or_len p (front ++ es) ≡ length front + position_or_len p es
    → cond (not b) (1 + position_or_len p (front ++ es)) 0 ≡ suc (length front) + position_or_len p es
position_by p x front es true none later = cc
position_by p x front es false none later = rw later (omega arith)

position_behind : (p : Entry → Bool) (front es : List Entry) → find p front ≡ None → position_or_len p (front ++ es) ≡ length front + position_or_len p es
position_behind p [] es none = omega arith
position_behind p (x ∷ front) es none =
    let parts = not_first (p x) x (find p front) none in
    position_by p x front es (p x) parts.0 (position_behind p front es parts.1)

-- ---- changes

-- an entry in place of the one of its number, which stands behind these
pub with_behind : (front es : List Entry) (entry : Entry) → find (has_id entry.id) front ≡ None → front ++ with_entry entry es ≡ with_entry entry (front ++ es)
with_behind front es entry none =
    let at = position_or_len (has_id entry.id) es in
    let place = position_or_len (has_id entry.id) (front ++ es) in
    sym (set-behind front es at place entry (position_behind (has_id entry.id) front es none))

-- the entry of a number, which stands behind these, changed
pub changed_behind : (front es : List Entry) (id : ℕ) (change : Entry → Entry) → find (has_id id) front ≡ None
    → front ++ changed id change es ≡ changed id change (front ++ es)
changed_behind front es id change none =
    sym (map-append (λ (e : Entry). cond (has_id id e) (change e) e) front es ∙ ap (λ l. l ++ changed id change es) (none_changed change id front none))

-- the same where those in front are folded
pub whole_with : (fs : List Folded) (es : List Entry) (entry : Entry) → find (has_id entry.id) (map as_entry fs) ≡ None → whole fs (with_entry entry es) ≡ with_entry entry (whole fs es)
whole_with fs es entry none = with_behind (map as_entry fs) es entry none

pub whole_changed : (fs : List Folded) (es : List Entry) (id : ℕ) (change : Entry → Entry) → find (has_id id) (map as_entry fs) ≡ None
    → whole fs (changed id change es) ≡ changed id change (whole fs es)
whole_changed fs es id change none = changed_behind (map as_entry fs) es id change none

-- one more at a place behind the folded ones
pub whole_insert : (fs : List Folded) (es : List Entry) (at : ℕ) (entry : Entry) → whole fs (insert es at entry) ≡ insert (whole fs es) (length fs + at) entry
whole_insert fs es at entry =
    sym (insert-behind (map as_entry fs) es at (length fs + at) entry (ap (λ n. n + at) (sym (length-map fs as_entry))))

-- one more at the end
pub whole_append : (fs : List Folded) (es : List Entry) (entry : Entry) → whole fs (es ++ entry ∷ []) ≡ whole fs es ++ entry ∷ []
whole_append fs es entry = sym (append_assoc (map as_entry fs) es (entry ∷ []))
