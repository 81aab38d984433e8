-- Among folded entries what stands last of a number or a call stands first, and what calls they made.
use Rattle.std.proofs.Common.{◌≡◌, ℕ, zero, suc, ◌+◌, ◌-◌, ◌<◌, ◌≤◌, Bool, true, false, cond, not, ◌||◌, List, [], ◌∷◌, ◌++◌, length, take, get_or, map, fold, find, Option, Some, None, option_map, nat_eq, nat_lt, position, refl, sym, ap, ◌∙◌, arith, length-append}
use Rattle.std.specs.List.{list_any, position_or_len}
use Rattle.std.proofs.lemmas.Bool.{ne_eqb}
use Rattle.std.proofs.lemmas.List.{length-map}
use Rattle.std.proofs.lemmas.List.Folds.{list_any-append}
use Rattle.lang_lists.specs.Ends.{end_behind, last_end}
use Rattle.lang_lists.specs.Keys.{call_key}
use Rattle.lang_lists.proofs.SearchLemmas.{IsQuiet}
use Rattle.request_log.specs.declared.folded.Folded.{Folded}
use Rattle.request_log.specs.Entries.{has_id, has_origin, IsDistinct}
use Rattle.request_log.specs.Folded.{as_entry, has_caller, has_number}
use Rattle.request_log.specs.Keys.{folded_key, folded_number, number_of, slots_in}
use Rattle.request_log.proofs.FindLemmas.{first_head, found_again, found_alone, found_or, last_of, not_last, other_key, position_end}
use Rattle.request_log.proofs.WholeLemmas.{found_folded}

-- ---- of a call

pub folded_quiet : (caller : List ℕ) (number : ℕ) → IsQuiet folded_key (last_of (has_caller caller number)) (call_key caller number)
folded_quiet caller number = record { stays = λ last f h. not_last (has_caller caller number f) f last (other_key caller number f.id f.origin h) }

unmapped : (o : Option Folded) → option_map as_entry o ≡ None → o ≡ None
unmapped None h = refl
unmapped (Some f) h = cc

none_folded : (caller : List ℕ) (number : ℕ) (fs : List Folded) → find (has_origin caller number) (map as_entry fs) ≡ None → find (has_caller caller number) fs ≡ None
none_folded caller number fs none = unmapped (find (has_caller caller number) fs) (sym (found_folded (has_origin caller number) fs) ∙ none)

first_last : (caller : List ℕ) (number : ℕ) (fs : List Folded) (last : Option Folded) → IsDistinct (map as_entry fs)
    → fold (last_of (has_caller caller number)) last fs ≡ found_or (find (has_caller caller number) fs) last
unfolding found_or
first_last caller number [] last d = refl
first_last caller number (f ∷ fs) last d =
    first_last caller number fs (last_of (has_caller caller number) last f) d.1
    ∙ first_head (has_caller caller number f) f (find (has_caller caller number) fs) last
    (λ is. none_folded caller number fs (found_again caller number f.origin (map as_entry fs) is d.0.origin))

-- the last of a call is the first
pub last_folded : (caller : List ℕ) (number : ℕ) (fs : List Folded) → IsDistinct (map as_entry fs) → fold (last_of (has_caller caller number)) None fs ≡ find (has_caller caller number) fs
last_folded caller number fs d = first_last caller number fs None d ∙ found_alone (find (has_caller caller number) fs)

-- ---- of a number

same_place : (id : ℕ) (fs : List Folded) → position_or_len (has_id id) (map as_entry fs) ≡ position_or_len (has_number id) fs
same_place id [] = refl
same_place id (f ∷ fs) = ap (λ n. cond (not (has_number id f)) (1 + n) 0) (same_place id fs)

same_numbers : (fs : List Folded) → map number_of (map as_entry fs) ≡ map folded_number fs
same_numbers [] = refl
same_numbers (f ∷ fs) = ap (λ l. f.id ∷ l) (same_numbers fs)

-- the place of a number, by its end among the numbers
pub folded_end : (id : ℕ) (fs : List Folded) → IsDistinct (map as_entry fs)
    → position (has_number id) fs ≡ cond (nat_eq (last_end (nat_eq id) (map folded_number fs)) 0) None (Some (last_end (nat_eq id) (map folded_number fs) - 1))
folded_end id fs d =
    let there : ℕ → ℕ → Option ℕ = λ n len. cond (nat_lt n len) (Some n) None in
    let by_end : List ℕ → Option ℕ = λ ks. cond (nat_eq (last_end (nat_eq id) ks) 0) None (Some (last_end (nat_eq id) ks - 1)) in
    sym (ap (λ n. there n (length (map as_entry fs))) (same_place id fs) ∙ ap (there (position_or_len (has_number id) fs)) (length-map fs as_entry))
    ∙ position_end id (map as_entry fs) d ∙ ap by_end (same_numbers fs)

-- ---- of their calls

some_end : (e : ℕ) → not (nat_eq (suc e) 0) ≡ true
some_end e = ap not (ne_eqb (suc e) 0 (λ is. absurd (omega (arith, is))))

any_head : (b : Bool) (e : ℕ) (rest : Bool) → not (nat_eq e 0) ≡ rest → not (nat_eq (end_behind b e) 0) ≡ (b || rest)
any_head true zero rest h = refl
any_head false zero rest h = h
any_head true (suc e) rest h = some_end (suc e)
any_head false (suc e) rest h = some_end (suc e) ∙ (sym (some_end e) ∙ h)

-- what has an end is there
any_end : {X : Type 0} (p : X → Bool) (xs : List X) → not (nat_eq (last_end p xs) 0) ≡ list_any p xs
any_end p [] = refl
any_end p (x ∷ xs) = any_head (p x) (last_end p xs) (list_any p xs) (any_end p xs)

any_slot : (number : ℕ) (fs : List Folded) → list_any (nat_eq number) (slots_in fs) ≡ list_any (λ (f : Folded). list_any (nat_eq number) f.slots) fs
any_slot number [] = refl
any_slot number (f ∷ fs) =
    list_any-append (nat_eq number) f.slots (slots_in fs) ∙ ap (λ b. list_any (nat_eq number) f.slots || b) (any_slot number fs)

-- whether one of them made a call, by its end among their calls
pub called_end : (number : ℕ) (fs : List Folded) → not (nat_eq (last_end (nat_eq number) (slots_in fs)) 0) ≡ list_any (λ (f : Folded). list_any (nat_eq number) f.slots) fs
called_end number fs = any_end (nat_eq number) (slots_in fs) ∙ any_slot number fs

-- the calls of one and of those before it are among all
pub slots_within : (fs : List Folded) (i : ℕ) (d : Folded) → i < length fs → length (slots_in (take i fs)) + length (get_or fs i d).slots ≤ length (slots_in fs)
slots_within [] i d lt = absurd (omega (arith, lt))
slots_within (f ∷ fs) zero d lt = omega (arith, length-append f.slots (slots_in fs))
slots_within (f ∷ fs) (suc i) d lt =
    omega (arith, length-append f.slots (slots_in (take i fs)), length-append f.slots (slots_in fs), slots_within fs i d (omega (arith, lt)))
