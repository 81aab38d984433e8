-- What is folded, and that the numbers and calls of all entries stay apart.
use Rattle.std.proofs.Common.{◌≡◌, ℕ, zero, suc, ◌+◌, Bool, true, false, cond, List, [], ◌∷◌, ◌++◌, length, get_or, take, drop, map, Option, Some, None, find, position, nat_eq, nat_lt, ◌<◌, slice_get, IsSome, refl, sym, ap, ◌∙◌, subst, append_assoc, arith}
use Rattle.std.specs.List.{position_or_len, filter_map, cons_option, All}
use Rattle.std.specs.Option.{option_map, option_to_list, option_and_then}
use Rattle.std.proofs.lemmas.Bool.{ltb-false}
use Rattle.std.proofs.lemmas.List.{length-drop, map-append, take-append-drop}
use Rattle.std.proofs.lemmas.List.Elements.{All-head, All-tail}
use Rattle.std.proofs.lemmas.List.Folds.{find_at}
use Rattle.std.proofs.lemmas.Option.{slice_get_past}
use Rattle.request_log.specs.declared.entry.Entry.{Entry}
use Rattle.request_log.specs.declared.entry.Made.{Made}
use Rattle.request_log.specs.declared.folded.Folded.{Folded}
use Rattle.request_log.specs.Entries.{has_id, find_call, IsNew, IsDistinct, KeptLog}
use Rattle.request_log.specs.Keys.{entry_key, number_of, IsIndexed}
use Rattle.request_log.specs.Folded.{as_entry, bare, bare_by, folded_as, folded_with, whole}
use Rattle.request_log.specs.Records.{record_in}
use Rattle.request_log.proofs.EntryLemmas.{find_call-is, from_call, not_first, nowhere}

-- ---- what is found

-- what stands at the first place is what is found
pub found_there : {X : Type 0} (p : X → Bool) (xs : List X) → option_and_then (slice_get xs) (position p xs) ≡ find p xs
found_there p xs = by (nat_lt (position_or_len p xs) (length xs)) refl
  where
    by : (b : Bool) → nat_lt (position_or_len p xs) (length xs) ≡ b → option_and_then (slice_get xs) (cond b (Some (position_or_len p xs)) None) ≡ find p xs
    by true e = sym (find_at p xs)
    by false e = sym (find_at p xs ∙ slice_get_past xs (position_or_len p xs) (ltb-false (position_or_len p xs) (length xs) e))

-- ---- what is kept

cons-append : {Y : Type 0} (o : Option Y) (ys zs : List Y) → cons_option o ys ++ zs ≡ cons_option o (ys ++ zs)
cons-append None ys zs = refl
cons-append (Some y) ys zs = refl

cons-nil : {Y : Type 0} (o : Option Y) → cons_option o [] ≡ option_to_list o
cons-nil None = refl
cons-nil (Some y) = refl

-- one more
pub filter_map-more : {X Y : Type 0} (h : X → Option Y) (xs : List X) (i : ℕ) (d : X) → i < length xs
    → filter_map h (take (suc i) xs) ≡ filter_map h (take i xs) ++ option_to_list (h (get_or xs i d))
filter_map-more h [] i d lt = absurd (omega arith)
filter_map-more h (x ∷ xs) zero d lt = cons-nil (h x)
filter_map-more h (x ∷ xs) (suc i) d lt =
    ap (cons_option (h x)) (filter_map-more h xs i d (omega arith)) ∙ sym (cons-append (h x) (filter_map h (take i xs)) (option_to_list (h (get_or xs i d))))

pub map-more : {X Y : Type 0} (f : X → Y) (xs : List X) (i : ℕ) (d : X) → i < length xs → map f (take (suc i) xs) ≡ map f (take i xs) ++ f (get_or xs i d) ∷ []
map-more f [] i d lt = absurd (omega arith)
map-more f (x ∷ xs) zero d lt = refl
map-more f (x ∷ xs) (suc i) d lt = ap (λ l. f x ∷ l) (map-more f xs i d (omega arith))

-- ---- that all are apart

-- a change that leaves an entry's number and origin
pub record Leaves (change : Entry → Entry) : Type 0 where
  pub id : (e : Entry) → (change e).id ≡ e.id
  pub origin : (e : Entry) → (change e).origin ≡ e.origin

none-map : (p : Entry → Bool) (f : Entry → Entry) → ((e : Entry) → p (f e) ≡ p e) → (xs rest : List Entry) → find p (xs ++ rest) ≡ None → find p (map f xs ++ rest) ≡ None
none-map p f same [] rest n = n
none-map p f same (x ∷ xs) rest n =
    let parts = not_first (p x) x (find p (xs ++ rest)) n in
    nowhere (p (f x)) (f x) (find p (map f xs ++ rest)) (same x ∙ parts.0) (none-map p f same xs rest parts.1)

module _ (f : Entry → Entry) (leaves : Leaves f) where
  new-map : (x : Entry) (xs rest : List Entry) → IsNew x (xs ++ rest) → IsNew (f x) (map f xs ++ rest)
  new-map x xs rest new = record {
    id = ap (λ n. find (has_id n) (map f xs ++ rest)) (leaves.id x)
        ∙ none-map (has_id x.id) f (λ e. ap (λ n. nat_eq n x.id) (leaves.id e)) xs rest new.id;
    origin = ap (λ o. find_call o (map f xs ++ rest)) (leaves.origin x) ∙ (find_call-is x.origin (map f xs ++ rest)
        ∙ none-map (λ e. from_call x.origin e.origin) f (λ e. ap (from_call x.origin) (leaves.origin e)) xs rest (sym (find_call-is x.origin (xs ++ rest)) ∙ new.origin));
  }

  -- the first of them changed so
  pub distinct-map : (xs rest : List Entry) → IsDistinct (xs ++ rest) → IsDistinct (map f xs ++ rest)
  distinct-map [] rest d = d
  distinct-map (x ∷ xs) rest d = (new-map x xs rest d.0, distinct-map xs rest d.1)

-- those behind are apart too
pub distinct-behind : (xs rest : List Entry) → IsDistinct (xs ++ rest) → IsDistinct rest
distinct-behind [] rest d = d
distinct-behind (x ∷ xs) rest d = distinct-behind xs rest d.1

none-front : {X : Type 0} (p : X → Bool) (xs ys : List X) → find p (xs ++ ys) ≡ None → find p xs ≡ None
none-front p [] ys n = refl
none-front p (x ∷ xs) ys n =
    let parts = not_first (p x) x (find p (xs ++ ys)) n in
    nowhere (p x) x (find p xs) parts.0 (none-front p xs ys parts.1)

new-front : (x : Entry) (xs ys : List Entry) → IsNew x (xs ++ ys) → IsNew x xs
new-front x xs ys new = record {
  id = none-front (has_id x.id) xs ys new.id;
  origin = find_call-is x.origin xs ∙ none-front (λ e. from_call x.origin e.origin) xs ys (sym (find_call-is x.origin (xs ++ ys)) ∙ new.origin);
}

-- and those in front
distinct-front : (xs ys : List Entry) → IsDistinct (xs ++ ys) → IsDistinct xs
distinct-front [] ys d = tt
distinct-front (x ∷ xs) ys d = (new-front x xs ys d.0, distinct-front xs ys d.1)

-- ---- a fold

bare_leaves : Leaves bare
bare_leaves = record {
  id = λ e. id_by e e.made refl;
  origin = λ e. origin_by e e.made refl;
}
  where
    id_by : (e : Entry) (o : Option Made) → e.made ≡ o → (bare_by e (option_map record_in o)).id ≡ e.id
    id_by e None is = refl
    id_by e (Some m) is = refl

    origin_by : (e : Entry) (o : Option Made) → e.made ≡ o → (bare_by e (option_map record_in o)).origin ≡ e.origin
    origin_by e None is = refl
    origin_by e (Some m) is = refl

kept_head : (e : Entry) (es : List Entry) (o : Option Made) → IsSome o → map as_entry (filter_map folded_as es) ≡ map bare es
    → map as_entry (cons_option (option_map (folded_with e) (option_map record_in o)) (filter_map folded_as es)) ≡ bare_by e (option_map record_in o) ∷ map bare es
kept_head e es None some later = cc
kept_head e es (Some m) some later = ap (λ l. as_entry (folded_with e (record_in m)) ∷ l) later

-- what is kept of entries that ran are these entries, bare
pub kept_are_bare : (es : List Entry) → All (λ (e : Entry). IsSome e.made) es → map as_entry (filter_map folded_as es) ≡ map bare es
kept_are_bare [] ran = refl
kept_are_bare (e ∷ es) ran =
    kept_head e es e.made (All-head (λ (e : Entry). IsSome e.made) e es ran) (kept_are_bare es (All-tail (λ (e : Entry). IsSome e.made) e es ran))

-- one that is folded is bare
pub bare_again : (fs : List Folded) → map bare (map as_entry fs) ≡ map as_entry fs
bare_again [] = refl
bare_again (f ∷ fs) = ap (λ l. as_entry f ∷ l) (bare_again fs)

-- all entries after a fold
pub whole_folded : (fs : List Folded) (es : List Entry) (n : ℕ) → All (λ (e : Entry). IsSome e.made) (take n es)
    → whole (fs ++ filter_map folded_as (take n es)) (drop n es) ≡ map bare (map as_entry fs ++ take n es) ++ drop n es
whole_folded fs es n ran =
    ap (λ l. l ++ drop n es)
    (map-append as_entry fs (filter_map folded_as (take n es))
    ∙ (ap (λ l. map as_entry fs ++ l) (kept_are_bare (take n es) ran)
    ∙ (ap (λ l. l ++ map bare (take n es)) (sym (bare_again fs)) ∙ sym (map-append bare (map as_entry fs) (take n es)))))

-- all of them are still apart
pub distinct-folded : (fs : List Folded) (es : List Entry) (n : ℕ) → All (λ (e : Entry). IsSome e.made) (take n es) → IsDistinct (whole fs es)
    → IsDistinct (whole (fs ++ filter_map folded_as (take n es)) (drop n es))
distinct-folded fs es n ran d =
    let split : map as_entry fs ++ es ≡ (map as_entry fs ++ take n es) ++ drop n es =
    ap (λ l. map as_entry fs ++ l) (sym (take-append-drop n es)) ∙ sym (append_assoc (map as_entry fs) (take n es) (drop n es)) in
    let P : List Entry → Type 0 = λ l. IsDistinct l in
    subst P (sym (whole_folded fs es n ran)) (distinct-map bare bare_leaves (map as_entry fs ++ take n es) (drop n es) (subst P split d))

-- and so are the folded ones
pub folded_apart : (fs : List Folded) (es : List Entry) (ns os : List ℕ) (k : KeptLog) (n : ℕ) → (record { folded = fs; entries = es }) ≡ k → All (λ (e : Entry). IsSome e.made) (take n k.entries) → IsIndexed fs es ns os
    → (front : List Entry) → front ≡ take n es → IsDistinct (map as_entry (fs ++ filter_map folded_as front))
folded_apart fs es ns os k n is ran log front cut =
    let R : List Entry → Type 0 = λ l. All (λ (e : Entry). IsSome e.made) (take n l) in
    let D : List Entry → Type 0 = λ l. IsDistinct (map as_entry (fs ++ filter_map folded_as l)) in
    let seen : es ≡ k.entries = ap (λ (v : KeptLog). v.entries) is in
    subst D (sym cut) (distinct-front (map as_entry (fs ++ filter_map folded_as (take n es))) (drop n es) (distinct-folded fs es n (subst R (sym seen) ran) log.apart))

-- a log after a fold
pub log-fold : (fs : List Folded) (es : List Entry) (ns os : List ℕ) (k : KeptLog) (n : ℕ) → (record { folded = fs; entries = es }) ≡ k → All (λ (e : Entry). IsSome e.made) (take n k.entries) → IsIndexed fs es ns os
    → (gs : List Folded) (rest : List Entry) (ms ps : List ℕ) → gs ≡ fs ++ filter_map folded_as (take n es) → rest ≡ drop n es → ms ≡ map number_of (drop n es) → ps ≡ map entry_key (drop n es)
    → IsIndexed gs rest ms ps
log-fold fs es ns os k n is ran log gs rest ms ps folded left numbers origins =
    let seen : es ≡ k.entries = ap (λ (v : KeptLog). v.entries) is in
    let R : List Entry → Type 0 = λ l. All (λ (e : Entry). IsSome e.made) (take n l) in
    let W : List Folded → Type 0 = λ l. IsDistinct (whole l rest) in
    let V : List Entry → Type 0 = λ l. IsDistinct (whole (fs ++ filter_map folded_as (take n es)) l) in
    let D : List Entry → Type 0 = λ l. IsDistinct l in
    let short = length-drop n es in
    let fewer = ap length left in
    record {
      log = record {
        distinct = subst D (sym left) (distinct-behind (take n es) (drop n es) (subst D (sym (take-append-drop n es)) log.log.distinct));
        few = omega (arith, log.log.few);
      };
      apart = subst W (sym folded) (subst V (sym left) (distinct-folded fs es n (subst R (sym seen) ran) log.apart));
      by_number = numbers ∙ ap (map number_of) (sym left);
      by_origin = origins ∙ ap (map entry_key) (sym left);
    }
