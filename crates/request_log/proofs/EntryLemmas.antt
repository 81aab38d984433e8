-- Changes of a log keep its numbers and calls apart.
use Rattle.std.proofs.Common.{◌≡◌, ℕ, zero, suc, ◌+◌, ◌≤◌, ◌≢◌, Bool, true, false, cond, ◌&&◌, List, [], ◌∷◌, ◌++◌, length, set, Option, Some, None, find, insert, nat_eq, map, slice_get, get_or, nat_lt, ◌<◌, subst, refl, sym, ap, ◌∙◌, IsSome, IsSomeAnd, position, arith, length-append}
use Rattle.std.specs.List.{position_or_len}
use Rattle.std.specs.Cmp.{nat_eq_equiv}
use Rattle.std.specs.Cmp.Lexicographic.{nat_list_eq_equiv}
use Rattle.std.proofs.lemmas.List.{map-append}
use Rattle.std.proofs.lemmas.List.Edits.{insert_end, length-insert}
use Rattle.std.proofs.lemmas.Bool.{eqb-true, lt-ltb}
use Rattle.std.proofs.lemmas.List.Quantifiers.{position-Some}
use Rattle.std.proofs.lemmas.List.Folds.{find_at}
use Rattle.std.proofs.lemmas.Option.{slice_get-get_or}
use Rattle.std.proofs.Math.ListN.{length-set}
use Rattle.lang_base.specs.Texts.{same_text}
use Rattle.lang_core.specs.Origins.{is_call}
use Rattle.lang_core.specs.declared.ids.Origin.{Origin}
use Rattle.lang_core.specs.declared.ids.Origin.TheVariants.{Outside, Call}
use Rattle.request_log.specs.declared.entry.Entry.{Entry}
use Rattle.request_log.specs.declared.folded.Folded.{Folded}
use Rattle.request_log.specs.Entries.{has_id, find_call, IsNew, IsDistinct, IsKnown, KeptLog}
use Rattle.request_log.specs.Folded.{as_entry, whole}
use Rattle.request_log.specs.Keys.{number_of, origin_key, entry_key, IsIndexed}

-- a search that finds nothing finds nothing first, and nothing further on
pub not_first : {X : Type 0} (b : Bool) (x : X) (o : Option X) → cond b (Some x) o ≡ None → (b ≡ false) × (o ≡ None)
not_first true x o e = cc
not_first false x o e = (refl, e)

pub nowhere : {X : Type 0} (b : Bool) (x : X) (o : Option X) → b ≡ false → o ≡ None → cond b (Some x) o ≡ None
nowhere true x o e n = cc
nowhere false x o e n = n

none-insert : {X : Type 0} (p : X → Bool) (xs : List X) (i : ℕ) (y : X) → p y ≡ false → find p xs ≡ None → find p (insert xs i y) ≡ None
none-insert p [] zero y h n = nowhere (p y) y None h refl
none-insert p [] (suc i) y h n = nowhere (p y) y None h refl
none-insert p (x ∷ xs) zero y h n = nowhere (p y) y (find p (x ∷ xs)) h n
none-insert p (x ∷ xs) (suc i) y h n =
    let parts = not_first (p x) x (find p xs) n in
    nowhere (p x) x (find p (insert xs i y)) parts.0 (none-insert p xs i y h parts.1)

none-set : {X : Type 0} (p : X → Bool) (xs : List X) (i : ℕ) (y old : X) → slice_get xs i ≡ Some old → p y ≡ p old → find p xs ≡ None → find p (set xs i y) ≡ None
none-set p [] i y old at same n = cc
none-set p (x ∷ xs) zero y old at same n =
    let parts = not_first (p x) x (find p xs) n in
    let is : x ≡ old = cc at in
    nowhere (p y) y (find p xs) (same ∙ sym (ap p is) ∙ parts.0) parts.1
none-set p (x ∷ xs) (suc i) y old at same n =
    let parts = not_first (p x) x (find p xs) n in
    nowhere (p x) x (find p (set xs i y)) parts.0 (none-set p xs i y old at same parts.1)

-- whether an entry comes from the same call
pub from_call : Origin → Origin → Bool
from_call Outside o = false
from_call (Call caller number) o = is_call caller number o

call_flips : (a b : Origin) → from_call a b ≡ from_call b a
unfolding from_call
call_flips Outside Outside = refl
call_flips Outside (Call c n) = refl
call_flips (Call c n) Outside = refl
call_flips (Call c n) (Call d m) = ap (λ b. b && nat_eq m n) (nat_list_eq_equiv.symm d c) ∙ ap (λ b. same_text c d && b) (nat_eq_equiv.symm m n)

pub find_call-is : (o : Origin) (es : List Entry) → find_call o es ≡ find (λ e. from_call o e.origin) es
unfolding from_call
find_call-is Outside [] = refl
find_call-is Outside (e ∷ es) = find_call-is Outside es
find_call-is (Call c n) es = refl

-- what a new entry clashes with clashes with it
new_apart : (x y : Entry) (es : List Entry) → IsNew y (x ∷ es) → (has_id x.id y ≡ false) × (from_call x.origin y.origin ≡ false)
new_apart x y es new = (
  nat_eq_equiv.symm y.id x.id ∙ (not_first (has_id y.id x) x (find (has_id y.id) es) new.id).0,
  call_flips x.origin y.origin
      ∙ (not_first (from_call y.origin x.origin) x (find (λ e. from_call y.origin e.origin) es) (sym (find_call-is y.origin (x ∷ es)) ∙ new.origin)).0,
)

new_rest : (x y : Entry) (es : List Entry) → IsNew y (x ∷ es) → IsNew y es
new_rest x y es new = record {
  id = (not_first (has_id y.id x) x (find (has_id y.id) es) new.id).1;
  origin = find_call-is y.origin es
      ∙ (not_first (from_call y.origin x.origin) x (find (λ e. from_call y.origin e.origin) es) (sym (find_call-is y.origin (x ∷ es)) ∙ new.origin)).1;
}

new-insert : (x y : Entry) (es : List Entry) (i : ℕ) → (has_id x.id y ≡ false) × (from_call x.origin y.origin ≡ false) → IsNew x es → IsNew x (insert es i y)
new-insert x y es i apart new = record {
  id = none-insert (has_id x.id) es i y apart.0 new.id;
  origin = find_call-is x.origin (insert es i y)
      ∙ none-insert (λ e. from_call x.origin e.origin) es i y apart.1 (sym (find_call-is x.origin es) ∙ new.origin);
}

pub distinct-insert : (es : List Entry) (i : ℕ) (y : Entry) → IsNew y es → IsDistinct es → IsDistinct (insert es i y)
distinct-insert [] zero y new all = (new, tt)
distinct-insert [] (suc i) y new all = (new, tt)
distinct-insert (x ∷ es) zero y new all = (new, all)
distinct-insert (x ∷ es) (suc i) y new all =
    (new-insert x y es i (new_apart x y es new) all.0, distinct-insert es i y (new_rest x y es new) all.1)

pub distinct-append : (es : List Entry) (y : Entry) → IsNew y es → IsDistinct es → IsDistinct (es ++ y ∷ [])
distinct-append es y new all = rw (← insert_end es y) (distinct-insert es (length es) y new all)

new-set : (x y old : Entry) (es : List Entry) (i : ℕ) → slice_get es i ≡ Some old → y.id ≡ old.id → y.origin ≡ old.origin → IsNew x es → IsNew x (set es i y)
new-set x y old es i at id origin new = record {
  id = none-set (has_id x.id) es i y old at (ap (λ n. nat_eq n x.id) id) new.id;
  origin = find_call-is x.origin (set es i y)
      ∙ none-set (λ e. from_call x.origin e.origin) es i y old at (ap (from_call x.origin) origin) (sym (find_call-is x.origin es) ∙ new.origin);
}

new_same : (y old : Entry) (es : List Entry) → y.id ≡ old.id → y.origin ≡ old.origin → IsNew old es → IsNew y es
new_same y old es id origin new = record {
  id = ap (λ n. find (has_id n) es) id ∙ new.id;
  origin = ap (λ o. find_call o es) origin ∙ new.origin;
}

-- one entry in place of another of its number and origin
pub distinct-set : (es : List Entry) (i : ℕ) (y old : Entry) → slice_get es i ≡ Some old → y.id ≡ old.id → y.origin ≡ old.origin → IsDistinct es → IsDistinct (set es i y)
distinct-set [] i y old at id origin all = tt
distinct-set (x ∷ es) zero y old at id origin all =
    let is : x ≡ old = cc at in
    (new_same y x es (id ∙ sym (ap (λ (e : Entry). e.id) is)) (origin ∙ sym (ap (λ (e : Entry). e.origin) is)) all.0, all.1)
distinct-set (x ∷ es) (suc i) y old at id origin all =
    (new-set x y old es i at id origin all.0, distinct-set es i y old at id origin all.1)

-- ---- among others that stand before

pub insert-behind : {X : Type 0} (front xs : List X) (i n : ℕ) (y : X) → n ≡ length front + i → insert (front ++ xs) n y ≡ front ++ insert xs i y
insert-behind [] xs i n y at = ap (λ k. insert xs k y) (at ∙ omega arith)
insert-behind (x ∷ front) xs i zero y at = absurd (omega (arith, at))
insert-behind (x ∷ front) xs i (suc n) y at = ap (λ l. x ∷ l) (insert-behind front xs i n y (omega (arith, at)))

pub set-behind : {X : Type 0} (front xs : List X) (i n : ℕ) (y : X) → n ≡ length front + i → set (front ++ xs) n y ≡ front ++ set xs i y
set-behind [] xs i n y at = ap (λ k. set xs k y) (at ∙ omega arith)
set-behind (x ∷ front) xs i zero y at = absurd (omega (arith, at))
set-behind (x ∷ front) xs i (suc n) y at = ap (λ l. x ∷ l) (set-behind front xs i n y (omega (arith, at)))

get-behind : {X : Type 0} (front xs : List X) (i n : ℕ) → n ≡ length front + i → slice_get (front ++ xs) n ≡ slice_get xs i
get-behind [] xs i n at = ap (slice_get xs) (at ∙ omega arith)
get-behind (x ∷ front) xs i zero at = absurd (omega (arith, at))
get-behind (x ∷ front) xs i (suc n) at = get-behind front xs i n (omega (arith, at))

-- what is new to all is new to those behind
pub new-behind : (front es : List Entry) (y : Entry) → IsNew y (front ++ es) → IsNew y es
new-behind [] es y new = new
new-behind (x ∷ front) es y new = new-behind front es y (new_rest x y (front ++ es) new)

apart-insert : (front es : List Entry) (i : ℕ) (y : Entry) → IsNew y (front ++ es) → IsDistinct (front ++ es) → IsDistinct (front ++ insert es i y)
apart-insert front es i y new d =
    let P : List Entry → Type 0 = λ l. IsDistinct l in
    subst P (insert-behind front es i (length front + i) y refl) (distinct-insert (front ++ es) (length front + i) y new d)

apart-append : (front es : List Entry) (y : Entry) → IsNew y (front ++ es) → IsDistinct (front ++ es) → IsDistinct (front ++ (es ++ y ∷ []))
apart-append front es y new d =
    let P : List Entry → Type 0 = λ l. IsDistinct (front ++ l) in
    subst P (insert_end es y) (apart-insert front es (length es) y new d)

apart-set : (front es : List Entry) (i : ℕ) (y old : Entry) → slice_get es i ≡ Some old → y.id ≡ old.id → y.origin ≡ old.origin → IsDistinct (front ++ es) → IsDistinct (front ++ set es i y)
apart-set front es i y old at id origin d =
    let P : List Entry → Type 0 = λ l. IsDistinct l in
    subst P (set-behind front es i (length front + i) y refl)
    (distinct-set (front ++ es) (length front + i) y old (get-behind front es i (length front + i) refl ∙ at) id origin d)

map-insert : {X : Type 0} (key : X → ℕ) (xs : List X) (i : ℕ) (y : X) → map key (insert xs i y) ≡ insert (map key xs) i (key y)
map-insert key [] zero y = refl
map-insert key [] (suc i) y = refl
map-insert key (x ∷ xs) zero y = refl
map-insert key (x ∷ xs) (suc i) y = ap (λ ys. key x ∷ ys) (map-insert key xs i y)

-- a log with one entry more, where it was seen as that value
pub log-insert : (fs : List Folded) (es : List Entry) (ns os : List ℕ) (k : KeptLog) (i : ℕ) (y : Entry) → (record { folded = fs; entries = es }) ≡ k → i ≤ length k.entries → length es ≢ 100000 → IsNew y (whole k.folded k.entries)
    → IsIndexed fs es ns os → IsIndexed fs (insert es i y) (insert ns i y.id) (insert os i (entry_key y))
log-insert fs es ns os k i y is within room new log =
    let seen : es ≡ k.entries = ap (λ (v : KeptLog). v.entries) is in
    let inside : i ≤ length es = rw seen within in
    let P : KeptLog → Type 0 = λ v. IsNew y (whole v.folded v.entries) in
    let new : IsNew y (whole fs es) = subst P (sym is) new in
    record {
      log = record {
        distinct = distinct-insert es i y (new-behind (map as_entry fs) es y new) log.log.distinct;
        few = omega (arith, length-insert es i y inside, log.log.few);
      };
      apart = apart-insert (map as_entry fs) es i y new log.apart;
      by_number = ap (λ l. insert l i y.id) log.by_number ∙ sym (map-insert number_of es i y);
      by_origin = ap (λ l. insert l i (entry_key y)) log.by_origin ∙ sym (map-insert entry_key es i y);
    }

pub log-append : (fs : List Folded) (es : List Entry) (ns os : List ℕ) (k : KeptLog) (y : Entry) → (record { folded = fs; entries = es }) ≡ k → length es ≢ 100000 → IsNew y (whole k.folded k.entries)
    → IsIndexed fs es ns os → IsIndexed fs (es ++ y ∷ []) (ns ++ y.id ∷ []) (os ++ entry_key y ∷ [])
log-append fs es ns os k y is room new log =
    let P : KeptLog → Type 0 = λ v. IsNew y (whole v.folded v.entries) in
    let new : IsNew y (whole fs es) = subst P (sym is) new in
    record {
      log = record {
        distinct = distinct-append es y (new-behind (map as_entry fs) es y new) log.log.distinct;
        few = omega (arith, length-append es (y ∷ []), log.log.few);
      };
      apart = apart-append (map as_entry fs) es y new log.apart;
      by_number = ap (λ l. l ++ y.id ∷ []) log.by_number ∙ sym (map-append number_of es (y ∷ []));
      by_origin = ap (λ l. l ++ entry_key y ∷ []) log.by_origin ∙ sym (map-append entry_key es (y ∷ []));
    }

keys-set : (key : Entry → ℕ) (es : List Entry) (i : ℕ) (y old : Entry) → slice_get es i ≡ Some old → key y ≡ key old → map key (set es i y) ≡ map key es
keys-set key [] i y old at same = refl
keys-set key (x ∷ es) zero y old at same = let is : x ≡ old = cc at in ap (λ k. k ∷ map key es) (same ∙ sym (ap key is))
keys-set key (x ∷ es) (suc i) y old at same = ap (λ ks. key x ∷ ks) (keys-set key es i y old at same)

-- a log with one entry in place of another of its number and origin
pub log-set : (fs : List Folded) (es : List Entry) (ns os : List ℕ) (i : ℕ) (y old : Entry) → slice_get es i ≡ Some old → y.id ≡ old.id → y.origin ≡ old.origin → IsIndexed fs es ns os → IsIndexed fs (set es i y) ns os
log-set fs es ns os i y old at id origin log = record {
  log = record {
    distinct = distinct-set es i y old at id origin log.log.distinct;
    few = rw (length-set es i y) log.log.few;
  };
  apart = apart-set (map as_entry fs) es i y old at id origin log.apart;
  by_number = log.by_number ∙ sym (keys-set number_of es i y old at id);
  by_origin = log.by_origin ∙ sym (keys-set entry_key es i y old at (ap (λ n. origin_key n y.origin) id ∙ ap (origin_key old.id) origin));
}

some_within : {X : Type 0} (xs : List X) (n : ℕ) → IsSome (slice_get xs n) → n < length xs
some_within [] n h = cc
some_within (x ∷ xs) zero h = omega arith
some_within (x ∷ xs) (suc n) h = omega (arith, some_within xs n h)

some_chosen : (b : Bool) (n : ℕ) → b ≡ true → IsSome (cond b (Some n) None)
some_chosen true n h = refl
some_chosen false n h = cc

-- a number that is found has a place
pub is_found : (id : ℕ) (es : List Entry) → IsSome (find (has_id id) es) → IsSome (position (has_id id) es)
is_found id es found =
    let n = position_or_len (has_id id) es in
    let there : IsSome (slice_get es n) = rw find_at at found in
    some_chosen (nat_lt n (length es)) n (lt-ltb n (length es) (some_within es n there))

pub placed : (b : Bool) (n place : ℕ) → cond b (Some n) None ≡ Some place → n ≡ place
placed true n place e = cc
placed false n place e = cc

some_and : (o : Option Entry) (P : Entry → Type 0) (old : Entry) → IsSomeAnd o P → o ≡ Some old → P old
some_and None P old h e = absurd h
some_and (Some x) P old h e = let is : x ≡ old = cc e in subst P is h

some_known : (o : Option Entry) (P : Entry → Type 0) → IsSomeAnd o P → IsSome o
some_known None P h = absurd h
some_known (Some x) P h = refl

-- what stands at the place of a number
pub record IsAt (n : ℕ) (es : List Entry) (place : ℕ) (old : Entry) : Type 0 where
  pub within : place < length es
  pub there : slice_get es place ≡ Some old
  pub found : find (has_id n) es ≡ Some old
  pub id : old.id ≡ n

pub at_place : (id : ℕ) (es : List Entry) (place : ℕ) (d : Entry) → position (has_id id) es ≡ Some place → IsAt id es place (get_or es place d)
at_place id es place d is =
    let first = position-Some (has_id id) es place d is in
    let there : slice_get es place ≡ Some (get_or es place d) = slice_get-get_or es place d first.0 in
    let n : position_or_len (has_id id) es ≡ place = placed (nat_lt (position_or_len (has_id id) es) (length es)) (position_or_len (has_id id) es) place is in
    record {
      within = first.0;
      there = there;
      found = find_at (has_id id) es ∙ ap (slice_get es) n ∙ there;
      id = eqb-true _ _ first.1;
    }

pub known_place : (k : KeptLog) (entry : Entry) (fs : List Folded) (es : List Entry) → (record { folded = fs; entries = es }) ≡ k → IsKnown entry k.entries → IsSome (position (has_id entry.id) es)
known_place k entry fs es is known =
    let seen : es ≡ k.entries = ap (λ (v : KeptLog). v.entries) is in
    is_found entry.id es (some_known (find (has_id entry.id) es) (λ old. old.origin ≡ entry.origin) (rw seen known))

-- a log with an entry in place of the one of its number
pub log-put : (k : KeptLog) (entry : Entry) (fs : List Folded) (es : List Entry) (ns os : List ℕ) (place : ℕ) → (record { folded = fs; entries = es }) ≡ k → position (has_id entry.id) es ≡ Some place → IsKnown entry k.entries → IsIndexed fs es ns os
    → IsIndexed fs (set es place entry) ns os
log-put k entry fs es ns os place is at known log =
    let seen : es ≡ k.entries = ap (λ (v : KeptLog). v.entries) is in
    let old = at_place entry.id es place entry at in
    let origin = some_and (find (has_id entry.id) es) (λ x. x.origin ≡ entry.origin) (get_or es place entry) (rw seen known) old.found in
    log-set fs es ns os place entry (get_or es place entry) old.there (sym old.id) (sym origin) log

-- what is handed back is what was found
pub put_old : (k : KeptLog) (id : ℕ) (fs : List Folded) (es : List Entry) (place : ℕ) (old : Entry) → (record { folded = fs; entries = es }) ≡ k → position (has_id id) es ≡ Some place → old ≡ get_or es place old → find (has_id id) k.entries ≡ Some old
put_old k id fs es place old is at read =
    let seen : es ≡ k.entries = ap (λ (v : KeptLog). v.entries) is in
    rw (← seen) ((at_place id es place old at).found ∙ ap Some (sym read))

-- a log with a run noted of the entry at a place
pub log-note : (k : KeptLog) (fs : List Folded) (es : List Entry) (ns os : List ℕ) (place : ℕ) (old y : Entry) → (record { folded = fs; entries = es }) ≡ k → place < length k.entries → old ≡ get_or es place old
    → y.id ≡ old.id → y.origin ≡ old.origin → IsIndexed fs es ns os → IsIndexed fs (set es place y) ns os
log-note k fs es ns os place old y is within read id origin log =
    let seen : es ≡ k.entries = ap (λ (v : KeptLog). v.entries) is in
    let inside : place < length es = rw seen within in
    log-set fs es ns os place y old (slice_get-get_or es place old inside ∙ ap Some (sym read)) id origin log
