-- What an edit of one row does to what is held at each key.
use Rattle.std.proofs.Common.{◌≡◌, ℕ, suc, ◌+◌, ◌<◌, ◌≤◌, Bool, true, false, cond, List, [], ◌∷◌, ◌++◌, Option, Some, None, length, get_or, set, take, drop, refl, sym, ap, ◌∙◌, inl, inr, arith, Result, Ok, Err, IsOk, is_ok}
use Rattle.std.specs.List.{find}
use Rattle.std.specs.Option.{option_map_or}
use Rattle.std.proofs.lemmas.Bool.{cases_Bool}
use Rattle.std.proofs.lemmas.List.{set_split}
use Rattle.lang_core.specs.Places.{Place, place_of, same_place, IsOrdered, set_in, rank, is_taken, past}
use Rattle.lang_core.proofs.PlaceLemmas.{set_edits, ordered-set}
use Rattle.lang_core.proofs.ReadLemmas.{find-set_in, place_is, place_same}
use Rattle.key_labels.specs.Rows.{row_place, held, labels_in, spare_of, spare_in, base_in, has_row, IsBased, KeepsKeys, KeepsRows}
use Rattle.key_labels.specs.declared.rows.KeyLabels.{KeyLabels}
use Rattle.lang_core.proofs.SeekLemmas.{find_some, find_none}

passes_if : {X : Type 0} (p : X → Bool) (x y : X) (b : Bool) (o : Option X) → p y ≡ b → cond b (Some y) o ≡ Some x → (o ≡ Some x → p x ≡ true) → p x ≡ true
passes_if p x y true o h e more = let same : y ≡ x = cc in ap p (sym same) ∙ h
passes_if p x y false o h e more = more e

pub found_passes : {X : Type 0} (p : X → Bool) (xs : List X) (x : X) → find p xs ≡ Some x → p x ≡ true
found_passes p [] x h = cc
found_passes p (y ∷ ys) x h = passes_if p x y (p y) (find p ys) refl h (found_passes p ys x)

held_if : {X : Type 0} (f : KeyLabels → X) (none : X) (b : Bool) (new : KeyLabels) (o : Option KeyLabels) → option_map_or f (cond b (Some new) o) none ≡ cond b (f new) (option_map_or f o none)
held_if f none true new o = refl
held_if f none false new o = refl

-- what is held once a row stands at its place
held_set : {X : Type 0} (f : KeyLabels → X) (none : X) (rows : List KeyLabels) (new : KeyLabels) (u v : List ℕ) → held f none (set_in row_place new rows) u v ≡ cond (same_place (row_place new) (place_of u v)) (f new) (held f none rows u v)
held_set f none rows new u v = ap (λ o. option_map_or f o none) (find-set_in row_place (place_of u v) new rows)
    ∙ held_if f none (same_place (row_place new) (place_of u v)) new (find (λ r. same_place (row_place r) (place_of u v)) rows)

least_if : (b : Bool) (x y z : ℕ) → (b ≡ true → z ≤ x) → z ≤ y → z ≤ cond b x y
least_if true x y z here there = here refl
least_if false x y z here there = there

less_if : (b : Bool) (x y z : ℕ) → (b ≡ true → z ≤ x + 1) → z ≤ y → z ≤ cond b x y + cond b 1 0
less_if true x y z here there = here refl
less_if false x y z here there = omega arith

has_if : (b c : Bool) → c ≡ true → cond b true c ≡ true
has_if true c h = refl
has_if false c h = h

-- an edit at one key that leaves what was there
pub edits_nothing : (rows : List KeyLabels) (t k labels : List ℕ) → labels_in rows t k ≡ labels → (u v : List ℕ) → labels_in rows u v ≡ cond (same_place (place_of t k) (place_of u v)) labels (labels_in rows u v)
edits_nothing rows t k labels same u v = elim (cases_Bool (same_place (place_of t k) (place_of u v))) [
  | inl e ↦ (let p : place_of t k ≡ place_of u v = place_is (place_of t k) (place_of u v) e in
      rw e (sym (ap (λ (q : Place). labels_in rows q.table q.key) p) ∙ same))
  | inr apart ↦ rw apart refl
]

-- the same of whatever is held at a key
held_same : {X : Type 0} (f : KeyLabels → X) (none : X) (rows : List KeyLabels) (t k : List ℕ) (x : X) → held f none rows t k ≡ x
    → (u v : List ℕ) → held f none rows u v ≡ cond (same_place (place_of t k) (place_of u v)) x (held f none rows u v)
held_same f none rows t k x same u v = elim (cases_Bool (same_place (place_of t k) (place_of u v))) [
  | inl e ↦ (let p : place_of t k ≡ place_of u v = place_is (place_of t k) (place_of u v) e in
      rw e (sym (ap (λ (q : Place). held f none rows q.table q.key) p) ∙ same))
  | inr apart ↦ rw apart refl
]

-- what is said of a key is said of an equal one
at_key : (rows : List KeyLabels) (t k u v : List ℕ) → same_place (place_of t k) (place_of u v) ≡ true → spare_in rows u v ≡ spare_in rows t k
at_key rows t k u v e = ap (λ (q : Place). spare_in rows q.table q.key) (sym (place_is (place_of t k) (place_of u v) e))

-- a row stands at the rank of its key
pub record StandsAt (rows : List KeyLabels) (t k : List ℕ) (at : ℕ) (row : KeyLabels) : Type 0 where
  pub ordered : IsOrdered row_place rows
  pub rank_is : at ≡ rank row_place (place_of t k) rows
  pub taken : is_taken row_place (place_of t k) rows ≡ true
  pub is : row ≡ get_or rows at row
  pub within : at < length rows

-- the row of a key, edited where it stands
module _ {rows : List KeyLabels} {t k : List ℕ} {at : ℕ} {row : KeyLabels} (s : StandsAt rows t k at row) where
  pub row_found : find (λ r. same_place (row_place r) (place_of t k)) rows ≡ Some row
  row_found = find_some row_place (place_of t k) rows row s.taken (s.is ∙ ap (λ i. get_or rows i row) s.rank_is)

  pub row_at : row_place row ≡ place_of t k
  row_at = place_is (row_place row) (place_of t k) (found_passes (λ r. same_place (row_place r) (place_of t k)) rows row row_found)

  pub held_here : {X : Type 0} (f : KeyLabels → X) (none : X) → held f none rows t k ≡ f row
  held_here f none = ap (λ o. option_map_or f o none) row_found

  pub labels_here : labels_in rows t k ≡ row.labels.items
  labels_here = held_here (λ (r : KeyLabels). r.labels.items) []

  pub spare_here : spare_in rows t k ≡ spare_of row
  spare_here = held_here spare_of 0

  module _ (new : KeyLabels) (same : row_place new ≡ row_place row) where
    new_at : row_place new ≡ place_of t k
    new_at = same ∙ row_at

    is_set : set rows at new ≡ set_in row_place new rows
    is_set =
        set_split rows at new s.within
        ∙ sym (set_edits row_place new rows
        ∙ ap (λ q. take (rank row_place q rows) rows ++ new ∷ drop (past (is_taken row_place q rows) (rank row_place q rows)) rows) new_at
        ∙ ap (λ b. take (rank row_place (place_of t k) rows) rows ++ new ∷ drop (past b (rank row_place (place_of t k) rows)) rows) s.taken
        ∙ ap (λ n. take n rows ++ new ∷ drop (suc n) rows) (sym s.rank_is))

    pub set_ordered : IsOrdered row_place (set rows at new)
    set_ordered = rw is_set (ordered-set row_place new rows s.ordered)

    now_held : {X : Type 0} (f : KeyLabels → X) (none : X) (u v : List ℕ) → held f none (set rows at new) u v ≡ cond (same_place (place_of t k) (place_of u v)) (f new) (held f none rows u v)
    now_held f none u v = ap (λ l. held f none l u v) is_set ∙ held_set f none rows new u v
        ∙ ap (λ p. cond (same_place p (place_of u v)) (f new) (held f none rows u v)) new_at

    pub set_labels : (u v : List ℕ) → labels_in (set rows at new) u v ≡ cond (same_place (place_of t k) (place_of u v)) new.labels.items (labels_in rows u v)
    set_labels u v = now_held (λ (r : KeyLabels). r.labels.items) [] u v

    pub set_same : new.labels.items ≡ row.labels.items → (u v : List ℕ) → labels_in (set rows at new) u v ≡ labels_in rows u v
    set_same kept u v = set_labels u v ∙ sym (edits_nothing rows t k new.labels.items (labels_here ∙ sym kept) u v)

    pub set_spare : (u v : List ℕ) → spare_in (set rows at new) u v ≡ cond (same_place (place_of t k) (place_of u v)) (spare_of new) (spare_in rows u v)
    set_spare u v = now_held spare_of 0 u v

    pub set_kept : spare_of row ≤ spare_of new → (u v : List ℕ) → spare_in rows u v ≤ spare_in (set rows at new) u v
    set_kept more u v =
        let e = set_spare u v in
        let h = spare_here in
        let m = least_if (same_place (place_of t k) (place_of u v)) (spare_of new) (spare_in rows u v) (spare_in rows u v) (λ s. let a = at_key rows t k u v s in omega arith) (omega arith) in
        omega arith

    pub set_less : spare_of row ≤ spare_of new + 1 → (u v : List ℕ) → spare_in rows u v ≤ spare_in (set rows at new) u v + cond (same_place (place_of t k) (place_of u v)) 1 0
    set_less less u v =
        let e = set_spare u v in
        let h = spare_here in
        let m = less_if (same_place (place_of t k) (place_of u v)) (spare_of new) (spare_in rows u v) (spare_in rows u v) (λ s. let a = at_key rows t k u v s in omega arith) (omega arith) in
        omega arith

    pub set_keys : KeepsKeys rows (set rows at new)
    set_keys u v h = now_held (λ _. true) false u v ∙ has_if (same_place (place_of t k) (place_of u v)) (has_row rows u v) h

    pub set_based : (base : Option (List ℕ)) → new.base ≡ base → IsBased t k base rows (set rows at new)
    set_based base is u v = now_held (λ (r : KeyLabels). r.base) None u v ∙ ap (λ b. cond (same_place (place_of t k) (place_of u v)) b (base_in rows u v)) is

    pub set_rows : new.base ≡ row.base → KeepsRows rows (set rows at new)
    set_rows kept = record {
      keys = set_keys;
      bases = λ u v. set_based row.base kept u v ∙ sym (held_same (λ (r : KeyLabels). r.base) None rows t k row.base (held_here (λ (r : KeyLabels). r.base) None) u v);
    }

    pub set_there : has_row (set rows at new) t k ≡ true
    set_there = set_keys t k (held_here (λ _. true) false)

    pub set_made : (n : ℕ) → n ≤ spare_of new → n ≤ spare_in (set rows at new) t k
    set_made n le =
        let e = set_spare t k ∙ ap (λ b. cond b (spare_of new) (spare_in rows t k)) (place_same (place_of t k) (place_of t k) refl) in
        omega arith

-- a row without labels goes in at the rank of its key, at which none stands
pub record GoesAt (rows : List KeyLabels) (t k : List ℕ) (at : ℕ) (new : KeyLabels) : Type 0 where
  pub ordered : IsOrdered row_place rows
  pub rank_is : at ≡ rank row_place (place_of t k) rows
  pub free : is_taken row_place (place_of t k) rows ≡ false
  pub table : new.table ≡ t
  pub key : new.key ≡ k
  pub bare : new.base ≡ None
  pub empty : new.labels.items ≡ []

-- a new row
module _ {rows : List KeyLabels} {t k : List ℕ} {at : ℕ} {new : KeyLabels} (s : GoesAt rows t k at new) where
  new_place : row_place new ≡ place_of t k
  new_place = λ i. record { table = s.table i; key = s.key i }

  new_set : take at rows ++ new ∷ drop at rows ≡ set_in row_place new rows
  new_set = sym (set_edits row_place new rows
      ∙ ap (λ q. take (rank row_place q rows) rows ++ new ∷ drop (past (is_taken row_place q rows) (rank row_place q rows)) rows) new_place
      ∙ ap (λ b. take (rank row_place (place_of t k) rows) rows ++ new ∷ drop (past b (rank row_place (place_of t k) rows)) rows) s.free
      ∙ ap (λ n. take n rows ++ new ∷ drop n rows) (sym s.rank_is))

  none_held : {X : Type 0} (f : KeyLabels → X) (none : X) → held f none rows t k ≡ none
  none_held f none = ap (λ o. option_map_or f o none) (find_none row_place (place_of t k) rows s.ordered s.free)

  new_held : {X : Type 0} (f : KeyLabels → X) (none : X) (u v : List ℕ) → held f none (take at rows ++ new ∷ drop at rows) u v ≡ cond (same_place (place_of t k) (place_of u v)) (f new) (held f none rows u v)
  new_held f none u v = ap (λ l. held f none l u v) new_set ∙ held_set f none rows new u v
      ∙ ap (λ p. cond (same_place p (place_of u v)) (f new) (held f none rows u v)) new_place

  pub new_ordered : IsOrdered row_place (take at rows ++ new ∷ drop at rows)
  new_ordered = rw new_set (ordered-set row_place new rows s.ordered)

  pub new_labels : (u v : List ℕ) → labels_in (take at rows ++ new ∷ drop at rows) u v ≡ labels_in rows u v
  new_labels u v = new_held (λ (r : KeyLabels). r.labels.items) [] u v ∙ sym (edits_nothing rows t k new.labels.items (none_held (λ (r : KeyLabels). r.labels.items) [] ∙ sym s.empty) u v)

  pub new_kept : (u v : List ℕ) → spare_in rows u v ≤ spare_in (take at rows ++ new ∷ drop at rows) u v
  new_kept u v =
      let e = new_held spare_of 0 u v in
      let h = none_held spare_of 0 in
      let m = least_if (same_place (place_of t k) (place_of u v)) (spare_of new) (spare_in rows u v) (spare_in rows u v) (λ s. let a = at_key rows t k u v s in omega arith) (omega arith) in
      omega arith

  pub new_rows : KeepsRows rows (take at rows ++ new ∷ drop at rows)
  new_rows = record {
    keys = λ u v h. new_held (λ _. true) false u v ∙ has_if (same_place (place_of t k) (place_of u v)) (has_row rows u v) h;
    bases = λ u v. new_held (λ (r : KeyLabels). r.base) None u v
        ∙ sym (held_same (λ (r : KeyLabels). r.base) None rows t k new.base (none_held (λ (r : KeyLabels). r.base) None ∙ sym s.bare) u v);
  }

  pub new_there : has_row (take at rows ++ new ∷ drop at rows) t k ≡ true
  new_there = new_held (λ _. true) false t k ∙ ap (λ b. cond b true (has_row rows t k)) (place_same (place_of t k) (place_of t k) refl)

  pub new_made : (n : ℕ) → n ≤ spare_of new → n ≤ spare_in (take at rows ++ new ∷ drop at rows) t k
  new_made n le =
      let e = new_held spare_of 0 t k ∙ ap (λ b. cond b (spare_of new) (spare_in rows t k)) (place_same (place_of t k) (place_of t k) refl) in
      omega arith

pub ok_is : {A B X : Type 0} (r : Result A B) (x y z : X) → IsOk r → z ≡ cond (is_ok r) x y → z ≡ x
ok_is (Ok a) x y z ok e = e
ok_is (Err b) x y z ok e = cc

-- of two changes that keep them, both do
pub keeps_both : (first second third : List KeyLabels) → KeepsRows first second → KeepsRows second third → KeepsRows first third
keeps_both first second third one two = record {
  keys = λ t k h. two.keys t k (one.keys t k h);
  bases = λ t k. two.bases t k ∙ one.bases t k;
}

-- rows that stay keep them
pub keeps_same : (rows : List KeyLabels) → KeepsRows rows rows
keeps_same rows = record { keys = λ t k h. h; bases = λ t k. refl }
