-- Places in the order of their labels: which stand before one, and what is put among them or in place of one.
use Rattle.std.proofs.Common.{◌≡◌, ℕ, zero, suc, ◌+◌, ◌<◌, Bool, true, false, not, List, [], ◌∷◌, ◌++◌, Option, Some, None, nat_eq, take, drop, map, refl, sym, ap, ◌∙◌, subst, arith, append_assoc, eq-eqb}
use Rattle.std.specs.List.{filter, AllByRecursion}
use Rattle.std.proofs.lemmas.Bool.{lt-ltb, le-ltb, ne_eqb}
use Rattle.std.proofs.lemmas.List.{append-nil, take-map}
use Rattle.std.proofs.lemmas.List.Elements.{filter-append}
use Rattle.std.proofs.lemmas.List.Folds.{fold-map}
use Rattle.std.proofs.lemmas.List.Sums.{fold-append}
use Rattle.std.proofs.Math.Seq.{take-add}
use Rattle.lang_core.specs.Rows.{apply}
use Rattle.lang_core.specs.declared.cells.Cell.{Cell}
use Rattle.lang_core.specs.declared.writes.Write.{Write}
use Rattle.place_order.specs.Labels.{place_in}
use Rattle.place_order.specs.Rising.{IsBeforeAll, IsRising, is_before}
use Rattle.versioned_rows.specs.Places.{label_of, rows_after, before, without, with_place, texts_of as place_texts}
use Rattle.dependency_index.specs.HandedOn.{is_other}
use Rattle.versioned_rows.specs.Versions.{KeptVersions, rows_before_label}
use Rattle.versioned_rows.specs.declared.places.PlaceWrites.{PlaceWrites}
use Rattle.log_index.specs.Rows.{KeptWrites, rows_made, rows_before, writes_of, label_at, texts_of}

passes_by : {X : Type 0} (p : X → Bool) (x : X) (xs : List X) → p x ≡ true → filter p xs ≡ xs → filter p (x ∷ xs) ≡ x ∷ xs
passes_by p x xs e h = rw e (ap (λ l. x ∷ l) h)

fails_by : {X : Type 0} (p : X → Bool) (x : X) (xs : List X) → p x ≡ false → filter p xs ≡ [] → filter p (x ∷ xs) ≡ []
fails_by p x xs e h = rw e h

-- what stands on both sides of a place, in an order in which they rise
module _ (order : List ℕ) (l : ℕ) where
  abbrev IsEarlier : PlaceWrites → Type 0
  IsEarlier q = place_in order (label_of q) < place_in order l

  abbrev IsLater : PlaceWrites → Type 0
  IsLater q = place_in order l < place_in order (label_of q)

  abbrev first : PlaceWrites → Bool
  first q = is_before order (Some l) (label_of q)

  abbrev rest : PlaceWrites → Bool
  rest q = not (is_before order (Some l) (label_of q))

  abbrev other : PlaceWrites → Bool
  other q = is_other l (label_of q)

  other_place : (x : ℕ) → (x ≡ l → ⊥) → is_other l x ≡ true
  other_place x apart = let e : nat_eq x l ≡ false = ne_eqb x l apart in rw e refl

  early_first : (a : List PlaceWrites) → AllByRecursion IsEarlier a → (filter first a ≡ a) × (filter rest a ≡ []) × (filter other a ≡ a)
  early_first [] all = (refl, refl, refl)
  early_first (q ∷ a) all =
      let e : first q ≡ true = lt-ltb (place_in order (label_of q)) (place_in order l) all.0 in
      let n : rest q ≡ false = ap not e in
      let o : other q ≡ true = other_place (label_of q) (λ same. let at = ap (place_in order) same in let lt = all.0 in omega arith) in
      let more = early_first a all.1 in
      (passes_by first q a e more.0, fails_by rest q a n more.1, passes_by other q a o more.2)

  late_rest : (b : List PlaceWrites) → AllByRecursion IsLater b → (filter first b ≡ []) × (filter rest b ≡ b) × (filter other b ≡ b)
  late_rest [] all = (refl, refl, refl)
  late_rest (q ∷ b) all =
      let lt = all.0 in
      let e : first q ≡ false = le-ltb (place_in order (label_of q)) (place_in order l) (omega arith) in
      let n : rest q ≡ true = ap not e in
      let o : other q ≡ true = other_place (label_of q) (λ same. let at = ap (place_in order) same in omega arith) in
      let more = late_rest b all.1 in
      (fails_by first q b e more.0, passes_by rest q b n more.1, passes_by other q b o more.2)

module _ (order : List ℕ) where
  earlier_one : (n : ℕ) (a b : List PlaceWrites) (p : PlaceWrites) → IsBeforeAll order n (map label_of (a ++ p ∷ b)) → place_in order n < place_in order (label_of p)
  earlier_one n [] b p all = all.0
  earlier_one n (q ∷ a) b p all = earlier_one n a b p all.1

  earlier : (a b : List PlaceWrites) (p : PlaceWrites) → IsRising order (map label_of (a ++ p ∷ b)) → AllByRecursion (IsEarlier order (label_of p)) a
  earlier [] b p r = tt
  earlier (q ∷ a) b p r = (earlier_one (label_of q) a b p r.1, earlier a b p r.2)

  later_all : (n : ℕ) (b : List PlaceWrites) → IsBeforeAll order n (map label_of b) → AllByRecursion (IsLater order n) b
  later_all n [] all = tt
  later_all n (q ∷ b) all = (all.0, later_all n b all.1)

  later : (a b : List PlaceWrites) (p : PlaceWrites) → IsRising order (map label_of (a ++ p ∷ b)) → AllByRecursion (IsLater order (label_of p)) b
  later [] b p r = later_all (label_of p) b r.1
  later (q ∷ a) b p r = later a b p r.2

  module _ (a b : List PlaceWrites) (p : PlaceWrites) (r : IsRising order (map label_of (a ++ p ∷ b))) where
    abbrev l : ℕ
    l = label_of p

    both_sides : (q : PlaceWrites) → label_of q ≡ l → with_place order q (a ++ b) ≡ a ++ q ∷ b
    both_sides q same =
        let e = early_first order l a (earlier a b p r) in
        let f = late_rest order l b (later a b p r) in
        let P : ℕ → Type 0 = λ n. filter (first order n) (a ++ b) ++ q ∷ filter (rest order n) (a ++ b) ≡ a ++ q ∷ b in
        subst P (sym same)
        (ap (λ xs. xs ++ q ∷ filter (rest order l) (a ++ b)) (filter-append (first order l) a b ∙ ap (λ xs. xs ++ filter (first order l) b) e.0 ∙ ap (λ xs. a ++ xs) f.0 ∙ append-nil a)
        ∙ ap (λ xs. a ++ q ∷ xs) (filter-append (rest order l) a b ∙ ap (λ xs. xs ++ filter (rest order l) b) e.1 ∙ f.1))

    none_out : without l (a ++ b) ≡ a ++ b
    none_out =
        let e = early_first order l a (earlier a b p r) in
        let f = late_rest order l b (later a b p r) in
        filter-append (other order l) a b ∙ ap (λ xs. xs ++ filter (other order l) b) e.2 ∙ ap (λ xs. a ++ xs) f.2

    one_out : without l (a ++ p ∷ b) ≡ a ++ b
    one_out =
        let e = early_first order l a (earlier a b p r) in
        let f = late_rest order l b (later a b p r) in
        let here : other order l p ≡ false = (let g : nat_eq l l ≡ true = eq-eqb l l refl in rw g refl) in
        let tail : filter (other order l) (p ∷ b) ≡ b = (rw here f.2) in
        filter-append (other order l) a (p ∷ b) ∙ ap (λ xs. xs ++ filter (other order l) (p ∷ b)) e.2 ∙ ap (λ xs. a ++ xs) tail

    -- a new place stands where it rises
    pub put_new : with_place order p (without l (a ++ b)) ≡ a ++ p ∷ b
    put_new = ap (with_place order p) none_out ∙ both_sides p refl

    -- a place of the same label stands where the old one did
    pub put_same : (q : PlaceWrites) → label_of q ≡ l → with_place order q (without (label_of q) (a ++ p ∷ b)) ≡ a ++ q ∷ b
    put_same q same = ap (λ n. with_place order q (without n (a ++ p ∷ b))) same ∙ ap (with_place order q) one_out ∙ both_sides q same

    -- those before a place are the front
    front_is : filter (λ q. is_before order (Some l) (label_of q)) (a ++ p ∷ b) ≡ a
    front_is =
        let e = early_first order l a (earlier a b p r) in
        let f = late_rest order l b (later a b p r) in
        let here : first order l p ≡ false = le-ltb (place_in order l) (place_in order l) (omega arith) in
        filter-append (first order l) a (p ∷ b) ∙ ap (λ xs. xs ++ filter (first order l) (p ∷ b)) e.0 ∙ ap (λ xs. a ++ xs) (fails_by (first order l) p b here f.0) ∙ append-nil a

  all_first : (ps : List PlaceWrites) → filter (λ q. is_before order None (label_of q)) ps ≡ ps
  all_first [] = refl
  all_first (p ∷ ps) = ap (λ l. p ∷ l) (all_first ps)

  front_from : (a rest : List PlaceWrites) (place : ℕ) → IsRising order (map label_of (a ++ rest)) → before order (label_at place rest) (a ++ rest) ≡ a ++ take place rest
  front_from a [] zero r = all_first (a ++ [])
  front_from a [] (suc place) r = all_first (a ++ [])
  front_from a (p ∷ b) zero r = front_is a b p r ∙ sym (append-nil a)
  front_from a (p ∷ b) (suc place) r =
      let P : List PlaceWrites → Type 0 = λ l. IsRising order (map label_of l) in
      let more = front_from (a ++ p ∷ []) b place (subst P (sym (append_assoc a (p ∷ []) b)) r) in
      ap (before order (label_at place b)) (sym (append_assoc a (p ∷ []) b)) ∙ more ∙ append_assoc a (p ∷ []) (take place b)

  -- what stands before the label at a place is what stands before the place
  pub before_is : (ps : List PlaceWrites) (place : ℕ) → IsRising order (map label_of ps) → before order (label_at place ps) ps ≡ take place ps
  before_is ps place r = front_from [] ps place r

-- the rows that places make are those of their writes
pub rows_are : (base : List Cell) (ps : List PlaceWrites) → rows_after base ps ≡ rows_made base (writes_of ps)
rows_are base ps = sym (fold-map apply (λ (p : PlaceWrites). p.writes) base ps)

-- the rows before the label at a place are those before the place
pub rows_seen : (order : List ℕ) (vs : KeptVersions) (place : ℕ) (label : Option ℕ) (kept : KeptWrites) → vs.base ≡ kept.base → IsRising order (map label_of vs.versions) → label ≡ label_at place vs.versions
    → writes_of vs.versions ≡ kept.writes → rows_before_label order label vs ≡ rows_before place kept
rows_seen order vs place label kept based r at same =
    ap (λ l. rows_before_label order l vs) at ∙ ap (rows_after vs.base) (before_is order vs.versions place r) ∙ rows_are vs.base (take place vs.versions)
    ∙ ap (rows_made vs.base) (sym (take-map (λ (p : PlaceWrites). p.writes) place vs.versions)) ∙ ap (λ w. rows_made vs.base (take place w)) same
    ∙ ap (λ b. rows_made b (take place kept.writes)) based

-- what so many of the first wrote is in the rows before the others
pub rows_behind : (base rows : List Cell) (ws : List (List Write)) (n place : ℕ) → rows ≡ rows_made base (take n ws) → rows_made rows (take place (drop n ws)) ≡ rows_made base (take (n + place) ws)
rows_behind base rows ws n place is =
    ap (λ b. rows_made b (take place (drop n ws))) is ∙ sym (fold-append apply base (take n ws) (take place (drop n ws))) ∙ ap (rows_made base) (sym (take-add n place ws))

-- the texts of places are those of their writes
pub texts_same : (n : ℕ) (ps : List PlaceWrites) → texts_of (take n (writes_of ps)) ≡ place_texts (take n ps)
texts_same zero ps = refl
texts_same (suc n) [] = refl
texts_same (suc n) (p ∷ ps) = ap (λ l. map (λ (w : Write). w.text) p.writes ++ l) (texts_same n ps)
