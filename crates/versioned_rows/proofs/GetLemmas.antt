-- What is read before a place is what the last place before it that wrote the key left.
use Rattle.std.proofs.Common.{◌≡◌, ℕ, zero, suc, ◌+◌, ◌-◌, ◌<◌, ◌≤◌, ◌⊎◌, Bool, true, false, cond, List, [], ◌∷◌, Option, Some, None, length, get_or, take, map, fold, nat_eq, is_some, refl, sym, ap, ◌∙◌, subst, inl, inr, arith, eq-eqb}
use Rattle.std.specs.List.{filter, find, AllByRecursion}
use Rattle.std.specs.Option.{option_map_or}
use Rattle.std.proofs.lemmas.Bool.{ne_eqb}
use Rattle.std.proofs.lemmas.List.{length-take-le, get_or-take}
use Rattle.place_order.specs.Labels.{place_in}
use Rattle.lang_core.specs.Places.{place_of, same_place, IsOrdered}
use Rattle.lang_core.specs.Rows.{get, apply, cell_place, write_place, written}
use Rattle.lang_core.specs.declared.cells.Cell.{Cell}
use Rattle.lang_core.specs.declared.writes.Write.{Write}
use Rattle.lang_core.proofs.RowLemmas.{ordered-apply}
use Rattle.lang_core.proofs.ReadLemmas.{get-apply}
use Rattle.place_order.specs.Rising.{IsBeforeAll, IsRising, is_before}
use Rattle.key_labels.proofs.ListLemmas.{filter_filter, filter-map, all_if, all_kept}
use Rattle.versioned_rows.specs.Places.{label_of, rows_after, before, is_written, writers}
use Rattle.versioned_rows.specs.declared.places.PlaceWrites.{PlaceWrites}

-- one of these
abbrev pub In : {X : Type 0} → X → List X → Type 0
In x [] = ⊥
In x (y ∷ ys) = (y ≡ x) ⊎ In x ys

in_if : {X : Type 0} (x y : X) (ys zs : List X) (b : Bool) → (In x zs → In x ys) → In x (cond b (y ∷ zs) zs) → In x (y ∷ ys)
in_if x y ys zs true h (inl e) = inl e
in_if x y ys zs true h (inr j) = inr (h j)
in_if x y ys zs false h j = inr (h j)

pub in_filter : {X : Type 0} (p : X → Bool) (x : X) (xs : List X) → In x (filter p xs) → In x xs
in_filter p x [] i = i
in_filter p x (y ∷ ys) i = in_if x y ys (filter p ys) (p y) (in_filter p x ys) i

pub in_at : {X : Type 0} (x : X) (xs : List X) (i : ℕ) → i < length xs → x ≡ get_or xs i x → In x xs
in_at x [] i lt is = absurd (omega arith)
in_at x (y ∷ ys) zero lt is = inl (sym is)
in_at x (y ∷ ys) (suc i) lt is = inr (in_at x ys i (omega arith) is)

abbrev pub last_or : {X : Type 0} → X → List X → X
last_or d [] = d
last_or d (x ∷ xs) = last_or x xs

last_in : {X : Type 0} (x : X) (xs : List X) → In (last_or x xs) (x ∷ xs)
last_in x [] = inl refl
last_in x (y ∷ ys) = inr (last_in y ys)

last_at : {X : Type 0} (x : X) (xs : List X) (d : X) → get_or (x ∷ xs) (length xs) d ≡ last_or x xs
last_at x [] d = refl
last_at x (y ∷ ys) d = last_at y ys d

last-map : {X Y : Type 0} (f : X → Y) (x : X) (xs : List X) → last_or (f x) (map f xs) ≡ f (last_or x xs)
last-map f x [] = refl
last-map f x (y ∷ ys) = last-map f y ys

module _ (t k : List ℕ) where
  abbrev step : Option (List ℕ) → PlaceWrites → Option (List ℕ)
  step o p = written p.writes t k o

  abbrev wrote : PlaceWrites → Bool
  wrote p = is_written t k p.writes

  get_from : (rows : List Cell) (ps : List PlaceWrites) → IsOrdered cell_place rows → AllByRecursion (λ (p : PlaceWrites). IsOrdered write_place p.writes) ps
      → get (fold (λ rs (p : PlaceWrites). apply rs p.writes) rows ps) t k ≡ fold step (get rows t k) ps
  get_from rows [] o all = refl
  get_from rows (p ∷ ps) o all =
      get_from (apply rows p.writes) ps (ordered-apply rows p.writes o) all.1
      ∙ ap (λ g. fold step g ps) (get-apply rows p.writes t k o all.0)

  kept : (w : Option Write) (o : Option (List ℕ)) → is_some w ≡ false → option_map_or (λ (w : Write). w.text) w o ≡ o
  kept None o h = refl
  kept (Some w) o h = cc

  other : (w : Option Write) (o q : Option (List ℕ)) → is_some w ≡ true → option_map_or (λ (w : Write). w.text) w o ≡ option_map_or (λ (w : Write). w.text) w q
  other None o q h = cc
  other (Some w) o q h = refl

  wrote_by : (p : PlaceWrites) (ps qs : List PlaceWrites) (o : Option (List ℕ)) (b : Bool) → wrote p ≡ b → ((o : Option (List ℕ)) → fold step o ps ≡ fold step o qs)
      → fold step o (p ∷ ps) ≡ fold step o (cond b (p ∷ qs) qs)
  wrote_by p ps qs o true e h = h (step o p)
  wrote_by p ps qs o false e h = ap (λ g. fold step g ps) (kept (find (λ w. same_place (write_place w) (place_of t k)) p.writes) o e) ∙ h o

  by_writers : (ps : List PlaceWrites) (o : Option (List ℕ)) → fold step o ps ≡ fold step o (filter wrote ps)
  by_writers [] o = refl
  by_writers (p ∷ ps) o = wrote_by p ps (filter wrote ps) o (wrote p) refl (by_writers ps)

  -- the last that wrote decides
  by_last : (p : PlaceWrites) (ps : List PlaceWrites) (o : Option (List ℕ)) → AllByRecursion (λ q. wrote q ≡ true) (p ∷ ps) → fold step o (p ∷ ps) ≡ written (last_or p ps).writes t k None
  by_last p [] o all = other (find (λ w. same_place (write_place w) (place_of t k)) p.writes) o None all.0
  by_last p (q ∷ qs) o all = by_last q qs (step o p) all.1

pub all_pass : {X : Type 0} (p : X → Bool) (xs : List X) → AllByRecursion (λ x. p x ≡ true) (filter p xs)
all_pass p [] = tt
all_pass p (x ∷ xs) = all_if (λ x. p x ≡ true) x (filter p xs) (p x) (λ e. e) (all_pass p xs)

-- a place is found by its label
below_in : (order : List ℕ) (x : ℕ) (ps : List PlaceWrites) (m : PlaceWrites) → IsBeforeAll order x (map label_of ps) → In m ps → place_in order x < place_in order m.label
below_in order x [] m all i = absurd i
below_in order x (p ∷ ps) m all (inl e) = let same = ap (λ (p : PlaceWrites). place_in order p.label) e in let lt = all.0 in omega arith
below_in order x (p ∷ ps) m all (inr i) = below_in order x ps m all.1 i

pub found : (order : List ℕ) (ps : List PlaceWrites) (m : PlaceWrites) → IsRising order (map label_of ps) → In m ps → find (λ p. nat_eq (label_of p) m.label) ps ≡ Some m
found order [] m r i = absurd i
found order (p ∷ ps) m r (inl e) = let same : nat_eq p.label m.label ≡ true = eq-eqb p.label m.label (ap label_of e) in rw same (ap Some e)
found order (p ∷ ps) m r (inr i) =
    let lt = below_in order p.label ps m r.1 i in
    let differs : nat_eq p.label m.label ≡ false = ne_eqb p.label m.label (λ e. let same = ap (place_in order) e in omega arith) in
    rw differs (found order ps m r.2 i)

-- the text that a place wrote, if it is there
abbrev pub text_of : List ℕ → List ℕ → Option PlaceWrites → Option (List ℕ)
text_of t k None = None
text_of t k (Some p) = written p.writes t k None

module _ (order : List ℕ) (end : Option ℕ) (base : List Cell) (ps : List PlaceWrites) (t k : List ℕ)
    (ordered : IsOrdered cell_place base) (writes : AllByRecursion (λ (p : PlaceWrites). IsOrdered write_place p.writes) ps) (rising : IsRising order (map label_of ps)) where
  abbrev those : List PlaceWrites
  those = filter (λ p. is_written t k p.writes) (before order end ps)

  read : get (rows_after base (before order end ps)) t k ≡ fold (step t k) (get base t k) those
  read = get_from t k base (before order end ps) ordered (all_kept (λ (p : PlaceWrites). IsOrdered write_place p.writes) (λ p. is_before order end (label_of p)) ps writes)
      ∙ by_writers t k (before order end ps) (get base t k)

  labels_are : map label_of those ≡ filter (is_before order end) (writers t k ps)
  labels_are = ap (map label_of) (filter_filter (λ p. is_written t k p.writes) (λ p. is_before order end (label_of p)) ps)
      ∙ sym (filter-map label_of (is_before order end) (filter (λ p. is_written t k p.writes) ps))

  none_by : (ms : List PlaceWrites) → length (map label_of ms) ≡ 0 → fold (step t k) (get base t k) ms ≡ get base t k
  none_by [] h = refl
  none_by (m ∷ ms) h = absurd (omega arith)

  -- nothing wrote the key before
  pub get_none : filter (is_before order end) (writers t k ps) ≡ take 0 (writers t k ps) → get (rows_after base (before order end ps)) t k ≡ get base t k
  get_none h = read ∙ none_by those (ap length (labels_are ∙ h))

  some_by : (ms : List PlaceWrites) (n last : ℕ) → ((m : PlaceWrites) → In m ms → In m ps) → AllByRecursion (λ q. is_written t k q.writes ≡ true) ms
      → length (map label_of ms) ≡ n + 1 → get_or (map label_of ms) n 0 ≡ last
      → fold (step t k) (get base t k) ms ≡ text_of t k (find (λ p. nat_eq (label_of p) last) ps)
  some_by [] n last inside all len at = absurd (omega arith)
  some_by (m ∷ ms) n last inside all len at =
      let size : n ≡ length (map label_of ms) = omega arith in
      let is : last ≡ label_of (last_or m ms) = sym at ∙ ap (λ i. get_or (map label_of (m ∷ ms)) i 0) size ∙ last_at (label_of m) (map label_of ms) 0 ∙ last-map label_of m ms in
      by_last t k m ms (get base t k) all
      ∙ sym (ap (text_of t k) (ap (λ l. find (λ p. nat_eq (label_of p) l) ps) is ∙ found order ps (last_or m ms) rising (inside (last_or m ms) (last_in m ms))))

  -- the last of those that wrote the key before
  pub get_last : (n last : ℕ) → filter (is_before order end) (writers t k ps) ≡ take (n + 1) (writers t k ps) → n + 1 ≤ length (writers t k ps) → get_or (writers t k ps) n 0 ≡ last
      → get (rows_after base (before order end ps)) t k ≡ text_of t k (find (λ p. nat_eq (label_of p) last) ps)
  get_last n last h within at =
      let labels = labels_are ∙ h in
      read ∙ some_by those n last
      (λ m i. in_filter (λ p. is_before order end (label_of p)) m ps (in_filter (λ p. is_written t k p.writes) m (before order end ps) i))
      (all_pass (λ p. is_written t k p.writes) (before order end ps))
      (ap length labels ∙ length-take-le (n + 1) (writers t k ps) within)
      (ap (λ l. get_or l n 0) labels ∙ get_or-take (n + 1) (writers t k ps) n 0 (omega arith) ∙ at)

  module _ (labels : List ℕ) (n : ℕ) (are : labels ≡ writers t k ps) (count : filter (is_before order end) labels ≡ take n labels) where
    pub get_nothing : n ≡ 0 → get (rows_after base (before order end ps)) t k ≡ get base t k
    get_nothing e = get_none (rw (e, are) at count)

    pub get_found : n ≤ length labels → (n ≡ 0 → ⊥) → get (rows_after base (before order end ps)) t k ≡ text_of t k (find (λ p. nat_eq (label_of p) (get_or labels (n - 1) 0)) ps)
    get_found within some =
        let more : n ≡ (n - 1) + 1 = omega arith in
        let P : ℕ → List ℕ → Type 0 = λ m ls. filter (is_before order end) ls ≡ take m ls in
        let h : filter (is_before order end) (writers t k ps) ≡ take ((n - 1) + 1) (writers t k ps) = subst (λ m. P m (writers t k ps)) more (subst (P n) are count) in
        get_last (n - 1) (get_or labels (n - 1) 0) h (let e = ap length are in omega arith) (ap (λ ls. get_or ls (n - 1) 0) (sym are))
