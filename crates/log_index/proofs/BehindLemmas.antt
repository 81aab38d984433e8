-- The entries behind a place that look at what was written there are those whose labels the index gives.
use Rattle.std.proofs.Common.{◌≡◌, ◌≢◌, ℕ, ◌<◌, ◌≤◌, Bool, true, false, cond, not, ◌&&◌, ◌||◌, List, [], ◌∷◌, ◌++◌, None, nat_eq, nat_lt, length, get_or, map, IsTrue, refl, sym, ap, ◌∙◌, inl, inr, arith, eq-eqb}
use Rattle.std.specs.List.{All, AllByRecursion, Contains, filter, list_any}
use Rattle.std.proofs.lemmas.Bool.{cases_order, cases_lt, ne_eqb}
use Rattle.std.proofs.lemmas.List.{get_or-map, get_or_default, get_or_past, length-map}
use Rattle.std.proofs.lemmas.List.Elements.{filter-append, recursion_from_All}
use Rattle.std.proofs.lemmas.List.Folds.{list_any-append}
use Rattle.lang_base.specs.Equal.{equal}
use Rattle.lang_base.proofs.EqualLemmas.{equal-true, equal-same}
use Rattle.lang_core.specs.contracts.writes.Write as write
use Rattle.lang_core.specs.declared.writes.Write.{Write}
use Rattle.place_order.specs.Labels.{place_in}
use Rattle.log_index.specs.Rows.{IsApart}
use Rattle.log_index.proofs.LabelLemmas.{place_at}
use Rattle.dependency_index.specs.Numbers.{with_numbers}
use Rattle.dependency_index.specs.Reads.{is_at, is_between, is_scan_of, label_of, labels_with, readers, scanners}
use Rattle.dependency_index.specs.declared.noted.Noted.{Noted}
use Rattle.dependency_index.specs.declared.reads.ReadAt.{ReadAt}
use Rattle.dependency_index.specs.declared.reads.ReadKind.TheVariants.{Key}
use Rattle.dependency_index.proofs.IndexLemmas.{map_if, labels_all}
use Rattle.dependency_index.proofs.NumberLemmas.{member_kept, member_puts}
use Rattle.log_index.specs.Marks.{KeptMarks, IsOneKey, changes, is_among, is_marked, lacking, looks_at, places_behind, reads_by, reads_under, sees, sees_behind}

-- ---- where labels stand

module _ (labels : List ℕ) (apart : IsApart labels) where
  -- the label is the one at its place, which is one of the list
  pub known_place : (label : ℕ) → Contains labels label → (get_or labels (place_in labels label) 0 ≡ label) × (place_in labels label < length labels)
  known_place label there =
      let i = there.0 in
      let lt : i < length labels = there.1 in
      let is : label ≡ get_or labels i 0 = sym there.2 ∙ get_or_default labels i label 0 lt in
      let at : place_in labels label ≡ i = ap (place_in labels) is ∙ place_at labels i apart lt in
      (ap (λ j. get_or labels j 0) at ∙ sym is, omega arith)

  same_label : (q label : ℕ) → q < length labels → Contains labels label → nat_eq q (place_in labels label) ≡ nat_eq label (get_or labels q 0)
  same_label q label lt there =
      let known = known_place label there in
      let other : q ≢ place_in labels label → nat_eq label (get_or labels q 0) ≡ false =
      λ ne. ne_eqb label (get_or labels q 0) (λ e. ne (sym (place_at labels q apart lt) ∙ ap (place_in labels) (sym e))) in
      elim (cases_order q (place_in labels label)) [
        | inl e ↦ (let f = eq-eqb q (place_in labels label) e in let g = eq-eqb label (get_or labels q 0) (sym (ap (λ j. get_or labels j 0) e ∙ known.0)) in f ∙ sym g)
        | inr (inl less) ↦ (let f = ne_eqb q (place_in labels label) (λ h. omega arith) in let g = other (λ h. omega arith) in f ∙ sym g)
        | inr (inr more) ↦ (let f = ne_eqb q (place_in labels label) (λ h. omega arith) in let g = other (λ h. omega arith) in f ∙ sym g)
      ]

  outside : (q : ℕ) (xs : List ℕ) → length labels ≤ q → AllByRecursion (Contains labels) xs → is_marked q (map (place_in labels) xs) ≡ false
  outside q [] le all = refl
  outside q (x ∷ xs) le all =
      let known = known_place x all.0 in
      let lt : place_in labels x < length labels = known.1 in
      let e = ne_eqb q (place_in labels x) (λ h. omega arith) in
      ap (λ b. b || is_marked q (map (place_in labels) xs)) e ∙ outside q xs le all.1

  module _ (test : ReadAt → Bool) where
    looked_by : (q l : ℕ) (ls : List ℕ) (own rest : List ReadAt) (b c : Bool) → list_any test own ≡ b → nat_eq q (place_in labels l) ≡ c → is_marked q (map (place_in labels) ls) ≡ list_any test rest
        → is_marked q (map (place_in labels) (cond b (l ∷ ls) ls)) ≡ list_any test (cond c own [] ++ rest)
    looked_by q l ls own rest true true has here h = ap (λ x. x || is_marked q (map (place_in labels) ls)) here ∙ sym (list_any-append test own rest ∙ ap (λ x. x || list_any test rest) has)
    looked_by q l ls own rest true false has here h = ap (λ x. x || is_marked q (map (place_in labels) ls)) here ∙ h
    looked_by q l ls own rest false true has here h = h ∙ sym (list_any-append test own rest ∙ ap (λ x. x || list_any test rest) has)
    looked_by q l ls own rest false false has here h = h

    looked_at : (q : ℕ) → q < length labels → (ns : List Noted) → AllByRecursion (Contains labels) (map label_of ns)
        → is_marked q (map (place_in labels) (labels_with test ns)) ≡ list_any test (reads_under ns (get_or labels q 0))
    looked_at q lt [] all = refl
    looked_at q lt (n ∷ ns) all =
        ap (λ l. is_marked q (map (place_in labels) l)) (map_if n (filter (λ m. list_any test m.reads) ns) (list_any test n.reads))
        ∙ looked_by q (label_of n) (labels_with test ns) n.reads (reads_under ns (get_or labels q 0)) (list_any test n.reads) (nat_eq (label_of n) (get_or labels q 0)) refl
        (same_label q (label_of n) lt all.0) (looked_at q lt ns all.1)

    -- the places of the labels of which a read passes are those whose reads do
    looked : (q : ℕ) (ns : List Noted) → All (Contains labels) (map label_of ns)
        → is_marked q (map (place_in labels) (labels_with test ns)) ≡ list_any test (get_or (reads_by ns labels) q [])
    looked q ns known =
        elim (cases_lt q (length labels)) [
          | inl lt ↦ looked_at q lt ns (recursion_from_All (Contains labels) (map label_of ns) known)
              ∙ ap (list_any test) (sym (get_or-map (reads_under ns) labels q 0 [] lt))
          | inr ge ↦ (let n = length-map labels (reads_under ns) in
              outside q (labels_with test ns) ge (recursion_from_All (Contains labels) (labels_with test ns) (labels_all test (Contains labels) ns known))
              ∙ sym (ap (list_any test) (get_or_past (reads_by ns labels) q [] (omega arith))))
        ]

    looked_behind : (place q : ℕ) (ns : List Noted) → All (Contains labels) (map label_of ns)
        → is_marked q (places_behind labels place (labels_with test ns)) ≡ (nat_lt place q && list_any test (get_or (reads_by ns labels) q []))
    looked_behind place q ns known =
        member_kept (nat_lt place) q (map (place_in labels) (labels_with test ns)) ∙ ap (λ b. nat_lt place q && b) (looked q ns known)

-- ---- of readers that are between places already

again : (p : ℕ → Bool) (f : ℕ → ℕ) (xs : List ℕ) → filter p (map f (filter (λ x. p (f x) && true) xs)) ≡ filter p (map f xs)
again p f [] = refl
again p f (x ∷ xs) = by (p (f x)) refl (again p f xs)
  where
    by : (b : Bool) → p (f x) ≡ b → filter p (map f (filter (λ y. p (f y) && true) xs)) ≡ filter p (map f xs)
        → filter p (map f (cond (b && true) (x ∷ filter (λ y. p (f y) && true) xs) (filter (λ y. p (f y) && true) xs))) ≡ cond b (f x ∷ filter p (map f xs)) (filter p (map f xs))
    by true e more = rw e (ap (λ l. f x ∷ l) more)
    by false e more = more

between : (labels xs : List ℕ) (place from : ℕ) → place_in labels from ≡ place → places_behind labels place (filter (is_between labels from None) xs) ≡ places_behind labels place xs
between labels xs place from at =
    ap (λ p. filter (nat_lt place) (map (place_in labels) (filter (λ x. nat_lt p (place_in labels x) && true) xs))) at
    ∙ again (nat_lt place) (place_in labels) xs

-- ---- what is marked after a write

either : {X : Type 0} (p q : X → Bool) (xs : List X) → list_any (λ x. p x || q x) xs ≡ (list_any p xs || list_any q xs)
either p q [] = refl
either p q (x ∷ xs) = ap (λ b. (p x || q x) || b) (either p q xs) ∙ turned (p x) (q x) (list_any p xs) (list_any q xs)
  where
    turned : (a b c d : Bool) → ((a || b) || (c || d)) ≡ ((a || c) || (b || d))
    turned true b c d = refl
    turned false true true d = refl
    turned false true false d = refl
    turned false false c d = refl

together : (p s r m : Bool) → ((p && s) || ((p && r) || m)) ≡ (m || (p && ((r || s) || false)))
together true true true true = refl
together true true true false = refl
together true true false true = refl
together true true false false = refl
together true false true true = refl
together true false true false = refl
together true false false true = refl
together true false false false = refl
together false s r true = refl
together false s r false = refl

module _ (labels : List ℕ) (apart : IsApart labels) (ns : List Noted) (known : All (Contains labels) (map label_of ns)) where
  pub marked_after : (order marks found_readers found_scanners : List ℕ) (place from : ℕ) (w : Write) → order ≡ labels → place_in labels from ≡ place
      → found_readers ≡ filter (is_between order from None) (readers w.table w.key ns) → found_scanners ≡ scanners w.table w.key ns
      → (q : ℕ) → is_marked q (with_numbers (places_behind labels place found_scanners) (with_numbers (places_behind labels place found_readers) marks))
      ≡ (is_marked q marks || sees_behind place (w ∷ []) (reads_by ns labels) q)
  marked_after order marks found_readers found_scanners place from w same at readers_are scanners_are q =
      let by_key = is_at Key w.table w.key in
      let by_scan = is_scan_of w.table w.key in
      let rs : List ReadAt = get_or (reads_by ns labels) q [] in
      let r : is_marked q (places_behind labels place found_readers) ≡ (nat_lt place q && list_any by_key rs) =
      ap (λ l. is_marked q (places_behind labels place l)) (readers_are ∙ ap (λ o. filter (is_between o from None) (readers w.table w.key ns)) same)
      ∙ ap (is_marked q) (between labels (readers w.table w.key ns) place from at) ∙ looked_behind labels apart by_key place q ns known in
      let s : is_marked q (places_behind labels place found_scanners) ≡ (nat_lt place q && list_any by_scan rs) =
      ap (λ l. is_marked q (places_behind labels place l)) scanners_are ∙ looked_behind labels apart by_scan place q ns known in
      member_puts q (places_behind labels place found_scanners) (with_numbers (places_behind labels place found_readers) marks)
      ∙ ap (λ b. is_marked q (places_behind labels place found_scanners) || b) (member_puts q (places_behind labels place found_readers) marks)
      ∙ ap (λ b. b || (is_marked q (places_behind labels place found_readers) || is_marked q marks)) s
      ∙ ap (λ b. (nat_lt place q && list_any by_scan rs) || (b || is_marked q marks)) r
      ∙ together (nat_lt place q) (list_any by_scan rs) (list_any by_key rs) (is_marked q marks)
      ∙ ap (λ b. is_marked q marks || (nat_lt place q && (b || false))) (sym (either by_key by_scan rs))

-- ---- writes that are among others

-- all, where there are no others
pub lacking_all : (writes : List Write) → lacking [] writes ≡ writes
lacking_all [] = refl
lacking_all (w ∷ ws) = ap (λ l. w ∷ l) (lacking_all ws)

lacking_by : (others : List Write) (w : Write) (b : Bool) → is_among others w ≡ b → lacking others (w ∷ []) ≡ cond b [] (w ∷ [])
lacking_by others w true e = rw e refl
lacking_by others w false e = rw e refl

-- one that is among them is left out
pub lacking_none : (others : List Write) (w : Write) → is_among others w ≡ true → lacking others (w ∷ []) ≡ []
lacking_none others w e = lacking_by others w true e

pub lacking_one : (others : List Write) (w : Write) → is_among others w ≡ false → lacking others (w ∷ []) ≡ w ∷ []
lacking_one others w e = lacking_by others w false e

pub lacking_more : (others writes next : List Write) (w : Write) → next ≡ writes ++ w ∷ [] → lacking others next ≡ lacking others writes ++ lacking others (w ∷ [])
lacking_more others writes next w is = ap (lacking others) is ∙ filter-append (λ v. not (is_among others v)) writes (w ∷ [])

-- ---- one key

twice : (x y : Bool) → x ≡ y → (x || false) ≡ (x || (y || false))
twice true y e = refl
twice false true e = cc
twice false false e = refl

left_true : (x : Bool) → (x || false) ≡ true → x ≡ true
left_true true e = refl
left_true false e = cc

never_left : (x : Bool) → x ≡ true → (x || false) ≡ false → ⊥
never_left true e f = cc
never_left false e f = cc

among_back : (v w : Write) → is_among (v ∷ []) w ≡ true → is_among (w ∷ []) v ≡ false → ⊥
among_back v w e f =
    let same = equal-true write.the_row.coded w v (left_true (equal write.the_row.coded w v) e) in
    never_left (equal write.the_row.coded v w) (equal-same write.the_row.coded v w (sym same)) f

module _ (w v : Write) (same : (w.table ≡ v.table) × (w.key ≡ v.key)) (reads : List ReadAt) where
  seen_alike : list_any (looks_at w.table w.key) reads ≡ list_any (looks_at v.table v.key) reads
  seen_alike = ap (λ t. list_any (looks_at t w.key) reads) same.0 ∙ ap (λ k. list_any (looks_at v.table k) reads) same.1

  by_among : (b c : Bool) → is_among (v ∷ []) w ≡ b → is_among (w ∷ []) v ≡ c → sees (cond b [] (w ∷ [])) reads ≡ sees (cond b [] (w ∷ []) ++ cond c [] (v ∷ [])) reads
  by_among true true e f = refl
  by_among true false e f = absurd (among_back v w e f)
  by_among false true e f = refl
  by_among false false e f = twice (list_any (looks_at w.table w.key) reads) (list_any (looks_at v.table v.key) reads) seen_alike

-- what looks at the one write of a key looks at the other one of it
pub one_key : (old new : List Write) → IsOneKey old new → (reads : List ReadAt) → sees (lacking new old) reads ≡ sees (changes old new) reads
one_key [] new same reads = absurd same
one_key (w ∷ []) [] same reads = absurd same
one_key (w ∷ []) (v ∷ []) same reads =
    rw (lacking_by (v ∷ []) w (is_among (v ∷ []) w) refl, lacking_by (w ∷ []) v (is_among (w ∷ []) v) refl)
    (by_among w v same reads (is_among (v ∷ []) w) (is_among (w ∷ []) v) refl refl)
one_key (w ∷ []) (v ∷ u ∷ vs) same reads = absurd same
one_key (w ∷ u ∷ ws) new same reads = absurd same

-- ---- more writes

one_more : (m p a b : Bool) → ((m || (p && a)) || (p && b)) ≡ (m || (p && (a || b)))
one_more true p a b = refl
one_more false true true b = refl
one_more false true false b = refl
one_more false false a b = refl

pub sees_more : (before marks now : List ℕ) (reads : List (List ReadAt)) (place : ℕ) (front more next : List Write) → next ≡ front ++ more
    → ((q : ℕ) → is_marked q marks ≡ (is_marked q before || sees_behind place front reads q)) → ((q : ℕ) → is_marked q now ≡ (is_marked q marks || sees_behind place more reads q))
    → (q : ℕ) → is_marked q now ≡ (is_marked q before || sees_behind place next reads q)
sees_more before marks now reads place front more next is h k q =
    let own = sees more (get_or reads q []) in
    let old = sees front (get_or reads q []) in
    let seen : (Write → Bool) = λ v. list_any (looks_at v.table v.key) (get_or reads q []) in
    k q ∙ ap (λ b. b || sees_behind place more reads q) (h q) ∙ one_more (is_marked q before) (nat_lt place q) old own
    ∙ ap (λ b. is_marked q before || (nat_lt place q && b)) (sym (ap (list_any seen) is ∙ list_any-append seen front more))

-- first what looks at some writes was marked, and then what looks at others
pub marked_both : (m m1 m2 : KeptMarks) (place : ℕ) (some more : List Write) → m1.reads ≡ m.reads
    → ((q : ℕ) → is_marked q m1.marks ≡ (is_marked q m.marks || sees_behind place some m.reads q)) → ((q : ℕ) → is_marked q m2.marks ≡ (is_marked q m1.marks || sees_behind place more m1.reads q))
    → (q : ℕ) → is_marked q m2.marks ≡ (is_marked q m.marks || sees_behind place (some ++ more) m.reads q)
marked_both m m1 m2 place some more same h k q =
    sees_more m.marks m1.marks m2.marks m.reads place some more (some ++ more) refl h
    (λ p. k p ∙ ap (λ reads. is_marked p m1.marks || sees_behind place more reads p) same) q

-- no write is seen by nobody
pub nothing_seen : (m p : Bool) → m ≡ (m || (p && false))
nothing_seen true p = refl
nothing_seen false true = refl
nothing_seen false false = refl

still_by : (a b : Bool) (now : Bool) → now ≡ (a || b) → a ≡ true → now ≡ true
still_by true b now e h = e
still_by false b now e h = cc

-- what was marked still is
pub still_marked : (before marks : List ℕ) (reads : List (List ReadAt)) (place : ℕ) (front : List Write) → ((q : ℕ) → is_marked q marks ≡ (is_marked q before || sees_behind place front reads q))
    → (q : ℕ) → IsTrue (is_marked q before) → IsTrue (is_marked q marks)
still_marked before marks reads place front h q t = still_by (is_marked q before) (sees_behind place front reads q) (is_marked q marks) (h q) t

-- ---- labels, one by one

pub one_label : (labels rest marks : List ℕ) (place label : ℕ)
    → with_numbers (places_behind labels place rest) (with_numbers (places_behind labels place (label ∷ [])) marks) ≡ with_numbers (places_behind labels place (label ∷ rest)) marks
one_label labels rest marks place label = by (nat_lt place (place_in labels label))
  where
    ps : List ℕ
    ps = places_behind labels place rest

    by : (b : Bool) → with_numbers ps (with_numbers (cond b (place_in labels label ∷ []) []) marks) ≡ with_numbers (cond b (place_in labels label ∷ ps) ps) marks
    by true = refl
    by false = refl
