-- What it comes to for the labels of all reads that one label's reads are noted or forgotten.
use Rattle.std.proofs.Common.{◌≡◌, ℕ, suc, ◌<◌, Bool, true, false, cond, List, [], ◌∷◌, ◌++◌, nat_lt, length, get_or, set, take, drop, map, refl, sym, ap, ◌∙◌, subst}
use Rattle.std.specs.List.{filter, list_any, All, AllByRecursion}
use Rattle.std.proofs.lemmas.List.{map-append, set_split}
use Rattle.std.proofs.lemmas.List.Elements.{filter-append, All-append, All-cons, All-filter, All-from_recursion, recursion_from_All}
use Rattle.key_labels.specs.Labels.{is_other}
use Rattle.key_labels.proofs.ListLemmas.{filter_filter, filter-map}
use Rattle.dependency_index.specs.Numbers.{Rises, with_number}
use Rattle.dependency_index.specs.Reads.{label_of, labels_with, with_noted}
use Rattle.dependency_index.specs.declared.noted.Noted.{Noted}
use Rattle.dependency_index.specs.declared.reads.ReadAt.{ReadAt}
use Rattle.dependency_index.proofs.NumberLemmas.{rises_put, join_ends, others, put_anew, parted, take-drop, rises_if}

pub map_if : (n : Noted) (ns : List Noted) (b : Bool) → map label_of (cond b (n ∷ ns) ns) ≡ cond b (label_of n ∷ map label_of ns) (map label_of ns)
map_if n ns true = refl
map_if n ns false = refl

all_if : (x y : ℕ) (ys : List ℕ) (b : Bool) → x < y → AllByRecursion (λ y. x < y) ys → AllByRecursion (λ y. x < y) (cond b (y ∷ ys) ys)
all_if x y ys true lt all = (lt, all)
all_if x y ys false lt all = all

holds_if : (P : ℕ → Type 0) (y : ℕ) (ys : List ℕ) (b : Bool) → P y → AllByRecursion P ys → AllByRecursion P (cond b (y ∷ ys) ys)
holds_if P y ys true here all = (here, all)
holds_if P y ys false here all = all

module _ (test : ReadAt → Bool) where
  abbrev has : Noted → Bool
  has n = list_any test n.reads

  labels_append : (xs ys : List Noted) → labels_with test (xs ++ ys) ≡ labels_with test xs ++ labels_with test ys
  labels_append xs ys = ap (map label_of) (filter-append has xs ys) ∙ map-append label_of (filter has xs) (filter has ys)

  labels_first : (n : Noted) (ns : List Noted) → labels_with test (n ∷ ns) ≡ cond (has n) (label_of n ∷ labels_with test ns) (labels_with test ns)
  labels_first n ns = map_if n (filter has ns) (has n)

  -- the labels among some of them
  pub labels_kept : (f : ℕ → Bool) (ns : List Noted) → labels_with test (filter (λ n. f (label_of n)) ns) ≡ filter f (labels_with test ns)
  labels_kept f ns = ap (map label_of) (filter_filter has (λ n. f (label_of n)) ns) ∙ sym (filter-map label_of f (filter has ns))

  all_labels : (x : ℕ) (ns : List Noted) → AllByRecursion (λ y. x < y) (map label_of ns) → AllByRecursion (λ y. x < y) (labels_with test ns)
  all_labels x [] all = tt
  all_labels x (n ∷ ns) all = rw (map_if n (filter has ns) (has n)) (all_if x (label_of n) (labels_with test ns) (has n) all.0 (all_labels x ns all.1))

  pub labels_rise : (ns : List Noted) → Rises (map label_of ns) → Rises (labels_with test ns)
  labels_rise [] r = tt
  labels_rise (n ∷ ns) r = rw (map_if n (filter has ns) (has n)) (rises_if (label_of n) (labels_with test ns) (has n) (all_labels (label_of n) ns r.0) (labels_rise ns r.1))

  each_label : (P : ℕ → Type 0) (ns : List Noted) → AllByRecursion P (map label_of ns) → AllByRecursion P (labels_with test ns)
  each_label P [] all = tt
  each_label P (n ∷ ns) all = rw (map_if n (filter has ns) (has n)) (holds_if P (label_of n) (labels_with test ns) (has n) all.0 (each_label P ns all.1))

  pub labels_all : (P : ℕ → Type 0) (ns : List Noted) → All P (map label_of ns) → All P (labels_with test ns)
  labels_all P ns all = All-from_recursion P (labels_with test ns) (each_label P ns (recursion_from_All P (map label_of ns) all))

  -- where nothing of the label passes, it is in no row
  pub unnamed : (label : ℕ) (ns xs ys : List Noted) → Rises (map label_of ns) → filter (λ n. nat_lt (label_of n) label) ns ≡ xs → filter (λ n. nat_lt label (label_of n)) ns ≡ ys
      → labels_with test xs ++ labels_with test ys ≡ labels_with test ns → labels_with test ns ≡ filter (is_other label) (labels_with test ns)
  unnamed label ns xs ys r below above all =
      sym (others label (labels_with test ns) (labels_rise ns r)
      ∙ ap (λ l. l ++ filter (λ x. nat_lt label x) (labels_with test ns)) (sym (labels_kept (λ x. nat_lt x label) ns) ∙ ap (labels_with test) below)
      ∙ ap (λ l. labels_with test xs ++ l) (sym (labels_kept (λ x. nat_lt label x) ns) ∙ ap (labels_with test) above)
      ∙ all)

  -- the label isn't there
  pub unnoted : (label at : ℕ) (ns : List Noted) → Rises (map label_of ns) → filter (λ n. nat_lt (label_of n) label) ns ≡ take at ns → filter (λ n. nat_lt label (label_of n)) ns ≡ drop at ns
      → labels_with test ns ≡ filter (is_other label) (labels_with test ns)
  unnoted label at ns r below above =
      unnamed label ns (take at ns) (drop at ns) r below above (sym (labels_append (take at ns) (drop at ns)) ∙ ap (labels_with test) (take-drop at ns))

  no_label : (n : Noted) (ns : List Noted) → has n ≡ false → labels_with test (n ∷ ns) ≡ labels_with test ns
  no_label n ns h = rw h refl

  -- it is there, and passes or not
  pub noted_there : (label at : ℕ) (own : Noted) (ns : List Noted) → Rises (map label_of ns) → at < length ns → own ≡ get_or ns at own
      → filter (λ n. nat_lt (label_of n) label) ns ≡ take at ns → filter (λ n. nat_lt label (label_of n)) ns ≡ drop (suc at) ns
      → cond (has own) (filter (is_other label) (labels_with test ns)) (labels_with test ns) ≡ filter (is_other label) (labels_with test ns)
  noted_there label at own ns r lt is below above = by (has own) refl
    where
      by : (b : Bool) → has own ≡ b → cond b (filter (is_other label) (labels_with test ns)) (labels_with test ns) ≡ filter (is_other label) (labels_with test ns)
      by true e = refl
      by false e =
          unnamed label ns (take at ns) (drop (suc at) ns) r below above
          (ap (λ l. labels_with test (take at ns) ++ l) (sym (no_label own (drop (suc at) ns) e))
          ∙ sym (labels_append (take at ns) (own ∷ drop (suc at) ns))
          ∙ ap (labels_with test) (parted at own ns lt is))

  -- a label's reads are noted
  pub noted_anew : (own : Noted) (ns : List Noted) → Rises (map label_of ns)
      → labels_with test (with_noted own ns) ≡ cond (has own) (with_number (label_of own) (filter (is_other (label_of own)) (labels_with test ns))) (filter (is_other (label_of own)) (labels_with test ns))
  noted_anew own ns r =
      let l = label_of own in
      let xs = filter (λ n. nat_lt (label_of n) l) ns in
      let ys = filter (λ n. nat_lt l (label_of n)) ns in
      labels_append xs (own ∷ ys)
      ∙ ap (λ m. m ++ labels_with test (own ∷ ys)) (labels_kept (λ x. nat_lt x l) ns)
      ∙ ap (λ m. filter (λ x. nat_lt x l) (labels_with test ns) ++ m) (labels_first own ys ∙ ap (λ m. cond (has own) (l ∷ m) m) (labels_kept (λ x. nat_lt l x) ns))
      ∙ by (has own) refl
    where
      by : (b : Bool) → has own ≡ b
          → filter (λ x. nat_lt x (label_of own)) (labels_with test ns) ++ cond b (label_of own ∷ filter (λ x. nat_lt (label_of own) x) (labels_with test ns)) (filter (λ x. nat_lt (label_of own) x) (labels_with test ns))
          ≡ cond b (with_number (label_of own) (filter (is_other (label_of own)) (labels_with test ns))) (filter (is_other (label_of own)) (labels_with test ns))
      by true e = sym (put_anew (label_of own) (labels_with test ns))
      by false e = sym (others (label_of own) (labels_with test ns) (labels_rise ns r))

-- they are put in place of those that it had, at the place of the label
pub set_is : (at : ℕ) (own : Noted) (ns : List Noted) → at < length ns → filter (λ n. nat_lt (label_of n) (label_of own)) ns ≡ take at ns
    → filter (λ n. nat_lt (label_of own) (label_of n)) ns ≡ drop (suc at) ns → set ns at own ≡ with_noted own ns
set_is at own ns lt below above =
    set_split ns at own lt
    ∙ sym (join_ends (filter (λ m. nat_lt (label_of m) (label_of own)) ns) (filter (λ m. nat_lt (label_of own) (label_of m)) ns) (take at ns) (drop (suc at) ns) own below above)

same_noted : (m n : Noted) → label_of m ≡ label_of n → m.reads ≡ n.reads → m ≡ n
same_noted m n e f = λ i. record { label = e i; reads = f i }

-- what is noted of a label is noted again
pub noted_again : (at : ℕ) (found own : Noted) (ns : List Noted) → at < length ns → found ≡ get_or ns at found → label_of found ≡ label_of own → found.reads ≡ own.reads
    → filter (λ n. nat_lt (label_of n) (label_of own)) ns ≡ take at ns → filter (λ n. nat_lt (label_of own) (label_of n)) ns ≡ drop (suc at) ns → with_noted own ns ≡ ns
noted_again at found own ns lt is label reads below above =
    join_ends (filter (λ n. nat_lt (label_of n) (label_of own)) ns) (filter (λ n. nat_lt (label_of own) (label_of n)) ns) (take at ns) (drop (suc at) ns) own below above
    ∙ ap (λ n. take at ns ++ n ∷ drop (suc at) ns) (sym (same_noted found own label reads)) ∙ parted at found ns lt is

-- the labels of all that is noted
labels_anew : (own : Noted) (ns : List Noted) → map label_of (with_noted own ns) ≡ with_number (label_of own) (map label_of ns)
labels_anew own ns =
    let l = label_of own in
    let xs = filter (λ n. nat_lt (label_of n) l) ns in
    let ys = filter (λ n. nat_lt l (label_of n)) ns in
    map-append label_of xs (own ∷ ys) ∙ ap (λ m. m ++ l ∷ map label_of ys) (sym (filter-map label_of (λ x. nat_lt x l) ns))
    ∙ ap (λ m. filter (λ x. nat_lt x l) (map label_of ns) ++ l ∷ m) (sym (filter-map label_of (λ x. nat_lt l x) ns))

pub noted_rise : (own : Noted) (ns : List Noted) → Rises (map label_of ns) → Rises (map label_of (with_noted own ns))
noted_rise own ns r =
    let P : List ℕ → Type 0 = λ m. Rises m in
    subst P (sym (labels_anew own ns)) (rises_put (label_of own) (map label_of ns) r)

pub noted_all : (P : ℕ → Type 0) (own : Noted) (ns : List Noted) → All P (map label_of ns) → P (label_of own) → All P (map label_of (with_noted own ns))
noted_all P own ns all here =
    let l = label_of own in
    let xs = map label_of ns in
    let Q : List ℕ → Type 0 = λ m. All P m in
    subst Q (sym (labels_anew own ns))
    (All-append P (filter (λ x. nat_lt x l) xs) (l ∷ filter (λ x. nat_lt l x) xs) (All-filter (λ x. nat_lt x l) P xs all)
    (All-cons P l (filter (λ x. nat_lt l x) xs) here (All-filter (λ x. nat_lt l x) P xs all)))
