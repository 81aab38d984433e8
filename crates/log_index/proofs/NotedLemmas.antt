-- The reads that are noted under labels, once others were noted.
use Rattle.std.proofs.Common.{◌≡◌, ◌≢◌, ℕ, zero, suc, ◌<◌, Bool, true, false, cond, not, List, [], ◌∷◌, ◌++◌, nat_eq, nat_lt, length, get_or, set, drop, map, refl, sym, ap, ◌∙◌, subst, inl, inr, arith, append_assoc, eq-eqb, eqb-true}
use Rattle.std.specs.List.{All, AllByRecursion, Contains, filter, insert, slice_get}
use Rattle.std.proofs.lemmas.Bool.{cases_order, lt-ltb, le-ltb, ne_eqb}
use Rattle.std.proofs.lemmas.List.{get_or_default, length-map}
use Rattle.std.proofs.lemmas.List.Elements.{All-from_recursion, Contains-append_right, recursion_from_All}
use Rattle.place_order.specs.Labels.{IsNew}
use Rattle.place_order.specs.Rising.{is_before}
use Rattle.log_index.specs.Rows.{IsApart}
use Rattle.log_index.proofs.EditLemmas.{map_insert}
use Rattle.log_index.proofs.LabelLemmas.{from_there, none_before}
use Rattle.dependency_index.specs.Reads.{label_of, noted_behind, with_noted}
use Rattle.dependency_index.specs.declared.noted.Noted.{Noted}
use Rattle.dependency_index.specs.declared.reads.ReadAt.{ReadAt}
use Rattle.log_index.specs.Marks.{reads_under, reads_by}

none_after : {X : Type 0} (xs : List X) → xs ++ [] ≡ xs
none_after [] = refl
none_after (x ∷ xs) = ap (λ l. x ∷ l) (none_after xs)

under_append : (xs ys : List Noted) (label : ℕ) → reads_under (xs ++ ys) label ≡ reads_under xs label ++ reads_under ys label
under_append [] ys label = refl
under_append (n ∷ ns) ys label =
    let own : List ReadAt = cond (nat_eq (label_of n) label) n.reads [] in
    ap (λ l. own ++ l) (under_append ns ys label) ∙ sym (append_assoc own (reads_under ns label) (reads_under ys label))

kept_by : (n : Noted) (kept whole : List Noted) (label : ℕ) (b c t : Bool) → nat_eq (label_of n) label ≡ b → (b ≡ true → c ≡ t) → reads_under kept label ≡ cond t (reads_under whole label) []
    → reads_under (cond c (n ∷ kept) kept) label ≡ cond t (cond b n.reads [] ++ reads_under whole label) []
kept_by n kept whole label true true true is same h = rw is (ap (λ l. n.reads ++ l) h)
kept_by n kept whole label true true false is same h = let no = same refl in cc
kept_by n kept whole label true false true is same h = let no = same refl in cc
kept_by n kept whole label true false false is same h = h
kept_by n kept whole label false true true is same h = rw is h
kept_by n kept whole label false true false is same h = rw is h
kept_by n kept whole label false false true is same h = h
kept_by n kept whole label false false false is same h = h

nothing_by : (b : Bool) → [] ≡ cond b (reads_under [] 0) []
nothing_by true = refl
nothing_by false = refl

-- of those whose labels pass a test
under_kept : (test : ℕ → Bool) (ns : List Noted) (label : ℕ) → reads_under (filter (λ n. test (label_of n)) ns) label ≡ cond (test label) (reads_under ns label) []
under_kept test [] label = nothing_by (test label)
under_kept test (n ∷ ns) label =
    kept_by n (filter (λ m. test (label_of m)) ns) ns label (nat_eq (label_of n) label) (test (label_of n)) (test label) refl (λ e. ap test (eqb-true (label_of n) label e)) (under_kept test ns label)

-- a label's reads are those that were noted last, and the others' stay
pub under_noted : (own : Noted) (ns : List Noted) (label : ℕ) → reads_under (with_noted own ns) label ≡ cond (nat_eq (label_of own) label) own.reads (reads_under ns label)
under_noted own ns label =
    let l = label_of own in
    let below = filter (λ n. nat_lt (label_of n) l) ns in
    let above = filter (λ n. nat_lt l (label_of n)) ns in
    let r = reads_under ns label in
    under_append below (own ∷ above) label
    ∙ ap (λ x. x ++ (cond (nat_eq l label) own.reads [] ++ reads_under above label)) (under_kept (λ x. nat_lt x l) ns label)
    ∙ ap (λ x. cond (nat_lt label l) r [] ++ (cond (nat_eq l label) own.reads [] ++ x)) (under_kept (λ x. nat_lt l x) ns label)
    ∙ elim (cases_order label l) [
      | inl e ↦ (let a = le-ltb label l (omega arith) in let b = le-ltb l label (omega arith) in let h = eq-eqb l label (sym e) in rw (a, b, h) (none_after own.reads))
      | inr (inl lt) ↦ (let a = lt-ltb label l lt in let b = le-ltb l label (omega arith) in let h = ne_eqb l label (λ e. omega arith) in rw (a, b, h) (none_after r))
      | inr (inr gt) ↦ (let a = le-ltb label l (omega arith) in let b = lt-ltb l label gt in let h = ne_eqb l label (λ e. omega arith) in rw (a, b, h) refl)
    ]

-- ---- by places

pub many : (ns : List Noted) (labels : List ℕ) → length (reads_by ns labels) ≡ length labels
many ns labels = length-map labels (reads_under ns)

stands : (x : ℕ) (xs : List ℕ) → Contains (x ∷ xs) x
stands x xs = (0, omega arith, refl)

rest_new : (x y : ℕ) (ys : List ℕ) → IsNew x (y ∷ ys) → IsNew x ys
rest_new x y ys new there = new (Contains-append_right (y ∷ []) ys x there)

first_differs : (x y : ℕ) (ys : List ℕ) → IsNew x (y ∷ ys) → x ≢ y
first_differs x y ys new e = let P : ℕ → Type 0 = λ z. Contains (y ∷ ys) z in new (subst P (sym e) (stands y ys))

-- labels that are others have the reads that they had
others_stay : (own : Noted) (ns : List Noted) (labels : List ℕ) → IsNew (label_of own) labels → reads_by (with_noted own ns) labels ≡ reads_by ns labels
others_stay own ns [] new = refl
others_stay own ns (x ∷ xs) new =
    let e = ne_eqb (label_of own) x (first_differs (label_of own) x xs new) in
    let here : reads_under (with_noted own ns) x ≡ reads_under ns x = under_noted own ns x ∙ ap (λ b. cond b own.reads (reads_under ns x)) e in
    ap (λ r. r ∷ reads_by (with_noted own ns) xs) here ∙ ap (λ l. reads_under ns x ∷ l) (others_stay own ns xs (rest_new (label_of own) x xs new))

own_reads : (own : Noted) (ns : List Noted) (label : ℕ) → label_of own ≡ label → reads_under (with_noted own ns) label ≡ own.reads
own_reads own ns label is = let e = eq-eqb (label_of own) label is in under_noted own ns label ∙ ap (λ b. cond b own.reads (reads_under ns label)) e

-- a new label's reads stand where it does
pub noted_new : (own : Noted) (ns : List Noted) (labels : List ℕ) (place : ℕ) → IsNew (label_of own) labels
    → reads_by (with_noted own ns) (insert labels place (label_of own)) ≡ insert (reads_by ns labels) place own.reads
noted_new own ns labels place new =
    map_insert (reads_under (with_noted own ns)) labels place (label_of own)
    ∙ ap (λ l. insert l place (reads_under (with_noted own ns) (label_of own))) (others_stay own ns labels new)
    ∙ ap (λ r. insert (reads_by ns labels) place r) (own_reads own ns (label_of own) refl)

pub contains_at : (xs : List ℕ) (i : ℕ) → i < length xs → Contains xs (get_or xs i 0)
contains_at xs i lt = (i, lt, sym (get_or_default xs i 0 (get_or xs i 0) lt))

-- the reads of a label that is there stand where it does, in place of those that did
pub noted_there : (own : Noted) (ns : List Noted) (labels : List ℕ) (place : ℕ) → IsApart labels → place < length labels → label_of own ≡ get_or labels place 0
    → reads_by (with_noted own ns) labels ≡ set (reads_by ns labels) place own.reads
noted_there own ns [] place apart lt is = absurd (omega arith)
noted_there own ns (x ∷ xs) zero apart lt is =
    let P : ℕ → Type 0 = λ z. IsNew z xs in
    ap (λ r. r ∷ reads_by (with_noted own ns) xs) (own_reads own ns x is) ∙ ap (λ l. own.reads ∷ l) (others_stay own ns xs (subst P (sym is) apart.0))
noted_there own ns (x ∷ xs) (suc place) apart lt is =
    let n : place < length xs = omega arith in
    let P : ℕ → Type 0 = λ z. Contains xs z in
    let differs : label_of own ≢ x = λ e. apart.0 (subst P (sym is ∙ e) (contains_at xs place n)) in
    let e = ne_eqb (label_of own) x differs in
    ap (λ r. r ∷ reads_by (with_noted own ns) xs) (under_noted own ns x ∙ ap (λ b. cond b own.reads (reads_under ns x)) e)
    ∙ ap (λ l. reads_under ns x ∷ l) (noted_there own ns xs place apart.1 n is)

-- ---- without the reads of some labels

-- labels that pass a test keep their reads where those stay that pass it
by_kept : (test : ℕ → Bool) (ns : List Noted) (labels : List ℕ) → ((x : ℕ) → Contains labels x → test x ≡ true) → reads_by (filter (λ n. test (label_of n)) ns) labels ≡ reads_by ns labels
by_kept test ns [] passes = refl
by_kept test ns (l ∷ ls) passes =
    let kept = filter (λ n. test (label_of n)) ns in
    let here : reads_under kept l ≡ reads_under ns l = under_kept test ns l ∙ ap (λ b. cond b (reads_under ns l) []) (passes l (stands l ls)) in
    ap (λ r. r ∷ reads_by kept ls) here ∙ ap (λ r. reads_under ns l ∷ r) (by_kept test ns ls (λ x there. passes x (Contains-append_right (l ∷ []) ls x there)))

-- what the labels from a place on read is noted still
pub by_behind : (labels : List ℕ) (n : ℕ) (ns : List Noted) → IsApart labels → reads_by (noted_behind labels (slice_get labels n) ns) (drop n labels) ≡ reads_by ns (drop n labels)
by_behind labels n ns apart =
    by_kept (λ x. not (is_before labels (slice_get labels n) x)) ns (drop n labels) (λ x there. ap not (none_before labels apart n x there))

left_if : (P : ℕ → Type 0) (n : Noted) (ns : List Noted) (b : Bool) → (b ≡ true → P (label_of n)) → AllByRecursion P (map label_of ns) → AllByRecursion P (map label_of (cond b (n ∷ ns) ns))
left_if P n ns true here all = (here refl, all)
left_if P n ns false here all = all

left_known : (P Q : ℕ → Type 0) (test : ℕ → Bool) → ((x : ℕ) → P x → test x ≡ true → Q x) → (ns : List Noted) → AllByRecursion P (map label_of ns)
    → AllByRecursion Q (map label_of (filter (λ n. test (label_of n)) ns))
left_known P Q test h [] all = tt
left_known P Q test h (n ∷ ns) all =
    left_if Q n (filter (λ m. test (label_of m)) ns) (test (label_of n)) (h (label_of n) all.0) (left_known P Q test h ns all.1)

not_so : (b : Bool) → not b ≡ true → b ≡ false
not_so true h = cc
not_so false h = refl

-- and nothing under other labels
pub known_behind : (labels : List ℕ) (n : ℕ) (ns : List Noted) → IsApart labels → All (Contains labels) (map label_of ns)
    → All (Contains (drop n labels)) (map label_of (noted_behind labels (slice_get labels n) ns))
known_behind labels n ns apart all =
    All-from_recursion (Contains (drop n labels)) (map label_of (noted_behind labels (slice_get labels n) ns))
    (left_known (Contains labels) (Contains (drop n labels)) (λ x. not (is_before labels (slice_get labels n) x))
    (λ x there stays. from_there labels apart n x there (not_so (is_before labels (slice_get labels n) x) stays)) ns
    (recursion_from_All (Contains labels) (map label_of ns) all))
