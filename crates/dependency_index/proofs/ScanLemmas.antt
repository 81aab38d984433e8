-- The labels in the rows of all prefixes of a key are those that scan it.
use Rattle.std.proofs.Common.{◌≡◌, ℕ, zero, suc, ◌+◌, ◌≤◌, Bool, true, false, cond, ◌&&◌, ◌||◌, List, [], ◌∷◌, nat_eq, nat_lt, length, take, map, refl, sym, ap, ◌∙◌, arith}
use Rattle.std.specs.List.{filter, list_any}
use Rattle.std.proofs.lemmas.Bool.{lt-ltb, le-ltb, ltb-true, ltb-false, and_parts}
use Rattle.std.proofs.lemmas.List.Elements.{filter_agree}
use Rattle.lang_base.specs.Texts.{same_text, begins_with}
use Rattle.key_labels.specs.Rows.{labels_in}
use Rattle.key_labels.specs.declared.rows.KeyLabels.{KeyLabels}
use Rattle.dependency_index.specs.Numbers.{Rises, with_numbers}
use Rattle.dependency_index.specs.Reads.{is_kind, is_at, is_scan_of, label_of, labels_with, scanners}
use Rattle.dependency_index.specs.Rows.{under}
use Rattle.dependency_index.specs.declared.noted.Noted.{Noted}
use Rattle.dependency_index.specs.declared.reads.ReadAt.{ReadAt}
use Rattle.dependency_index.specs.declared.reads.ReadKind.TheVariants.{Scan}
use Rattle.dependency_index.proofs.IndexLemmas.{labels_rise, map_if}
use Rattle.dependency_index.proofs.NumberLemmas.{member, same_members, member_puts, rises_puts}

-- ---- a prefix of at most so many bytes

less_more : (a b : ℕ) → nat_lt (suc a) (suc b) ≡ nat_lt a b
less_more a b = by (nat_lt a b) refl
  where
    by : (c : Bool) → nat_lt a b ≡ c → nat_lt (suc a) (suc b) ≡ c
    by true e = lt-ltb (suc a) (suc b) (let h = ltb-true a b e in omega arith)
    by false e = le-ltb (suc a) (suc b) (let h = ltb-false a b e in omega arith)

never : (a : Bool) → (a && false) ≡ false
never true = refl
never false = refl

both_or : (a b c d e : Bool) → (b && c) ≡ (d || (b && e)) → ((a && b) && c) ≡ ((a && d) || ((a && b) && e))
both_or true b c d e h = h
both_or false b c d e h = refl

-- a prefix with at most m bytes is the one of m bytes or a shorter one
longest : (p k : List ℕ) (m : ℕ) → m ≤ length k → (begins_with p k && nat_lt (length p) (suc m)) ≡ (same_text p (take m k) || (begins_with p k && nat_lt (length p) m))
longest [] [] zero le = refl
longest [] [] (suc m) le = absurd (omega arith)
longest [] (x ∷ xs) zero le = refl
longest [] (x ∷ xs) (suc m) le = let a : nat_lt 0 (suc (suc m)) ≡ true = lt-ltb 0 (suc (suc m)) (omega arith) in let b : nat_lt 0 (suc m) ≡ true = lt-ltb 0 (suc m) (omega arith) in rw (a, b) refl
longest (c ∷ cs) [] zero le = refl
longest (c ∷ cs) [] (suc m) le = absurd (omega arith)
longest (c ∷ cs) (x ∷ xs) zero le =
    let a : nat_lt (suc (length cs)) 1 ≡ false = le-ltb (suc (length cs)) 1 (omega arith) in
    let b : nat_lt (suc (length cs)) 0 ≡ false = le-ltb (suc (length cs)) 0 (omega arith) in
    rw (a, b) refl
longest (c ∷ cs) (x ∷ xs) (suc m) le =
    rw (less_more (length cs) (suc m), less_more (length cs) m) (both_or (nat_eq c x) (begins_with cs xs) (nat_lt (length cs) (suc m)) (same_text cs (take m xs)) (nat_lt (length cs) m) (longest cs xs m (omega arith)))

within_by : (p k : List ℕ) (b : Bool) → begins_with p k ≡ b → (b ≡ true → length p ≤ length k) → (b && nat_lt (length p) (suc (length k))) ≡ b
within_by p k true e h = lt-ltb (length p) (suc (length k)) (let a = h refl in omega arith)
within_by p k false e h = refl

no_longer : (p k : List ℕ) → begins_with p k ≡ true → length p ≤ length k
no_longer [] k h = omega arith
no_longer (c ∷ cs) [] h = cc
no_longer (c ∷ cs) (x ∷ xs) h = let a = no_longer cs xs (and_parts (nat_eq c x) (begins_with cs xs) h).1 in omega arith

-- ---- the labels under them

-- a scan whose prefix begins the key, of fewer bytes than this
abbrev short : List ℕ → List ℕ → ℕ → ReadAt → Bool
short t k m r = is_scan_of t k r && nat_lt (length r.key) m

kind_or : (a b c d e f : Bool) → (c && d) ≡ (e || (c && f)) → ((a && (b && c)) && d) ≡ ((a && (b && e)) || ((a && (b && c)) && f))
kind_or true true c d e f h = h
kind_or true false c d e f h = refl
kind_or false b c d e f h = refl

next : (t k : List ℕ) (m : ℕ) (r : ReadAt) → m ≤ length k → short t k (suc m) r ≡ (is_at Scan t (take m k) r || short t k m r)
next t k m r le = kind_or (is_kind Scan r.kind) (same_text r.table t) (begins_with r.key k) (nat_lt (length r.key) (suc m)) (same_text r.key (take m k)) (nat_lt (length r.key) m) (longest r.key k m le)

any_or : {X : Type 0} (p q r : X → Bool) → ((x : X) → p x ≡ (q x || r x)) → (xs : List X) → list_any p xs ≡ (list_any q xs || list_any r xs)
any_or p q r h [] = refl
any_or p q r h (x ∷ xs) = ap (λ b. b || list_any p xs) (h x) ∙ ap (λ b. (q x || r x) || b) (any_or p q r h xs) ∙ shuffle (q x) (r x) (list_any q xs) (list_any r xs)
  where
    shuffle : (a b c d : Bool) → ((a || b) || (c || d)) ≡ ((a || c) || (b || d))
    shuffle true b c d = refl
    shuffle false true true d = refl
    shuffle false true false d = refl
    shuffle false false true d = refl
    shuffle false false false d = refl

first_if : (z l : ℕ) (ls : List ℕ) (b : Bool) → member z (cond b (l ∷ ls) ls) ≡ ((b && nat_eq z l) || member z ls)
first_if z l ls true = refl
first_if z l ls false = refl

member_first : (test : ReadAt → Bool) (z : ℕ) (n : Noted) (ns : List Noted) → member z (labels_with test (n ∷ ns)) ≡ ((list_any test n.reads && nat_eq z (label_of n)) || member z (labels_with test ns))
member_first test z n ns = ap (member z) (map_if n (filter (λ n. list_any test n.reads) ns) (list_any test n.reads)) ∙ first_if z (label_of n) (labels_with test ns) (list_any test n.reads)

gather : (a b e c d : Bool) → (((a || b) && e) || (c || d)) ≡ (((a && e) || c) || ((b && e) || d))
gather true true true c d = refl
gather true false true c d = refl
gather true true false true d = refl
gather true true false false d = refl
gather true false false true d = refl
gather true false false false d = refl
gather false true true true d = refl
gather false true true false d = refl
gather false false true true d = refl
gather false false true false d = refl
gather false true false true d = refl
gather false true false false d = refl
gather false false false true d = refl
gather false false false false d = refl

member_or : (p q r : ReadAt → Bool) → ((x : ReadAt) → p x ≡ (q x || r x)) → (z : ℕ) (ns : List Noted) → member z (labels_with p ns) ≡ (member z (labels_with q ns) || member z (labels_with r ns))
member_or p q r h z [] = refl
member_or p q r h z (n ∷ ns) =
    member_first p z n ns
    ∙ ap (λ b. (b && nat_eq z (label_of n)) || member z (labels_with p ns)) (any_or p q r h n.reads)
    ∙ ap (λ b. ((list_any q n.reads || list_any r n.reads) && nat_eq z (label_of n)) || b) (member_or p q r h z ns)
    ∙ gather (list_any q n.reads) (list_any r n.reads) (nat_eq z (label_of n)) (member z (labels_with q ns)) (member z (labels_with r ns))
    ∙ sym (ap (λ b. b || member z (labels_with r (n ∷ ns))) (member_first q z n ns)
    ∙ ap (λ b. ((list_any q n.reads && nat_eq z (label_of n)) || member z (labels_with q ns)) || b) (member_first r z n ns))

none_any : {X : Type 0} (p : X → Bool) → ((x : X) → p x ≡ false) → (xs : List X) → list_any p xs ≡ false
none_any p h [] = refl
none_any p h (x ∷ xs) = let here = h x in rw here (none_any p h xs)

no_labels : (test : ReadAt → Bool) → ((r : ReadAt) → test r ≡ false) → (ns : List Noted) → labels_with test ns ≡ []
no_labels test h [] = refl
no_labels test h (n ∷ ns) = let none = none_any test h n.reads in rw none (no_labels test h ns)

module _ (rows : List KeyLabels) (ns : List Noted) (t k : List ℕ) (r : Rises (map label_of ns)) (each : (t k : List ℕ) → labels_in rows t k ≡ labels_with (is_at Scan t k) ns) where
  shorter : (m : ℕ) → m ≤ length k + 1 → under rows t k m ≡ labels_with (short t k m) ns
  shorter zero le = sym (no_labels (short t k 0) (λ r. ap (λ b. is_scan_of t k r && b) (le-ltb (length r.key) 0 (omega arith)) ∙ never (is_scan_of t k r)) ns)
  shorter (suc m) le =
      let before = shorter m (omega arith) in
      let P = labels_with (short t k m) ns in
      ap (λ l. with_numbers l (under rows t k m)) (each t (take m k)) ∙ ap (with_numbers (labels_with (is_at Scan t (take m k)) ns)) before
      ∙ same_members (with_numbers (labels_with (is_at Scan t (take m k)) ns) P) (labels_with (short t k (suc m)) ns)
      (rises_puts (labels_with (is_at Scan t (take m k)) ns) P (labels_rise (short t k m) ns r)) (labels_rise (short t k (suc m)) ns r)
      (λ z. member_puts z (labels_with (is_at Scan t (take m k)) ns) P ∙ sym (member_or (short t k (suc m)) (is_at Scan t (take m k)) (short t k m) (λ x. next t k m x (omega arith)) z ns))

  whole : (x : ReadAt) → short t k (length k + 1) x ≡ is_scan_of t k x
  whole x =
      let n : length k + 1 ≡ suc (length k) = omega arith in
      ap (λ m. short t k m x) n
      ∙ by (is_kind Scan x.kind) (same_text x.table t) (begins_with x.key k) (nat_lt (length x.key) (suc (length k))) (within_by x.key k (begins_with x.key k) refl (no_longer x.key k))
    where
      by : (a b c d : Bool) → (c && d) ≡ c → ((a && (b && c)) && d) ≡ (a && (b && c))
      by true true c d h = h
      by true false c d h = refl
      by false b c d h = refl

  pub all_scanners : under rows t k (length k + 1) ≡ scanners t k ns
  all_scanners =
      shorter (length k + 1) (omega arith)
      ∙ ap (map label_of) (filter_agree (λ n. list_any (short t k (length k + 1)) n.reads) (λ n. list_any (is_scan_of t k) n.reads) (λ n. agree (short t k (length k + 1)) (is_scan_of t k) whole n.reads) ns)
    where
      agree : {X : Type 0} (p q : X → Bool) → ((x : X) → p x ≡ q x) → (xs : List X) → list_any p xs ≡ list_any q xs
      agree p q h [] = refl
      agree p q h (x ∷ xs) = ap (λ b. b || list_any p xs) (h x) ∙ ap (λ b. q x || b) (agree p q h xs)
