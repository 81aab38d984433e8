-- What edits at each of a list of reads come to.
use Rattle.std.proofs.Common.{◌≡◌, ℕ, zero, suc, ◌+◌, ◌<◌, ◌≤◌, Bool, true, false, cond, ◌||◌, List, [], ◌∷◌, length, get_or, take, refl, sym, ap, ◌∙◌, subst, arith, add-one}
use Rattle.std.specs.List.{list_any}
use Rattle.std.proofs.lemmas.Bool.{and_parts, and_from}
use Rattle.lang_core.specs.Places.{Place, place_of, same_place}
use Rattle.lang_core.proofs.ReadLemmas.{place_is, place_same}
use Rattle.dependency_index.specs.Reads.{is_kind, is_at, read_place}
use Rattle.dependency_index.specs.Rows.{labels_by, spare_by}
use Rattle.dependency_index.specs.declared.reads.ReadAt.{ReadAt}
use Rattle.dependency_index.specs.declared.reads.ReadKind.{ReadKind}
use Rattle.dependency_index.specs.declared.reads.ReadKind.TheVariants.{Key, Scan}
use Rattle.dependency_index.specs.declared.rows.ReadRows.{ReadRows}
use Rattle.std.proofs.Math.Bool.{or-false, or-true, or_assoc}
use Rattle.key_labels.proofs.ListLemmas.{either_by}

any_more : {X : Type 0} (p : X → Bool) (xs : List X) (i : ℕ) (d : X) → i < length xs → list_any p (take (suc i) xs) ≡ (list_any p (take i xs) || p (get_or xs i d))
any_more p [] i d lt = absurd (omega arith)
any_more p (x ∷ xs) zero d lt = or-false (p x)
any_more p (x ∷ xs) (suc i) d lt = ap (λ b. p x || b) (any_more p xs i d (omega arith)) ∙ sym (or_assoc (p x) (list_any p (take i xs)) (p (get_or xs i d)))

-- one more of a list passes a test, or one of those before it does
pub one_more : {X : Type 0} (p : X → Bool) (xs : List X) (i : ℕ) (x : X) → i < length xs → x ≡ get_or xs i x → list_any p (take (i + 1) xs) ≡ (list_any p (take i xs) || p x)
one_more p xs i x lt is = rw add-one (any_more p xs i x lt ∙ ap (λ y. list_any p (take i xs) || p y) (sym is))

pub reads_of_one_more : (kind : ReadKind) (t k : List ℕ) (rs : List ReadAt) (i : ℕ) (r : ReadAt) → i < length rs → r ≡ get_or rs i r
    → list_any (is_at kind t k) (take (i + 1) rs) ≡ (list_any (is_at kind t k) (take i rs) || is_at kind t k r)
reads_of_one_more kind t k = one_more (is_at kind t k)

any_at : {X : Type 0} (p : X → Bool) (xs : List X) (i : ℕ) (x : X) → i < length xs → x ≡ get_or xs i x → p x ≡ true → list_any p xs ≡ true
any_at p [] i x lt is h = absurd (omega arith)
any_at p (y ∷ ys) zero x lt is h = let here : p y ≡ true = ap p (sym is) ∙ h in rw here refl
any_at p (y ∷ ys) (suc i) x lt is h = let more = any_at p ys i x (omega arith) is h in rw more (or-true (p y))

kind_is : (a b : ReadKind) → is_kind a b ≡ true → b ≡ a
kind_is Key Key h = refl
kind_is Key Scan h = cc
kind_is Scan Key h = cc
kind_is Scan Scan h = refl

kind_same : (a : ReadKind) → is_kind a a ≡ true
kind_same Key = refl
kind_same Scan = refl

own_at : (r : ReadAt) → is_at r.kind r.table r.key r ≡ true
own_at r = and_from (is_kind r.kind r.kind) (same_place (read_place r) (place_of r.table r.key)) (kind_same r.kind) (place_same (read_place r) (read_place r) refl)

-- what is said of a read's row is said of the row that is asked for
at_row : (P : ReadKind → List ℕ → List ℕ → Type 0) (kind : ReadKind) (t k : List ℕ) (r : ReadAt) → is_at kind t k r ≡ true → P r.kind r.table r.key → P kind t k
at_row P kind t k r h p =
    let both = and_parts (is_kind kind r.kind) (same_place (read_place r) (place_of t k)) h in
    let place : read_place r ≡ place_of t k = place_is (read_place r) (place_of t k) both.1 in
    let Q : Place → Type 0 = λ q. P r.kind q.table q.key in
    let R : ReadKind → Type 0 = λ a. P a t k in
    subst R (kind_is kind r.kind both.0) (subst Q place p)

-- one more row is edited; an edit that is made twice is made once
module _ (edit : List ℕ → List ℕ) (twice : (l : List ℕ) → edit (edit l) ≡ edit l) where
  edit_by : (a b : Bool) (start before after : List ℕ) → before ≡ cond a (edit start) start → after ≡ cond b (edit before) before → after ≡ cond (a || b) (edit start) start
  edit_by true true start before after h g = g ∙ ap edit h ∙ twice start
  edit_by true false start before after h g = g ∙ h
  edit_by false true start before after h g = g ∙ ap edit h
  edit_by false false start before after h g = g ∙ h

  pub edit_more : {X : Type 0} (test : ReadKind → List ℕ → List ℕ → X → Bool) (start before after : ReadRows) (xs : List X) (i : ℕ) (x : X) → i < length xs → x ≡ get_or xs i x
      → ((kind : ReadKind) (t k : List ℕ) → labels_by before kind t k ≡ cond (list_any (test kind t k) (take i xs)) (edit (labels_by start kind t k)) (labels_by start kind t k))
      → ((kind : ReadKind) (t k : List ℕ) → labels_by after kind t k ≡ cond (test kind t k x) (edit (labels_by before kind t k)) (labels_by before kind t k))
      → (kind : ReadKind) (t k : List ℕ) → labels_by after kind t k ≡ cond (list_any (test kind t k) (take (i + 1) xs)) (edit (labels_by start kind t k)) (labels_by start kind t k)
  edit_more test start before after xs i x lt is each now kind t k =
      edit_by (list_any (test kind t k) (take i xs)) (test kind t k x) (labels_by start kind t k) (labels_by before kind t k) (labels_by after kind t k) (each kind t k) (now kind t k)
      ∙ ap (λ b. cond b (edit (labels_by start kind t k)) (labels_by start kind t k)) (sym (one_more (test kind t k) xs i x lt is))

  -- an edit of what is edited, or not yet
  pub edit_once : (a : Bool) (start before : List ℕ) → before ≡ cond a (edit start) start → edit before ≡ edit start
  edit_once true start before h = ap edit h ∙ twice start
  edit_once false start before h = ap edit h

-- places for one row more
pub spare_made : (n : ℕ) (before after : ReadRows) (rs : List ReadAt) (i : ℕ) (r : ReadAt) → i < length rs → r ≡ get_or rs i r
    → ((kind : ReadKind) (t k : List ℕ) → list_any (is_at kind t k) (take i rs) ≡ true → n ≤ spare_by before kind t k)
    → ((kind : ReadKind) (t k : List ℕ) → spare_by before kind t k ≤ spare_by after kind t k) → n ≤ spare_by after r.kind r.table r.key
    → (kind : ReadKind) (t k : List ℕ) → list_any (is_at kind t k) (take (i + 1) rs) ≡ true → n ≤ spare_by after kind t k
spare_made n before after rs i r lt is had more here kind t k h =
    either_by (n ≤ spare_by after kind t k) (list_any (is_at kind t k) (take i rs)) (is_at kind t k r) (sym (reads_of_one_more kind t k rs i r lt is) ∙ h)
    (λ e. let a = had kind t k e in let b = more kind t k in omega arith)
    (λ e. at_row (λ kind t k. n ≤ spare_by after kind t k) kind t k r e here)

-- the row of each read is among those of all
pub among : (rs : List ReadAt) (i : ℕ) (r : ReadAt) → i < length rs → r ≡ get_or rs i r → list_any (is_at r.kind r.table r.key) rs ≡ true
among rs i r lt is = any_at (is_at r.kind r.table r.key) rs i r lt is (own_at r)
