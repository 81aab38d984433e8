-- What an insertion and a replacement make of places in the order of their labels.
use Rattle.std.proofs.Common.{◌≡◌, ℕ, zero, suc, ◌<◌, ◌≤◌, List, [], ◌∷◌, ◌++◌, Option, Some, None, length, get_or, take, drop, map, set, refl, sym, ap, ◌∙◌, subst, inl, inr, arith}
use Rattle.std.specs.List.{insert, Contains}
use Rattle.std.specs.Option.{ForSome}
use Rattle.std.proofs.lemmas.Bool.{cases_lt, lt-ltb, le-ltb}
use Rattle.std.proofs.lemmas.List.{take-append-drop, take-map, drop-map, map-append, map-set, length-map, set_split}
use Rattle.std.proofs.Math.Seq.{map-set_same, drop-cons}
use Rattle.lang_core.specs.declared.writes.Write.{Write}
use Rattle.place_order.specs.Labels.{place_in, IsNew}
use Rattle.place_order.specs.Rising.{IsRising}
use Rattle.versioned_rows.specs.Places.{label_of, without, with_place}
use Rattle.versioned_rows.specs.declared.places.PlaceWrites.{PlaceWrites}
use Rattle.dependency_index.proofs.HandedOn.{known_at}
use Rattle.log_index.specs.Rows.{writes_of, label_at, call_before, call_at, place_before, IsApart, IsPlaced}
use Rattle.log_index.proofs.LabelLemmas.{rising_self, apart_drop, apart_insert, place_at}
use Rattle.log_index.proofs.PlaceLemmas.{put_new, put_same}

pub map_insert : {X Y : Type 0} (f : X → Y) (xs : List X) (at : ℕ) (x : X) → map f (insert xs at x) ≡ insert (map f xs) at (f x)
map_insert f xs at x = map-append f (take at xs) (x ∷ drop at xs)
    ∙ ap (λ l. l ++ f x ∷ map f (drop at xs)) (sym (take-map f at xs))
    ∙ ap (λ l. take at (map f xs) ++ f x ∷ l) (sym (drop-map f at xs))

-- ---- labels by places

label_there : (ps : List PlaceWrites) (place : ℕ) → place < length ps → label_at place ps ≡ Some (get_or (map label_of ps) place 0)
label_there [] place lt = absurd (omega arith)
label_there (p ∷ ps) zero lt = refl
label_there (p ∷ ps) (suc place) lt = label_there ps place (omega arith)

no_label : (ps : List PlaceWrites) (place : ℕ) → length ps ≤ place → label_at place ps ≡ None
no_label [] place le = refl
no_label (p ∷ ps) zero le = absurd (omega arith)
no_label (p ∷ ps) (suc place) le = no_label ps place (omega arith)

-- the call that makes a label at a place
pub call_is : (ps : List PlaceWrites) (place : ℕ) → call_before (label_at place ps) ≡ call_at place (length (writes_of ps))
call_is ps place =
    let n = length-map ps (λ (p : PlaceWrites). p.writes) in
    elim (cases_lt place (length ps)) [
      | inl lt ↦ (let e = lt-ltb place (length (writes_of ps)) (omega arith) in rw (label_there ps place lt, e) refl)
      | inr ge ↦ (let e = le-ltb place (length (writes_of ps)) (omega arith) in rw (no_label ps place ge, e) refl)
    ]

module _ (labels : List ℕ) (ps : List PlaceWrites) (placed : IsPlaced labels ps) where
  pub as_many : length labels ≡ length ps
  as_many = sym (ap length placed.same) ∙ length-map ps label_of

  -- the label at a place is one of the order
  pub known_label : (place : ℕ) (label : Option ℕ) → label ≡ label_at place ps → ForSome label (Contains labels)
  known_label place label at = λ x is.
      elim (cases_lt place (length ps)) [
        | inl lt ↦ (let here : Some (get_or (map label_of ps) place 0) ≡ Some x = sym (label_there ps place lt) ∙ sym at ∙ is in
            let same : get_or (map label_of ps) place 0 ≡ x = cc in
            subst (Contains labels) same (known_at labels (map label_of ps) place placed.rising (let n = length-map ps label_of in omega arith)))
        | inr ge ↦ (let none : None ≡ Some x = sym (no_label ps place ge) ∙ sym at ∙ is in cc)
      ]

  -- a label before it comes to stand at its place
  pub place_is : (place : ℕ) → place ≤ length ps → place_before (label_at place ps) labels ≡ place
  place_is place le =
      elim (cases_lt place (length ps)) [
        | inl lt ↦ (let n = as_many in
            ap (λ o. place_before o labels) (label_there ps place lt) ∙ ap (λ l. place_in labels (get_or l place 0)) placed.same ∙ place_at labels place placed.apart (omega arith))
        | inr ge ↦ (let n = as_many in ap (λ o. place_before o labels) (no_label ps place ge) ∙ omega arith)
      ]

  -- ---- one more

  module _ (place made : ℕ) (writes : List Write) (new : IsNew made labels) where
    abbrev one : PlaceWrites
    one = record { label = made; writes = writes }

    labels_more : map label_of (insert ps place one) ≡ insert labels place made
    labels_more = map_insert label_of ps place one ∙ ap (λ l. insert l place made) placed.same

    apart_more : IsPlaced (insert labels place made) (insert ps place one)
    apart_more =
        let apart = apart_insert labels place made new placed.apart in
        let P : List ℕ → Type 0 = λ l. IsRising (insert labels place made) l in
        record { same = labels_more; apart = apart; rising = subst P (sym labels_more) (rising_self (insert labels place made) apart) }

    put_more : with_place (insert labels place made) one (without made ps) ≡ insert ps place one
    put_more = ap (λ l. with_place (insert labels place made) one (without made l)) (sym (take-append-drop place ps))
        ∙ put_new (insert labels place made) (take place ps) (drop place ps) one apart_more.rising

    pub inserted_writes : (after : List ℕ) (made_of : List PlaceWrites) → after ≡ insert labels place made → made_of ≡ with_place after one (without made ps)
        → writes_of made_of ≡ insert (writes_of ps) place writes
    inserted_writes after made_of is of =
        ap writes_of (of ∙ ap (λ l. with_place l one (without made ps)) is ∙ put_more) ∙ map_insert (λ (p : PlaceWrites). p.writes) ps place one

    pub inserted_placed : (after : List ℕ) (made_of : List PlaceWrites) → after ≡ insert labels place made → made_of ≡ with_place after one (without made ps)
        → IsPlaced after made_of
    inserted_placed after made_of is of =
        let P : List PlaceWrites → Type 0 = λ l. IsPlaced after l in
        let Q : List ℕ → Type 0 = λ l. IsPlaced l (insert ps place one) in
        subst P (sym (of ∙ ap (λ l. with_place l one (without made ps)) is ∙ put_more)) (subst Q (sym is) apart_more)

  -- ---- one in place of another

  module _ (place : ℕ) (old : PlaceWrites) (writes : List Write) (lt : place < length ps) (there : old ≡ get_or ps place old) where
    abbrev other : PlaceWrites
    other = record { label = old.label; writes = writes }

    split : ps ≡ take place ps ++ old ∷ drop (suc place) ps
    split = sym (take-append-drop place ps) ∙ ap (λ l. take place ps ++ l) (drop-cons ps place old lt) ∙ ap (λ p. take place ps ++ p ∷ drop (suc place) ps) (sym there)

    put_other : with_place labels other (without old.label ps) ≡ set ps place other
    put_other =
        let P : List PlaceWrites → Type 0 = λ l. IsRising labels (map label_of l) in
        ap (λ l. with_place labels other (without old.label l)) split
        ∙ put_same labels (take place ps) (drop (suc place) ps) old (subst P split placed.rising) other refl
        ∙ sym (set_split ps place other lt)

    labels_same : map label_of (set ps place other) ≡ map label_of ps
    labels_same = map-set_same label_of ps place other old (ap label_of there)

    pub replaced_writes : (made_of : List PlaceWrites) → made_of ≡ with_place labels other (without old.label ps) → writes_of made_of ≡ set (writes_of ps) place writes
    replaced_writes made_of of = ap writes_of (of ∙ put_other) ∙ map-set (λ (p : PlaceWrites). p.writes) ps place other

    pub replaced_placed : (made_of : List PlaceWrites) → made_of ≡ with_place labels other (without old.label ps) → IsPlaced labels made_of
    replaced_placed made_of of =
        let same : map label_of made_of ≡ map label_of ps = ap (map label_of) (of ∙ put_other) ∙ labels_same in
        let P : List ℕ → Type 0 = λ l. IsRising labels l in
        record { same = same ∙ placed.same; apart = placed.apart; rising = subst P (sym same) placed.rising }

  -- ---- without so many of the first

  pub fewer_placed : (n : ℕ) (order : List ℕ) (left : List PlaceWrites) → order ≡ drop n labels → left ≡ drop n ps → IsPlaced order left
  fewer_placed n order left is of =
      let same : map label_of left ≡ order = ap (map label_of) of ∙ sym (drop-map label_of n ps) ∙ ap (drop n) placed.same ∙ sym is in
      let A : List ℕ → Type 0 = λ l. IsApart l in
      let apart : IsApart order = subst A (sym is) (apart_drop n labels placed.apart) in
      let P : List ℕ → Type 0 = λ l. IsRising order l in
      record { same = same; apart = apart; rising = subst P (sym same) (rising_self order apart) }
