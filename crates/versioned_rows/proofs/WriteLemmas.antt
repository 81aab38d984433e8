-- What edits at each key of a place's writes come to.
use Rattle.std.proofs.Common.{◌≡◌, ℕ, zero, suc, ◌+◌, ◌<◌, ◌≤◌, subst, Bool, true, false, ◌||◌, cond, List, [], ◌∷◌, Option, Some, None, is_some, length, get_or, take, drop, map, refl, sym, ap, ◌∙◌, inl, inr, arith, add-one}
use Rattle.std.specs.declared.cmp.Ordering.TheVariants.{Less}
use Rattle.std.specs.Ordering.{is_eq}
use Rattle.std.specs.List.{find}
use Rattle.std.specs.Option.{option_map_or}
use Rattle.std.proofs.lemmas.Bool.{cases_Bool}
use Rattle.std.proofs.lemmas.List.{get_or_default, get_or-drop, get_or-map, get_or-take, length-drop, length-map, length-take}
use Rattle.lang_core.specs.Places.{Place, place_of, place_order, same_place, IsBelowAll, IsOrdered}
use Rattle.lang_core.specs.Rows.{write_place, written}
use Rattle.lang_core.specs.declared.writes.Write.{Write}
use Rattle.versioned_rows.specs.Places.{is_among, is_written}
use Rattle.key_labels.specs.Rows.{labels_in, spare_in, IsEdited}
use Rattle.key_labels.specs.declared.rows.KeyLabels.{KeyLabels}
use Rattle.key_labels.proofs.ListLemmas.{either_by}
use Rattle.lang_core.proofs.ReadLemmas.{place_is, place_same, same-order}
use Rattle.std.proofs.Math.Bool.{or-false, or-true, or_assoc}

below_at : (p : Place) (ws : List Write) (j : ℕ) (d : Write) → IsBelowAll write_place p ws → j < length ws → place_order p (write_place (get_or ws j d)) ≡ Less
below_at p [] j d all lt = absurd (omega arith)
below_at p (w ∷ ws) zero d all lt = all.0
below_at p (w ∷ ws) (suc j) d all lt = below_at p ws j d all.1 (omega arith)

order_at : (ws : List Write) (i j : ℕ) (d : Write) → IsOrdered write_place ws → i < j → j < length ws → place_order (write_place (get_or ws i d)) (write_place (get_or ws j d)) ≡ Less
order_at [] i j d o lt within = absurd (omega arith)
order_at (w ∷ ws) i zero d o lt within = absurd (omega arith)
order_at (w ∷ ws) zero (suc j) d o lt within = below_at (write_place w) ws j d o.0 (omega arith)
order_at (w ∷ ws) (suc i) (suc j) d o lt within = order_at ws i j d o.1 (omega arith) (omega arith)

-- no two writes are at one place
pub writes_apart : (ws : List Write) (i j : ℕ) (d : Write) → IsOrdered write_place ws → i < j → j < length ws → same_place (write_place (get_or ws i d)) (write_place (get_or ws j d)) ≡ false
writes_apart ws i j d o lt within = same-order (write_place (get_or ws i d)) (write_place (get_or ws j d)) ∙ ap is_eq (order_at ws i j d o lt within)

some_if : {X : Type 0} (b c : Bool) (x : X) (o : Option X) → is_some o ≡ c → is_some (cond b (Some x) o) ≡ (b || c)
some_if true c x o h = refl
some_if false c x o h = h

found_more : {X : Type 0} (p : X → Bool) (xs : List X) (i : ℕ) (d : X) → i < length xs → is_some (find p (take (suc i) xs)) ≡ (is_some (find p (take i xs)) || p (get_or xs i d))
found_more p [] i d lt = absurd (omega arith)
found_more p (x ∷ xs) zero d lt = some_if (p x) false x None refl ∙ or-false (p x)
found_more p (x ∷ xs) (suc i) d lt =
    some_if (p x) (is_some (find p (take i xs)) || p (get_or xs i d)) x (find p (take (suc i) xs)) (found_more p xs i d (omega arith))
    ∙ sym (or_assoc (p x) (is_some (find p (take i xs))) (p (get_or xs i d)))
    ∙ ap (λ b. b || p (get_or xs i d)) (sym (some_if (p x) (is_some (find p (take i xs))) x (find p (take i xs)) refl))

pub among_more : {X : Type 0} (place : X → Place) (t k : List ℕ) (xs : List X) (i : ℕ) (d : X) → i < length xs
    → is_among place t k (take (i + 1) xs) ≡ (is_among place t k (take i xs) || same_place (place (get_or xs i d)) (place_of t k))
among_more place t k xs i d lt = rw add-one (found_more (λ x. same_place (place x) (place_of t k)) xs i d lt)

none_in : {X : Type 0} (p : X → Bool) (xs : List X) (i : ℕ) → ((j : ℕ) (d : X) → j < i → j < length xs → p (get_or xs j d) ≡ false) → is_some (find p (take i xs)) ≡ false
none_in p [] zero h = refl
none_in p [] (suc i) h = refl
none_in p (x ∷ xs) zero h = refl
none_in p (x ∷ xs) (suc i) h = let here : p x ≡ false = h 0 x (omega arith) (omega arith) in rw here (none_in p xs i (λ j d a b. h (suc j) d (omega arith) (omega arith)))

-- the writes before one don't write its key
pub not_written : (ws : List Write) (i : ℕ) (w : Write) → IsOrdered write_place ws → i < length ws → w ≡ get_or ws i w → is_written w.table w.key (take i ws) ≡ false
not_written ws i w o lt is =
    none_in (λ v. same_place (write_place v) (write_place w)) ws i
    (λ j d below inside. ap (λ v. same_place (write_place (get_or ws j d)) (write_place v)) (is ∙ get_or_default ws i w d lt) ∙ writes_apart ws j i d o below lt)

found_at : {X : Type 0} (p : X → Bool) (xs : List X) (i : ℕ) (x : X) → i < length xs → x ≡ get_or xs i x → p x ≡ true → is_some (find p xs) ≡ true
found_at p [] i x lt is h = absurd (omega arith)
found_at p (y ∷ ys) zero x lt is h = let here : p y ≡ true = ap p (sym is) ∙ h in rw here refl
found_at p (y ∷ ys) (suc i) x lt is h = some_if (p y) true y (find p ys) (found_at p ys i x (omega arith) is h) ∙ or-true (p y)

-- these write the key of each of them
pub written_at : (ws : List Write) (i : ℕ) (w : Write) → i < length ws → w ≡ get_or ws i w → is_written w.table w.key ws ≡ true
written_at ws i w lt is = found_at (λ v. same_place (write_place v) (write_place w)) ws i w lt is (place_same (write_place w) (write_place w) refl)

-- one more key is edited
module _ (edit : List ℕ → List ℕ) (start before after : List KeyLabels) (ws : List Write) (i : ℕ) (w : Write) (o : IsOrdered write_place ws) (lt : i < length ws) (is : w ≡ get_or ws i w)
    (each : (t k : List ℕ) → labels_in before t k ≡ cond (is_written t k (take i ws)) (edit (labels_in start t k)) (labels_in start t k)) where
  pub unedited : labels_in before w.table w.key ≡ labels_in start w.table w.key
  unedited = each w.table w.key ∙ ap (λ b. cond b (edit (labels_in start w.table w.key)) (labels_in start w.table w.key)) (not_written ws i w o lt is)

  pub edit_more : IsEdited w.table w.key (edit (labels_in before w.table w.key)) before after
      → (t k : List ℕ) → labels_in after t k ≡ cond (is_written t k (take (i + 1) ws)) (edit (labels_in start t k)) (labels_in start t k)
  edit_more edited t k =
      let more : is_written t k (take (i + 1) ws) ≡ (is_written t k (take i ws) || same_place (write_place w) (place_of t k)) =
      among_more write_place t k ws i w lt ∙ ap (λ v. is_written t k (take i ws) || same_place (write_place v) (place_of t k)) (sym is) in
      edited t k ∙ elim (cases_Bool (same_place (write_place w) (place_of t k))) [
        | inl e ↦ (let p : write_place w ≡ place_of t k = place_is (write_place w) (place_of t k) e in
            let now : edit (labels_in before w.table w.key) ≡ edit (labels_in start t k) = ap edit (unedited ∙ ap (λ (q : Place). labels_in start q.table q.key) p) in
            rw (more, e, or-true (is_written t k (take i ws))) now)
        | inr differs ↦ (let b = each t k in rw (more, differs, or-false (is_written t k (take i ws))) b)
      ]

-- and places for labels: one less at each key that is written
module _ (start before after : List KeyLabels) (ws : List Write) (i : ℕ) (w : Write) (lt : i < length ws) (is : w ≡ get_or ws i w) where
  same_more : (t k : List ℕ) → is_written t k (take (i + 1) ws) ≡ (is_written t k (take i ws) || same_place (write_place w) (place_of t k))
  same_more t k = among_more write_place t k ws i w lt ∙ ap (λ v. is_written t k (take i ws) || same_place (write_place v) (place_of t k)) (sym is)

  -- where a key is written at most once
  less_by : (a b : Bool) (x y z : ℕ) → x ≤ y + cond a 1 0 → y ≤ z + cond b 1 0 → (b ≡ true → a ≡ false) → x ≤ z + cond (a || b) 1 0
  less_by true true x y z h g f = let no = f refl in cc
  less_by true false x y z h g f = omega arith
  less_by false true x y z h g f = omega arith
  less_by false false x y z h g f = omega arith

  pub spare_less : IsOrdered write_place ws → ((t k : List ℕ) → spare_in start t k ≤ spare_in before t k + cond (is_written t k (take i ws)) 1 0)
      → ((t k : List ℕ) → spare_in before t k ≤ spare_in after t k + cond (same_place (write_place w) (place_of t k)) 1 0)
      → (t k : List ℕ) → spare_in start t k ≤ spare_in after t k + cond (is_written t k (take (i + 1) ws)) 1 0
  spare_less o left now t k =
      let less = less_by (is_written t k (take i ws)) (same_place (write_place w) (place_of t k)) (spare_in start t k) (spare_in before t k) (spare_in after t k) (left t k) (now t k)
      (λ e. let p : write_place w ≡ place_of t k = place_is (write_place w) (place_of t k) e in
      ap (λ (q : Place). is_written q.table q.key (take i ws)) (sym p) ∙ not_written ws i w o lt is) in
      let P : Bool → Type 0 = λ c. spare_in start t k ≤ spare_in after t k + cond c 1 0 in
      subst P (sym (same_more t k)) less

  -- a key that was promised a place, and isn't written yet, has it
  pub spare_left : IsOrdered write_place ws → ((t k : List ℕ) → is_written t k ws ≡ true → 0 < spare_in start t k)
      → ((t k : List ℕ) → spare_in start t k ≤ spare_in before t k + cond (is_written t k (take i ws)) 1 0) → 0 < spare_in before w.table w.key
  spare_left o promised left =
      let here = promised w.table w.key (written_at ws i w lt is) in
      let rest = left w.table w.key in
      let none = not_written ws i w o lt is in
      let P : Bool → Type 0 = λ c. spare_in start w.table w.key ≤ spare_in before w.table w.key + cond c 1 0 in
      let more : spare_in start w.table w.key ≤ spare_in before w.table w.key + 0 = subst P none rest in
      omega arith

-- what holds at the keys of the first of these, and at that of the next one
module _ {X : Type 0} (place : X → Place) (xs : List X) (i : ℕ) (x : X) (lt : i < length xs) (is : x ≡ get_or xs i x) where
  with_next : (t k : List ℕ) → is_among place t k (take (i + 1) xs) ≡ (is_among place t k (take i xs) || same_place (place x) (place_of t k))
  with_next t k = among_more place t k xs i x lt ∙ ap (λ y. is_among place t k (take i xs) || same_place (place y) (place_of t k)) (sym is)

  pub keys_more : (P : Place → Type 0) → ((t k : List ℕ) → is_among place t k (take i xs) ≡ true → P (place_of t k)) → P (place x)
      → (t k : List ℕ) → is_among place t k (take (i + 1) xs) ≡ true → P (place_of t k)
  keys_more P had here t k h =
      either_by (P (place_of t k)) (is_among place t k (take i xs)) (same_place (place x) (place_of t k)) (sym (with_next t k) ∙ h)
      (had t k) (λ e. subst P (place_is (place x) (place_of t k) e) here)

abbrev or_else : {X : Type 0} → Option X → Option X → Option X
or_else None o = o
or_else (Some x) o = Some x

next_if : {X : Type 0} (b : Bool) (x : X) (o q : Option X) → cond b (Some x) (or_else o q) ≡ or_else (cond b (Some x) o) q
next_if true x o q = refl
next_if false x o q = refl

find_next : {X : Type 0} (p : X → Bool) (xs : List X) (i : ℕ) (d : X) → i < length xs → find p (take (suc i) xs) ≡ or_else (find p (take i xs)) (cond (p (get_or xs i d)) (Some (get_or xs i d)) None)
find_next p [] i d lt = absurd (omega (arith, lt))
find_next p (x ∷ xs) zero d lt = refl
find_next p (x ∷ xs) (suc i) d lt =
    ap (λ o. cond (p x) (Some x) o) (find_next p xs i d (omega (arith, lt))) ∙ next_if (p x) x (find p (take i xs)) (cond (p (get_or xs i d)) (Some (get_or xs i d)) None)

nothing_else : {X : Type 0} (o q : Option X) → is_some o ≡ false → or_else o q ≡ q
nothing_else None q h = refl
nothing_else (Some x) q h = cc

none_more : {X : Type 0} (o : Option X) → or_else o None ≡ o
none_more None = refl
none_more (Some x) = refl

-- one more write sets the text at its key
pub text_more : (ws : List Write) (i : ℕ) (w : Write) (t k : List ℕ) (start before after text : Option (List ℕ)) → IsOrdered write_place ws → i < length ws → w ≡ get_or ws i w → text ≡ w.text
    → before ≡ written (take i ws) t k start → after ≡ cond (same_place (write_place w) (place_of t k)) text before → after ≡ written (take (i + 1) ws) t k start
text_more ws i w t k start before after text o lt is text_is first second =
    let p = λ (v : Write). same_place (write_place v) (place_of t k) in
    let more : find p (take (suc i) ws) ≡ or_else (find p (take i ws)) (cond (p w) (Some w) None) =
    find_next p ws i w lt ∙ ap (λ (v : Write). or_else (find p (take i ws)) (cond (p v) (Some v) None)) (sym is) in
    rw add-one (elim (cases_Bool (same_place (write_place w) (place_of t k))) [
      | inl e ↦ (let at : write_place w ≡ place_of t k = place_is (write_place w) (place_of t k) e in
          let none : is_some (find p (take i ws)) ≡ false = ap (λ (q : Place). is_some (find (λ (v : Write). same_place (write_place v) q) (take i ws))) (sym at) ∙ not_written ws i w o lt is in
          second ∙ ap (λ b. cond b text before) e ∙ text_is
          ∙ sym (ap (λ f. option_map_or (λ (v : Write). v.text) f start) (more ∙ nothing_else (find p (take i ws)) (cond (p w) (Some w) None) none ∙ ap (λ b. cond b (Some w) None) e)))
      | inr e ↦ (second ∙ ap (λ b. cond b text before) e ∙ first
          ∙ sym (ap (λ f. option_map_or (λ (v : Write). v.text) f start) (more ∙ ap (λ b. or_else (find p (take i ws)) (cond b (Some w) None)) e ∙ none_more (find p (take i ws)))))
    ])

-- the text of a write stands first among those that are left
pub text_first : (ws : List Write) (texts : List (Option (List ℕ))) (i : ℕ) (w : Write) → i < length ws → w ≡ get_or ws i w → take (length ws) texts ≡ map (λ (v : Write). v.text) ws
    → (0 < length (drop i texts)) × ((d : Option (List ℕ)) → get_or (drop i texts) 0 d ≡ w.text)
text_first ws texts i w lt is are =
    let long = ap length are ∙ length-map ws (λ (v : Write). v.text) in
    let least = length-take (length ws) texts in
    let left = length-drop i texts in
    let at : i + 0 ≡ i = omega arith in (
      omega (arith, long, least, left, lt),
      λ d.
          get_or-drop i texts 0 d ∙ ap (λ n. get_or texts n d) at ∙ sym (get_or-take (length ws) texts i d lt) ∙ ap (λ l. get_or l i d) are
          ∙ get_or-map (λ (v : Write). v.text) ws i w d lt ∙ ap (λ (v : Write). v.text) (sym is),
    )
