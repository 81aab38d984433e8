-- What it comes to that a place is set where one of the same label stands.
use Rattle.std.proofs.Common.{◌≡◌, ℕ, zero, suc, ◌<◌, Bool, true, false, not, cond, List, [], ◌∷◌, Option, Some, is_some, nat_eq, length, get_or, set, map, position, subst, refl, sym, ap, ◌∙◌, arith, eq-eqb}
use Rattle.std.specs.List.{filter, find, AllByRecursion}
use Rattle.std.proofs.lemmas.Bool.{lt-ltb, le-ltb, ne_eqb}
use Rattle.std.proofs.lemmas.List.{get_or-map, get_or_default, length-map}
use Rattle.lang_core.specs.Places.{place_of, same_place, IsOrdered}
use Rattle.lang_core.specs.Rows.{write_place}
use Rattle.lang_core.specs.declared.writes.Write.{Write}
use Rattle.place_order.specs.Labels.{place_in}
use Rattle.place_order.specs.Rising.{IsBeforeAll, IsRising, is_before}
use Rattle.versioned_rows.specs.Places.{label_of, keys_of, is_written, writers, without, with_place}
use Rattle.key_labels.specs.Labels.{IsApart}
use Rattle.versioned_rows.specs.Versions.{IsIndexed}
use Rattle.key_labels.specs.declared.rows.KeyLabels.{KeyLabels}
use Rattle.versioned_rows.specs.declared.places.PlaceWrites.{PlaceWrites}
use Rattle.key_labels.proofs.ApartLemmas.{position_is}
use Rattle.versioned_rows.proofs.IndexLemmas.{labels_at}
use Rattle.key_labels.proofs.RisingLemmas.{each_later}

keys_length : (xs ys : List Write) → keys_of xs ≡ keys_of ys → length xs ≡ length ys
keys_length xs ys same = sym (length-map xs write_place) ∙ ap length same ∙ length-map ys write_place

-- one of equal keys
pub key_at : (xs ys : List Write) (n : ℕ) (x y : Write) → n < length xs → x ≡ get_or xs n x → y ≡ get_or ys n y
    → keys_of xs ≡ keys_of ys → write_place x ≡ write_place y
key_at xs ys n x y within is is' same =
    let long = keys_length xs ys same in
    ap write_place is ∙ sym (get_or-map write_place xs n x (write_place x) within)
    ∙ ap (λ l. get_or l n (write_place x)) same
    ∙ get_or-map write_place ys n y (write_place x) (omega arith) ∙ ap write_place (sym is')

some_if : {X Y : Type 0} (b : Bool) (x : X) (y : Y) (o : Option X) (e : Option Y) → is_some o ≡ is_some e → is_some (cond b (Some x) o) ≡ is_some (cond b (Some y) e)
some_if true x y o e h = refl
some_if false x y o e h = h

written_by : (t k : List ℕ) (ws : List Write) → is_written t k ws ≡ is_some (find (λ p. same_place p (place_of t k)) (keys_of ws))
written_by t k [] = refl
written_by t k (w ∷ ws) = some_if (same_place (write_place w) (place_of t k)) w (write_place w) (find (λ x. same_place (write_place x) (place_of t k)) ws)
    (find (λ p. same_place p (place_of t k)) (keys_of ws)) (written_by t k ws)

-- equal keys are written alike
written_alike : (t k : List ℕ) (xs ys : List Write) → keys_of xs ≡ keys_of ys → is_written t k xs ≡ is_written t k ys
written_alike t k xs ys same = written_by t k xs ∙ ap (λ l. is_some (find (λ p. same_place p (place_of t k)) l)) same ∙ sym (written_by t k ys)

-- behind a label all are others, and none stands before it
all_behind : (order : List ℕ) (n : ℕ) (ps : List PlaceWrites) → IsBeforeAll order n (map label_of ps)
    → (without n ps ≡ ps) × (filter (λ q. is_before order (Some n) (label_of q)) ps ≡ []) × (filter (λ q. not (is_before order (Some n) (label_of q))) ps ≡ ps)
all_behind order n [] all = (refl, refl, refl)
all_behind order n (p ∷ ps) all =
    let here = all.0 in
    let other : nat_eq (label_of p) n ≡ false = ne_eqb (label_of p) n (λ e. let same = ap (place_in order) e in omega arith) in
    let later : is_before order (Some n) (label_of p) ≡ false = le-ltb (place_in order (label_of p)) (place_in order n) (omega arith) in
    let more = all_behind order n ps all.1 in
    (rw other (ap (λ l. p ∷ l) more.0), rw later more.1, rw later (ap (λ l. p ∷ l) more.2))

-- a place that is set where one of its label stands is put in instead of it
set_instead : (order : List ℕ) (p : PlaceWrites) (ps : List PlaceWrites) (at : ℕ) → IsRising order (map label_of ps) → at < length ps → label_of (get_or ps at p) ≡ label_of p
    → set ps at p ≡ with_place order p (without (label_of p) ps)
set_instead order p [] at rising lt here = absurd (omega arith)
set_instead order p (q ∷ qs) zero rising lt here =
    let same : nat_eq (label_of q) (label_of p) ≡ true = eq-eqb (label_of q) (label_of p) here in
    let P : ℕ → Type 0 = λ n. IsBeforeAll order n (map label_of qs) in
    let rest = all_behind order (label_of p) qs (subst P here rising.1) in
    rw (same, rest.0, rest.1, rest.2) refl
set_instead order p (q ∷ qs) (suc at) rising lt here =
    let within : at < length qs = omega arith in
    let earlier : place_in order (label_of q) < place_in order (label_of p) =
    (let long = length-map qs label_of in
    let ahead = each_later order (label_of q) (map label_of qs) at rising.1 (omega arith) in
    let is = ap (place_in order) (get_or-map label_of qs at p 0 within ∙ here) in
    omega arith) in
    let other : nat_eq (label_of q) (label_of p) ≡ false = ne_eqb (label_of q) (label_of p) (λ e. let same = ap (place_in order) e in omega arith) in
    let before : is_before order (Some (label_of p)) (label_of q) ≡ true = lt-ltb (place_in order (label_of q)) (place_in order (label_of p)) earlier in
    rw (other, before) (ap (λ l. q ∷ l) (set_instead order p qs at rising.2 within here))

-- the labels stay
set_labels : (p : PlaceWrites) (ps : List PlaceWrites) (at : ℕ) → label_of (get_or ps at p) ≡ label_of p → map label_of (set ps at p) ≡ map label_of ps
set_labels p [] at here = refl
set_labels p (q ∷ qs) zero here = ap (λ n. n ∷ map label_of qs) (sym here)
set_labels p (q ∷ qs) (suc at) here = ap (λ l. label_of q ∷ l) (set_labels p qs at here)

all_set : {X : Type 0} (P : X → Type 0) (x : X) (xs : List X) (at : ℕ) → P x → AllByRecursion P xs → AllByRecursion P (set xs at x)
all_set P x [] at here all = tt
all_set P x (y ∷ ys) zero here all = (here, all.1)
all_set P x (y ∷ ys) (suc at) here all = (all.0, all_set P x ys at here all.1)

written_if : (b c : Bool) (p q : PlaceWrites) (ps qs : List PlaceWrites) → b ≡ c → label_of p ≡ label_of q → map label_of ps ≡ map label_of qs
    → map label_of (cond b (p ∷ ps) ps) ≡ map label_of (cond c (q ∷ qs) qs)
written_if b true p q ps qs e here more = rw e (λ i. here i ∷ more i)
written_if b false p q ps qs e here more = rw e more

-- and so do the writers, where the same keys are written
set_writers : (t k : List ℕ) (p : PlaceWrites) (ps : List PlaceWrites) (at : ℕ) → label_of (get_or ps at p) ≡ label_of p → keys_of (get_or ps at p).writes ≡ keys_of p.writes
    → writers t k (set ps at p) ≡ writers t k ps
set_writers t k p [] at here keys = refl
set_writers t k p (q ∷ qs) zero here keys =
    written_if (is_written t k p.writes) (is_written t k q.writes) p q (filter (λ p. is_written t k p.writes) qs) (filter (λ p. is_written t k p.writes) qs)
    (sym (written_alike t k q.writes p.writes keys)) (sym here) refl
set_writers t k p (q ∷ qs) (suc at) here keys =
    written_if (is_written t k q.writes) (is_written t k q.writes) q q (filter (λ p. is_written t k p.writes) (set qs at p)) (filter (λ p. is_written t k p.writes) qs)
    refl refl (set_writers t k p qs at here keys)

set_indexed : (p : PlaceWrites) (ps : List PlaceWrites) (at : ℕ) (rows : List KeyLabels) → label_of (get_or ps at p) ≡ label_of p → keys_of (get_or ps at p).writes ≡ keys_of p.writes
    → IsOrdered write_place p.writes → IsIndexed ps rows → IsIndexed (set ps at p) rows
set_indexed p ps at rows here keys writes was =
    let P : List ℕ → Type 0 = λ l. IsApart l in
    record {
      apart = subst P (sym (set_labels p ps at here)) was.apart;
      writes = all_set (λ (p : PlaceWrites). IsOrdered write_place p.writes) p ps at writes was.writes;
      ordered = was.ordered;
      each = λ t k. was.each t k ∙ sym (set_writers t k p ps at here keys);
    }

-- the place of a label that was found
module _ (p : PlaceWrites) (ps : List PlaceWrites) (at : ℕ) (found : position (λ q. nat_eq (label_of q) (label_of p)) ps ≡ Some at) where
  within : at < length ps
  within = (position_is (λ q. nat_eq (label_of q) (label_of p)) ps at found).1

  named : label_of (get_or ps at p) ≡ label_of p
  named =
      let pos = position_is (λ q. nat_eq (label_of q) (label_of p)) ps at found in
      let old = get_or ps at p in
      let Q : ℕ → Type 0 = λ n. n < length ps in
      let R : ℕ → Type 0 = λ n. old ≡ get_or ps n old in
      labels_at (label_of p) ps old (subst Q pos.0 pos.1) (subst R pos.0 (get_or_default ps at p old pos.1))

  pub instead : (order : List ℕ) → IsRising order (map label_of ps) → set ps at p ≡ with_place order p (without (label_of p) ps)
  instead order rising = set_instead order p ps at rising within named

  pub instead_rising : (order : List ℕ) → IsRising order (map label_of ps) → IsRising order (map label_of (set ps at p))
  instead_rising order rising = let P : List ℕ → Type 0 = λ l. IsRising order l in subst P (sym (set_labels p ps at named)) rising

  pub instead_indexed : (rows : List KeyLabels) → keys_of (get_or ps at p).writes ≡ keys_of p.writes → IsOrdered write_place p.writes → IsIndexed ps rows → IsIndexed (set ps at p) rows
  instead_indexed rows keys writes was = set_indexed p ps at rows named keys writes was
