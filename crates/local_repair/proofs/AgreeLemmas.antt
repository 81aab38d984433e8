-- Reads that look at no cell of what is written at a place, before and after a change of it, find what they found.
use Rattle.std.proofs.Common.{◌≡◌, ℕ, Bool, true, false, cond, not, ◌&&◌, ◌||◌, List, [], ◌∷◌, Option, Some, None, option_map, fold, refl, sym, ap, ◌∙◌, subst, inl, inr}
use Rattle.std.specs.List.{filter, find, list_any}
use Rattle.std.specs.declared.cmp.Ordering.TheVariants.{Less}
use Rattle.std.proofs.lemmas.Bool.{cases_Bool, and_parts}
use Rattle.std.proofs.lemmas.List.Folds.{list_any-append}
use Rattle.lang_base.specs.Equal.{equal}
use Rattle.lang_base.specs.Texts.{same_text, begins_with}
use Rattle.lang_base.proofs.EqualLemmas.{equal-true}
use Rattle.lang_core.specs.Places.{Place, place_of, same_place, IsBelowAll, IsOrdered}
use Rattle.lang_core.specs.Rows.{after_write, apply, cell_place, get, is_beneath, kept_from, scan, with_text, write_place}
use Rattle.lang_core.specs.contracts.writes.Write as write
use Rattle.lang_core.specs.declared.cells.Cell.{Cell}
use Rattle.lang_core.specs.declared.writes.Write.{Write}
use Rattle.lang_core.proofs.ReadLemmas.{find-set_in, find-unset_in, other_place, place_is, place_same}
use Rattle.lang_core.proofs.RowLemmas.{ordered-apply, ordered-filter, ordered-text}
use Rattle.log_index.proofs.HandedOn.{same_ordered}
use Rattle.log_index.specs.HandedOn.{ReadAt}
use Rattle.log_index.specs.Marks.{changes, is_among, lacking, looks_at, sees}

-- the cell at a place
abbrev pub at : Place → List Cell → Option Cell
at z cells = find (λ c. same_place (cell_place c) z) cells

or_parts : (a b : Bool) → (a || b) ≡ false → (a ≡ false) × (b ≡ false)
or_parts true b h = let no : true ≡ false = h in cc
or_parts false b h = (refl, h)

-- ---- the same write leaves rows alike

with_same : (t k : List ℕ) (o : Option (List ℕ)) (z : Place) (a b : List Cell) → IsOrdered cell_place a → IsOrdered cell_place b → at z a ≡ at z b → at z (with_text t k o a) ≡ at z (with_text t k o b)
with_same t k None z a b p q e =
    find-unset_in cell_place z (place_of t k) a p ∙ ap (cond (same_place (place_of t k) z) None) e ∙ sym (find-unset_in cell_place z (place_of t k) b q)
with_same t k (Some x) z a b p q e =
    let c : Cell = record { table = t; key = k; text = x } in
    find-set_in cell_place z c a ∙ ap (cond (same_place (place_of t k) z) (Some c)) e ∙ sym (find-set_in cell_place z c b)

apply_same : (z : Place) (ws : List Write) (a b : List Cell) → IsOrdered cell_place a → IsOrdered cell_place b → at z a ≡ at z b → at z (apply a ws) ≡ at z (apply b ws)
apply_same z [] a b p q e = e
apply_same z (w ∷ ws) a b p q e =
    apply_same z ws (after_write a w) (after_write b w) (ordered-text w.table w.key w.text a p) (ordered-text w.table w.key w.text b q) (with_same w.table w.key w.text z a b p q e)

rows_same : (z : Place) (back : List (List Write)) (a b : List Cell) → IsOrdered cell_place a → IsOrdered cell_place b → at z a ≡ at z b → at z (fold apply a back) ≡ at z (fold apply b back)
rows_same z [] a b p q e = e
rows_same z (ws ∷ back) a b p q e = rows_same z back (apply a ws) (apply b ws) (ordered-apply a ws p) (ordered-apply b ws q) (apply_same z ws a b p q e)

pub ordered_rows : (back : List (List Write)) (a : List Cell) → IsOrdered cell_place a → IsOrdered cell_place (fold apply a back)
ordered_rows [] a p = p
ordered_rows (ws ∷ back) a p = ordered_rows back (apply a ws) (ordered-apply a ws p)

-- ---- writes of other places leave a place

abbrev pub is_written : Place → List Write → Bool
is_written z ws = list_any (λ w. same_place (write_place w) z) ws

abbrev write_at : Place → List Write → Option Write
write_at z ws = find (λ w. same_place (write_place w) z) ws

with_other : (t k : List ℕ) (o : Option (List ℕ)) (z : Place) (a : List Cell) → IsOrdered cell_place a → same_place (place_of t k) z ≡ false → at z (with_text t k o a) ≡ at z a
with_other t k None z a p e = find-unset_in cell_place z (place_of t k) a p ∙ ap (λ b. cond b None (at z a)) e
with_other t k (Some x) z a p e =
    let c : Cell = record { table = t; key = k; text = x } in
    find-set_in cell_place z c a ∙ ap (λ b. cond b (Some c) (at z a)) e

apply_other : (z : Place) (ws : List Write) (a : List Cell) → IsOrdered cell_place a → is_written z ws ≡ false → at z (apply a ws) ≡ at z a
apply_other z [] a p e = refl
apply_other z (w ∷ ws) a p e =
    let parts = or_parts (same_place (write_place w) z) (is_written z ws) e in
    apply_other z ws (after_write a w) (ordered-text w.table w.key w.text a p) parts.1 ∙ with_other w.table w.key w.text z a p parts.0

same_turned : (p q : Place) → same_place p q ≡ false → same_place q p ≡ false
same_turned p q e = elim (cases_Bool (same_place q p)) [
  | inl f ↦ (let no = sym e ∙ place_same p q (sym (place_is q p f)) in cc)
  | inr f ↦ f
]

none_at : (z : Place) (ws : List Write) → is_written z ws ≡ false → write_at z ws ≡ None
none_at z [] e = refl
none_at z (w ∷ ws) e =
    let parts = or_parts (same_place (write_place w) z) (is_written z ws) e in
    ap (λ b. cond b (Some w) (write_at z ws)) parts.0 ∙ none_at z ws parts.1

-- ---- a write leaves at its place what it says

abbrev cell_of : List ℕ → List ℕ → List ℕ → Cell
cell_of t k x = record { table = t; key = k; text = x }

-- what stands where this was written, if something was, and this stood before
abbrev left_by : Option Write → Option Cell → Option Cell
left_by None o = o
left_by (Some w) o = option_map (cell_of w.table w.key) w.text

-- nothing more is written at a place
once : (w : Write) (z : Place) (ws : List Write) → IsBelowAll write_place (write_place w) ws → same_place (write_place w) z ≡ true → is_written z ws ≡ false
once w z [] all same = refl
once w z (v ∷ vs) all same =
    let P : Place → Type 0 = λ p. same_place p (write_place v) ≡ false in
    let here = same_turned z (write_place v) (subst P (place_is (write_place w) z same) (other_place (write_place w) (write_place v) Less all.0 refl)) in
    ap (λ b. b || is_written z vs) here ∙ once w z vs all.1 same

with_this : (t k : List ℕ) (o : Option (List ℕ)) (z : Place) (a : List Cell) → IsOrdered cell_place a → same_place (place_of t k) z ≡ true
    → at z (with_text t k o a) ≡ option_map (cell_of t k) o
with_this t k None z a p e = find-unset_in cell_place z (place_of t k) a p ∙ ap (λ b. cond b None (at z a)) e
with_this t k (Some x) z a p e =
    let c : Cell = record { table = t; key = k; text = x } in
    find-set_in cell_place z c a ∙ ap (λ b. cond b (Some c) (at z a)) e

apply_by : (z : Place) (w : Write) (ws : List Write) (a : List Cell) (b : Bool) → same_place (write_place w) z ≡ b → IsOrdered cell_place a → IsOrdered write_place (w ∷ ws)
    → at z (apply (after_write a w) ws) ≡ left_by (write_at z ws) (at z (after_write a w)) → at z (apply (after_write a w) ws) ≡ left_by (cond b (Some w) (write_at z ws)) (at z a)
apply_by z w ws a true e p q more =
    apply_other z ws (after_write a w) (ordered-text w.table w.key w.text a p) (once w z ws q.0 e) ∙ with_this w.table w.key w.text z a p e
apply_by z w ws a false e p q more = more ∙ ap (left_by (write_at z ws)) (with_other w.table w.key w.text z a p e)

apply_left : (z : Place) (ws : List Write) (a : List Cell) → IsOrdered cell_place a → IsOrdered write_place ws → at z (apply a ws) ≡ left_by (write_at z ws) (at z a)
apply_left z [] a p q = refl
apply_left z (w ∷ ws) a p q =
    apply_by z w ws a (same_place (write_place w) z) refl p q (apply_left z ws (after_write a w) (ordered-text w.table w.key w.text a p) q.1)

-- ---- rows are alike where neither list of writes has a write that the other hasn't

among_by : (z : Place) (x y : Write) (ys : List Write) (b c : Bool) → same_place (write_place y) z ≡ b → equal write.the_row.coded x y ≡ c → IsOrdered write_place (y ∷ ys)
    → same_place (write_place x) z ≡ true → (c || is_among ys x) ≡ true → (is_among ys x ≡ true → write_at z ys ≡ Some x) → cond b (Some y) (write_at z ys) ≡ Some x
among_by z x y ys true true e f q here among more = ap Some (sym (equal-true write.the_row.coded x y f))
among_by z x y ys true false e f q here among more = let no = sym (none_at z ys (once y z ys q.0 e)) ∙ more among in cc
among_by z x y ys false true e f q here among more =
    let no = sym e ∙ ap (λ (v : Write). same_place (write_place v) z) (sym (equal-true write.the_row.coded x y f)) ∙ here in cc
among_by z x y ys false false e f q here among more = more among

among_at : (z : Place) (x : Write) (ys : List Write) → IsOrdered write_place ys → same_place (write_place x) z ≡ true → is_among ys x ≡ true → write_at z ys ≡ Some x
among_at z x [] q here among = let no : false ≡ true = among in cc
among_at z x (y ∷ ys) q here among =
    among_by z x y ys (same_place (write_place y) z) (equal write.the_row.coded x y) refl refl q here among (among_at z x ys q.1 here)

common_by : (z : Place) (x : Write) (xs ys : List Write) (w : Write) (b c : Bool) → same_place (write_place x) z ≡ b → is_among ys x ≡ c → IsOrdered write_place ys
    → is_written z (cond (not c) (x ∷ lacking ys xs) (lacking ys xs)) ≡ false → cond b (Some x) (write_at z xs) ≡ Some w
    → (is_written z (lacking ys xs) ≡ false → write_at z xs ≡ Some w → write_at z ys ≡ Some w) → write_at z ys ≡ Some w
common_by z x xs ys w true true e f q bare found more = among_at z x ys q e f ∙ found
common_by z x xs ys w true false e f q bare found more = let no = sym e ∙ (or_parts (same_place (write_place x) z) (is_written z (lacking ys xs)) bare).0 in cc
common_by z x xs ys w false true e f q bare found more = more bare found
common_by z x xs ys w false false e f q bare found more = more (or_parts (same_place (write_place x) z) (is_written z (lacking ys xs)) bare).1 found

-- what one list writes at a place, the other writes too
common : (z : Place) (xs ys : List Write) (w : Write) → IsOrdered write_place ys → is_written z (lacking ys xs) ≡ false → write_at z xs ≡ Some w → write_at z ys ≡ Some w
common z [] ys w q bare found = cc
common z (x ∷ xs) ys w q bare found =
    common_by z x xs ys w (same_place (write_place x) z) (is_among ys x) refl refl q bare found (common z xs ys w q)

alike_by : (old new : Option Write) → ((w : Write) → old ≡ Some w → new ≡ Some w) → ((w : Write) → new ≡ Some w → old ≡ Some w) → old ≡ new
alike_by (Some w) new f g = sym (f w refl)
alike_by None (Some w) f g = g w refl
alike_by None None f g = refl

-- the rows after the one or after the other of two lists of writes are alike but where these write
abbrev pub AlikeBut : List Write → List Write → List Write → Type 0
AlikeBut changed old new =
    (rows : List Cell) → IsOrdered cell_place rows → (z : Place) → is_written z changed ≡ false → at z (apply rows old) ≡ at z (apply rows new)

pub alike_but_changes : (old new : List Write) → IsOrdered write_place old → IsOrdered write_place new → AlikeBut (changes old new) old new
alike_but_changes old new p q = λ rows ordered z bare.
    let parts = or_parts (is_written z (lacking new old)) (is_written z (lacking old new)) (sym (list_any-append (λ w. same_place (write_place w) z) (lacking new old) (lacking old new)) ∙ bare) in
    let same = alike_by (write_at z old) (write_at z new) (λ w. common z old new w q parts.0) (λ w. common z new old w p parts.1) in
    apply_left z old rows ordered p ∙ ap (λ o. left_by o (at z rows)) same ∙ sym (apply_left z new rows ordered q)

-- where nothing was written, all of it is new
pub alike_but_all : (new : List Write) → AlikeBut new [] new
alike_but_all new = λ rows ordered z bare. sym (apply_other z new rows ordered bare)

module _ (rows : List Cell) (ordered : IsOrdered cell_place rows) (old new changed : List Write) (alike : AlikeBut changed old new) (back : List (List Write)) where
  abbrev before : List Cell
  before = fold apply (apply rows old) back

  abbrev after : List Cell
  after = fold apply (apply rows new) back

  pub place_same_after : (z : Place) → is_written z changed ≡ false → at z before ≡ at z after
  place_same_after z bare =
      rows_same z back (apply rows old) (apply rows new) (ordered-apply rows old ordered) (ordered-apply rows new ordered) (alike rows ordered z bare)

  pub get_same : (t k : List ℕ) → is_written (place_of t k) changed ≡ false → get before t k ≡ get after t k
  get_same t k bare = ap (option_map (λ (c : Cell). c.text)) (place_same_after (place_of t k) bare)

-- ---- a scan finds the same where the rows are alike under its prefix

kept_by : (p q : Cell → Bool) (c : Cell) (cs : List Cell) (b d : Bool) → p c ≡ b → q c ≡ d → (d ≡ true → b ≡ true) → find q (filter p cs) ≡ find q cs
    → find q (cond b (c ∷ filter p cs) (filter p cs)) ≡ cond d (Some c) (find q cs)
kept_by p q c cs true true e f h more = rw f refl
kept_by p q c cs true false e f h more = rw f more
kept_by p q c cs false true e f h more = let no : false ≡ true = h refl in cc
kept_by p q c cs false false e f h more = more

kept_find : (p q : Cell → Bool) → ((c : Cell) → q c ≡ true → p c ≡ true) → (cs : List Cell) → find q (filter p cs) ≡ find q cs
kept_find p q h [] = refl
kept_find p q h (c ∷ cs) = kept_by p q c cs (p c) (q c) refl refl (h c) (kept_find p q h cs)

lost_by : (p q : Cell → Bool) (c : Cell) (cs : List Cell) (b d : Bool) → p c ≡ b → q c ≡ d → (d ≡ true → b ≡ false) → find q (filter p cs) ≡ None
    → find q (cond b (c ∷ filter p cs) (filter p cs)) ≡ None
lost_by p q c cs true true e f h more = let no : true ≡ false = h refl in cc
lost_by p q c cs true false e f h more = rw f more
lost_by p q c cs false d e f h more = more

lost_find : (p q : Cell → Bool) → ((c : Cell) → q c ≡ true → p c ≡ false) → (cs : List Cell) → find q (filter p cs) ≡ None
lost_find p q h [] = refl
lost_find p q h (c ∷ cs) = lost_by p q c cs (p c) (q c) refl refl (h c) (lost_find p q h cs)

abbrev is_place_beneath : List ℕ → List ℕ → Place → Bool
is_place_beneath t prefix z = same_text z.table t && begins_with prefix z.key

pub scan_same : (t prefix : List ℕ) (a b : List Cell) → IsOrdered cell_place a → IsOrdered cell_place b
    → ((z : Place) → is_place_beneath t prefix z ≡ true → at z a ≡ at z b) → scan a t prefix ≡ scan b t prefix
scan_same t prefix a b p q same =
    let test : Cell → Bool = is_beneath t prefix in
    let beneath : (z : Place) (c : Cell) → same_place (cell_place c) z ≡ true → test c ≡ is_place_beneath t prefix z =
    λ z c e. ap (is_place_beneath t prefix) (place_is (cell_place c) z e) in
    ap (kept_from 0 0) (same_ordered cell_place (filter test a) (filter test b) (ordered-filter test a p) (ordered-filter test b q)
    (λ z. elim (cases_Bool (is_place_beneath t prefix z)) [
      | inl e ↦ kept_find test (λ c. same_place (cell_place c) z) (λ c f. beneath z c f ∙ e) a ∙ same z e ∙ sym (kept_find test (λ c. same_place (cell_place c) z) (λ c f. beneath z c f ∙ e) b)
      | inr e ↦ lost_find test (λ c. same_place (cell_place c) z) (λ c f. beneath z c f ∙ e) a ∙ sym (lost_find test (λ c. same_place (cell_place c) z) (λ c f. beneath z c f ∙ e) b)
    ]))

-- ---- what isn't looked at isn't written

pub key_not_written : (z : Place) (ws : List Write) → list_any (λ (w : Write). same_place z (write_place w) || false) ws ≡ false → is_written z ws ≡ false
key_not_written z [] e = refl
key_not_written z (w ∷ ws) e =
    let parts = or_parts (same_place z (write_place w) || false) (list_any (λ (v : Write). same_place z (write_place v) || false) ws) e in
    let here = same_turned z (write_place w) (or_parts (same_place z (write_place w)) false parts.0).0 in
    ap (λ b. b || is_written z ws) here ∙ key_not_written z ws parts.1

scan_passes : (t prefix : List ℕ) (z : Place) (w : Write) → is_place_beneath t prefix z ≡ true → same_place (write_place w) z ≡ true → (same_text t w.table && begins_with prefix w.key) ≡ true
scan_passes t prefix z w under same =
    let parts = and_parts (same_text z.table t) (begins_with prefix z.key) under in
    let is = place_is (write_place w) z same in
    let texts : same_text t z.table ≡ true = (and_parts (same_text t z.table) (same_text [] []) (place_same (place_of t []) (place_of z.table []) (ap (λ x. place_of x []) (sym (tables z.table t parts.0))))).0 in
    ap (λ (q : Place). same_text t q.table && begins_with prefix q.key) is ∙ ap (λ b. b && begins_with prefix z.key) texts ∙ parts.1
  where
    tables : (x y : List ℕ) → same_text x y ≡ true → x ≡ y
    tables x y e = ap (λ (p : Place). p.table) (place_is (place_of x []) (place_of y []) (ap (λ b. b && same_text [] []) e))

pub scan_not_written : (t prefix : List ℕ) (z : Place) (ws : List Write) → is_place_beneath t prefix z ≡ true → list_any (λ (w : Write). same_text t w.table && begins_with prefix w.key) ws ≡ false → is_written z ws ≡ false
scan_not_written t prefix z [] under e = refl
scan_not_written t prefix z (w ∷ ws) under e =
    let parts = or_parts (same_text t w.table && begins_with prefix w.key) (list_any (λ (v : Write). same_text t v.table && begins_with prefix v.key) ws) e in
    elim (cases_Bool (same_place (write_place w) z)) [
      | inl f ↦ (let no = sym parts.0 ∙ scan_passes t prefix z w under f in cc)
      | inr f ↦ ap (λ b. b || is_written z ws) f ∙ scan_not_written t prefix z ws under parts.1
    ]

-- ---- one read among those that see nothing

pub sees_parts : (ws : List Write) (r : ReadAt) (rs : List ReadAt) → sees ws (r ∷ rs) ≡ false → (list_any (λ (w : Write). looks_at w.table w.key r) ws ≡ false) × (sees ws rs ≡ false)
sees_parts [] r rs e = (refl, refl)
sees_parts (w ∷ ws) r rs e =
    let own = looks_at w.table w.key r in
    let parts = or_parts (own || list_any (looks_at w.table w.key) rs) (sees ws (r ∷ rs)) e in
    let here = or_parts own (list_any (looks_at w.table w.key) rs) parts.0 in
    let more = sees_parts ws r rs parts.1 in
    (ap (λ b. b || list_any (λ (v : Write). looks_at v.table v.key r) ws) here.0 ∙ more.0, ap (λ b. b || sees ws rs) here.1 ∙ more.1)
