-- Places of calls where an entry changes or comes.
use Rattle.std.proofs.Common.{◌≡◌, ℕ, suc, ◌+◌, Bool, true, false, cond, List, [], ◌∷◌, ◌++◌, Option, Some, None, map, take, drop, insert, find, nat_eq, slice_set, refl, sym, ap, ◌∙◌, subst, inl, inr, arith, append_assoc, take-append-drop, eq-eqb, ne_eqb}
use Rattle.std.proofs.lemmas.Bool.{cases_Bool, both_ways}
use Rattle.std.proofs.lemmas.List.{map-append}
use Rattle.std.specs.List.{position_or_len}
use Rattle.request_log.specs.Entries.{has_id, IsDistinct, with_entry}
use Rattle.request_log.specs.declared.entry.Entry.{Entry}
use Rattle.call_registers.specs.declared.register.Register.{Register}
use Rattle.service_events.specs.Fits.{FitsPlaces, NumberedCalls, calls_of_entry}
use Rattle.service_events.proofs.RegisterLemmas.{some_is}
use Rattle.service_events.proofs.PlaceLemmas.{no_place, rearrange, drawn, laid, with_none}

-- ---- an entry among others

-- one that was found stands between others
pub record Stands (es : List Entry) (e : Entry) : Type 0 where
  pub before : List Entry
  pub rest : List Entry
  pub is : es ≡ before ++ e ∷ rest

pub found_stands : (p : Entry → Bool) (es : List Entry) (e : Entry) → find p es ≡ Some e → Stands es e
found_stands p [] e h = cc
found_stands p (x ∷ xs) e h = elim (cases_Bool (p x)) [
  | inl is ↦ (let same : x ≡ e = some_is x e (rw is at h) in record { before = []; rest = xs; is = (λ i. same i ∷ xs) })
  | inr differs ↦ (let later = found_stands p xs e (rw differs at h) in
      record { before = x ∷ later.before; rest = later.rest; is = ap (λ ys. x ∷ ys) later.is })
]

none_first : (b : Bool) (x : Entry) (o : Option Entry) → cond b (Some x) o ≡ None → (b ≡ false) × (o ≡ None)
none_first true x o e = cc
none_first false x o e = (refl, e)

other_id : (k : ℕ) (xs : List Entry) (e : Entry) (ys : List Entry) → find (has_id k) (xs ++ e ∷ ys) ≡ None → nat_eq e.id k ≡ false
other_id k [] e ys h = (none_first (nat_eq e.id k) e (find (has_id k) ys) h).0
other_id k (x ∷ xs) e ys h = other_id k xs e ys (none_first (nat_eq x.id k) x (find (has_id k) (xs ++ e ∷ ys)) h).1

pub set_later : (x y : Entry) (zs : List Entry) (k : ℕ) → slice_set (x ∷ zs) (1 + k) y ≡ x ∷ slice_set zs k y
set_later x y zs k = (let more : 1 + k ≡ suc k = omega arith in ap (λ n. slice_set (x ∷ zs) n y) more)

-- another one with its number takes its place
pub with_entry_at : (xs : List Entry) (e f : Entry) (ys : List Entry) → f.id ≡ e.id → IsDistinct (xs ++ e ∷ ys)
    → with_entry f (xs ++ e ∷ ys) ≡ xs ++ f ∷ ys
with_entry_at [] e f ys id h = (let is : nat_eq e.id f.id ≡ true = eq-eqb e.id f.id (sym id) in rw is refl)
with_entry_at (x ∷ xs) e f ys id h =
    let other : nat_eq e.id x.id ≡ false = other_id x.id xs e ys h.0.id in
    let differs : nat_eq x.id f.id ≡ false = ne_eqb x.id f.id (λ same. both_ways (nat_eq e.id x.id) other (eq-eqb e.id x.id (sym id ∙ sym same))) in
    one_on differs ∙ ap (λ zs. x ∷ zs) (with_entry_at xs e f ys id h.1)
  where
    one_on : nat_eq x.id f.id ≡ false → with_entry f (x ∷ (xs ++ e ∷ ys)) ≡ x ∷ with_entry f (xs ++ e ∷ ys)
    one_on d = rw d (set_later x f (xs ++ e ∷ ys) (position_or_len (has_id f.id) (xs ++ e ∷ ys)))

-- ---- its place

among : (xs : List Entry) (e : Entry) (ys : List Entry) (ps : List NumberedCalls)
    → map calls_of_entry (xs ++ e ∷ ys) ++ ps ≡ map calls_of_entry xs ++ calls_of_entry e ∷ (map calls_of_entry ys ++ ps)
among xs e ys ps =
    ap (λ zs. zs ++ ps) (map-append calls_of_entry xs (e ∷ ys)) ∙ append_assoc (map calls_of_entry xs) (calls_of_entry e ∷ map calls_of_entry ys) ps

-- the places of the others
abbrev pub others : List Entry → List Entry → List NumberedCalls → List NumberedCalls
others xs ys ps = map calls_of_entry xs ++ (map calls_of_entry ys ++ ps)

pub entry_to_head : (rs : List Register) (xs : List Entry) (e : Entry) (ys : List Entry) (ps : List NumberedCalls)
    → FitsPlaces rs (map calls_of_entry (xs ++ e ∷ ys) ++ ps) → FitsPlaces rs (calls_of_entry e ∷ others xs ys ps)
entry_to_head rs xs e ys ps h =
    let P : List NumberedCalls → Type 0 = λ zs. FitsPlaces rs zs in
    let back = map calls_of_entry ys ++ ps in
    rearrange rs (map calls_of_entry xs ++ calls_of_entry e ∷ back) (calls_of_entry e ∷ (map calls_of_entry xs ++ back)) (drawn (map calls_of_entry xs) (calls_of_entry e) back)
    (subst P (among xs e ys ps) h)

pub entry_from_head : (rs : List Register) (xs : List Entry) (e : Entry) (ys : List Entry) (ps : List NumberedCalls)
    → FitsPlaces rs (calls_of_entry e ∷ others xs ys ps) → FitsPlaces rs (map calls_of_entry (xs ++ e ∷ ys) ++ ps)
entry_from_head rs xs e ys ps h =
    let P : List NumberedCalls → Type 0 = λ zs. FitsPlaces rs zs in
    let back = map calls_of_entry ys ++ ps in
    subst P (sym (among xs e ys ps))
    (rearrange rs (calls_of_entry e ∷ (map calls_of_entry xs ++ back)) (map calls_of_entry xs ++ calls_of_entry e ∷ back) (laid (map calls_of_entry xs) (calls_of_entry e) back) h)

-- an entry without calls comes
pub places_insert : (rs : List Register) (es : List Entry) (k : ℕ) (e : Entry) (ps : List NumberedCalls) → calls_of_entry e ≡ no_place
    → FitsPlaces rs (map calls_of_entry es ++ ps) → FitsPlaces rs (map calls_of_entry (insert es k e) ++ ps)
places_insert rs es k e ps none h =
    let xs = take k es in
    let ys = drop k es in
    let E : List Entry → Type 0 = λ zs. FitsPlaces rs (map calls_of_entry zs ++ ps) in
    let split : FitsPlaces rs (map calls_of_entry (xs ++ ys) ++ ps) = subst E (sym (take-append-drop k es)) h in
    let P : List NumberedCalls → Type 0 = λ zs. FitsPlaces rs zs in
    let apart : FitsPlaces rs (others xs ys ps) =
    subst P (ap (λ zs. zs ++ ps) (map-append calls_of_entry xs ys) ∙ append_assoc (map calls_of_entry xs) (map calls_of_entry ys) ps) split in
    let Q : NumberedCalls → Type 0 = λ p. FitsPlaces rs (p ∷ others xs ys ps) in
    entry_from_head rs xs e ys ps (subst Q (sym none) (with_none rs (others xs ys ps) apart))

-- an entry has another one with the same calls in its place
pub places_with : (rs : List Register) (es : List Entry) (e f : Entry) (ps : List NumberedCalls) → Stands es e → f.id ≡ e.id → calls_of_entry f ≡ calls_of_entry e
    → IsDistinct es → FitsPlaces rs (map calls_of_entry es ++ ps) → FitsPlaces rs (map calls_of_entry (with_entry f es) ++ ps)
places_with rs es e f ps st id same distinct h =
    let E : List Entry → Type 0 = λ zs. FitsPlaces rs (map calls_of_entry zs ++ ps) in
    let D : List Entry → Type 0 = λ zs. IsDistinct zs in
    let Q : NumberedCalls → Type 0 = λ p. FitsPlaces rs (p ∷ others st.before st.rest ps) in
    let new = entry_from_head rs st.before f st.rest ps (subst Q (sym same) (entry_to_head rs st.before e st.rest ps (subst E st.is h))) in
    subst E (sym (ap (with_entry f) st.is ∙ with_entry_at st.before e f st.rest id (subst D st.is distinct))) new

-- each entry is changed, but none's calls
pub places_map : (rs : List Register) (es : List Entry) (f : Entry → Entry) (ps : List NumberedCalls) → ((e : Entry) → calls_of_entry (f e) ≡ calls_of_entry e)
    → FitsPlaces rs (map calls_of_entry es ++ ps) → FitsPlaces rs (map calls_of_entry (map f es) ++ ps)
places_map rs es f ps same h = (let P : List NumberedCalls → Type 0 = λ zs. FitsPlaces rs (zs ++ ps) in subst P (sym (maps es)) h)
  where
    maps : (es : List Entry) → map calls_of_entry (map f es) ≡ map calls_of_entry es
    maps [] = refl
    maps (x ∷ xs) = let head = same x in let rest = maps xs in (λ i. head i ∷ rest i)
