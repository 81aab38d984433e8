-- Where a created entry goes among all entries: the place that is told behind the folded ones.
use Rattle.std.proofs.Common.{◌≡◌, ℕ, suc, ◌+◌, ◌<◌, Bool, true, false, cond, List, [], ◌∷◌, ◌++◌, Option, Some, None, find, is_some, length, map, max, nat_eq, nat_lt, option_map, position, unwrap_or, refl, sym, ap, ◌∙◌, subst, arith}
use Rattle.std.specs.List.{position_or_len}
use Rattle.std.proofs.lemmas.Bool.{le-ltb, lt-ltb, ltb-false, ltb-true}
use Rattle.request_log.specs.Entries.{has_id}
use Rattle.request_log.specs.Folded.{as_entry, has_number, whole}
use Rattle.request_log.specs.declared.entry.Entry.{Entry}
use Rattle.request_log.specs.declared.folded.Folded.{Folded}
use Rattle.create_placement.specs.Placement.{behind_or, known_place, names_folded, place_among, place_behind, place_between}
use Rattle.service_parts.proofs.WholeLemmas.{many_in_all}

-- where a number is that is given: among the folded ones, nowhere, or behind them
abbrev WhereItIs : Bool → Option ℕ → Option ℕ → ℕ → Type 0
WhereItIs true inner outer h = (k : ℕ) × (outer ≡ Some k) × (k < h)
WhereItIs false None outer h = outer ≡ None
WhereItIs false (Some k) outer h = outer ≡ Some (h + k)

later_by : (b : Bool) (k n : ℕ) → nat_lt k n ≡ b → cond (nat_lt (1 + k) (suc n)) (Some (1 + k)) None ≡ option_map suc (cond b (Some k) None)
later_by true k n below =
    let less = ltb-true k n below in
    let inside : nat_lt (1 + k) (suc n) ≡ true = lt-ltb (1 + k) (suc n) (omega (arith, less)) in
    rw inside (ap Some (let same : 1 + k ≡ suc k = omega arith in same))
later_by false k n beyond =
    let least = ltb-false k n beyond in
    let outside : nat_lt (1 + k) (suc n) ≡ false = le-ltb (1 + k) (suc n) (omega (arith, least)) in
    rw outside refl

later : (p : Entry → Bool) (x : Entry) (xs : List Entry) → p x ≡ false → position p (x ∷ xs) ≡ option_map suc (position p xs)
later p x xs other = rw other (later_by (nat_lt (position_or_len p xs) (length xs)) (position_or_len p xs) (length xs) refl)

first : (p : Entry → Bool) (x : Entry) (xs : List Entry) → p x ≡ true → position p (x ∷ xs) ≡ Some 0
first p x xs is =
    let inside : nat_lt 0 (suc (length xs)) ≡ true = lt-ltb 0 (suc (length xs)) (omega arith) in
    rw (is, inside) refl

one_later : (past : Bool) (inner outer : Option ℕ) (h : ℕ) → WhereItIs past inner outer h → WhereItIs past inner (option_map suc outer) (suc h)
one_later true inner outer h at = (suc at.0, ap (option_map suc) at.1, (let less = at.2 in omega (arith, less)))
one_later false None outer h at = ap (option_map suc) at
one_later false (Some k) outer h at = ap (option_map suc) at ∙ ap Some (let same : suc (h + k) ≡ suc h + k = omega arith in same)

at_front : (inner : Option ℕ) → WhereItIs false inner inner 0
at_front None = refl
at_front (Some k) = ap Some (let same : k ≡ 0 + k = omega arith in same)

where_first : (b : Bool) (id : ℕ) (f : Folded) (fs : List Folded) (es : List Entry) → nat_eq f.id id ≡ b
    → WhereItIs (is_some (find (has_number id) fs)) (position (has_id id) es) (position (has_id id) (map as_entry fs ++ es)) (length fs)
    → WhereItIs (is_some (cond b (Some f) (find (has_number id) fs))) (position (has_id id) es) (position (has_id id) (as_entry f ∷ (map as_entry fs ++ es))) (suc (length fs))
where_first true id f fs es is rest = (0, first (has_id id) (as_entry f) (map as_entry fs ++ es) is, omega arith)
where_first false id f fs es other rest =
    let past = is_some (find (has_number id) fs) in
    let inner = position (has_id id) es in
    let W : Option ℕ → Type 0 = λ outer. WhereItIs past inner outer (suc (length fs)) in
    subst W (sym (later (has_id id) (as_entry f) (map as_entry fs ++ es) other))
    (one_later past inner (position (has_id id) (map as_entry fs ++ es)) (length fs) rest)

where_it_is : (id : ℕ) (fs : List Folded) (es : List Entry) → WhereItIs (is_some (find (has_number id) fs)) (position (has_id id) es) (position (has_id id) (map as_entry fs ++ es)) (length fs)
where_it_is id [] es = at_front (position (has_id id) es)
where_it_is id (f ∷ fs) es = where_first (nat_eq f.id id) id f fs es refl (where_it_is id fs es)

given : (id : Option ℕ) (fs : List Folded) (es : List Entry) → WhereItIs (names_folded id fs) (known_place id es) (known_place id (whole fs es)) (length fs)
given None fs es = refl
given (Some id) fs es = where_it_is id fs es

behind : (past : Bool) (inner outer : Option ℕ) (h n end : ℕ) → end ≡ h + n → WhereItIs past inner outer h → h + cond past 0 (behind_or inner n) ≡ max h (behind_or outer end)
behind true inner outer h n end whole at = (let less = at.2 in rw at.1 (omega (arith, less)))
behind false None outer h n end whole at = rw at (omega (arith, whole))
behind false (Some k) outer h n end whole at = rw at (omega arith)

before : (past : Bool) (inner outer : Option ℕ) (h rest all : ℕ) → h + rest ≡ max h all → WhereItIs past inner outer h → h + cond past 0 (unwrap_or inner rest) ≡ max h (unwrap_or outer all)
before true inner outer h rest all same at = (let less = at.2 in rw at.1 (omega (arith, less)))
before false None outer h rest all same at = rw at same
before false (Some k) outer h rest all same at = rw at (omega arith)

-- behind the folded entries, it is the place among all that is at least their number
pub place_behind_all : (first second : Option ℕ) (fs : List Folded) (es : List Entry)
    → length fs + place_among first second fs es ≡ max (length fs) (place_between first second (whole fs es))
place_behind_all first second fs es =
    before (names_folded first fs) (known_place first es) (known_place first (whole fs es)) (length fs) (place_behind second fs es) (behind_or (known_place second (whole fs es)) (length (whole fs es)))
    (behind (names_folded second fs) (known_place second es) (known_place second (whole fs es)) (length fs) (length es) (length (whole fs es)) (many_in_all fs es) (given second fs es))
    (given first fs es)
