-- What a dump keeps apart: a search finds the only one of a name, of a call or of a number.
use Rattle.std.proofs.Common.{◌≡◌, ◌⊎◌, inl, inr, ℕ, zero, suc, ◌<◌, Bool, true, false, cond, ◌||◌, ◌&&◌, List, [], ◌∷◌, ◌++◌, Option, Some, None, find, filter, slice_index_or, length, map, nat_eq, refl, sym, ap, ◌∙◌, subst, eqb-true, arith}
use Rattle.std.specs.List.{AllByRecursion, flat_map, list_any}
use Rattle.std.specs.Cmp.Lexicographic.{same_text as text_is}
use Rattle.std.proofs.lemmas.Bool.{and_parts}
use Rattle.std.proofs.lemmas.List.Folds.{list_any_at}
use Rattle.lang_base.specs.Texts.{same_text}
use Rattle.lang_core.specs.Origins.{is_call}
use Rattle.lang_core.specs.declared.ids.Origin.{Origin}
use Rattle.lang_core.specs.declared.ids.Origin.TheVariants.{Outside, Call}
use Rattle.dump_tables.specs.Found.{IsOneOf}
use Rattle.dump_tables.specs.Kept.{AreApart, call_behind, calls_behind, numbers_of, service_name}
use Rattle.dump_tables.specs.Indexed.{has_number}
use Rattle.dump_tables.specs.declared.dump.DumpEntry.{DumpEntry}
use Rattle.dump_tables.specs.declared.dump.DumpService.{DumpService}

-- a test holds of one of these at most
abbrev pub OfOne : {X : Type 0} → (X → Bool) → List X → Type 0
OfOne p [] = Unit {0}
OfOne p (x ∷ xs) = (p x ≡ true → list_any p xs ≡ false) × OfOne p xs

-- ---- what was found, where it can be but one

no_more : (b : Bool) → ¬ (b ≡ true) → b ≡ false
no_more true fails = absurd (fails refl)
no_more false fails = refl

-- the first of these is it, and no other; or it stands behind
record IsFirst {X : Type 0} (p : X → Bool) (x : X) (xs : List X) (found : X) : Type 0 where
  is : x ≡ found
  none : list_any p xs ≡ false

record IsBehind {X : Type 0} (p : X → Bool) (x : X) (xs : List X) (found : X) : Type 0 where
  passed : p x ≡ false
  later : IsOneOf p xs (Some found)

there_any : {X : Type 0} (p : X → Bool) (xs : List X) (found : X) → IsOneOf p xs (Some found) → list_any p xs ≡ true
there_any p xs found one = list_any_at p xs one.0.0 found one.0.1 (ap p one.0.2 ∙ one.1)

passed_by : {X : Type 0} (p : X → Bool) (x : X) (xs : List X) (found : X) → (p x ≡ true → list_any p xs ≡ false) → IsOneOf p xs (Some found) → p x ≡ false
passed_by p x xs found alone later = no_more (p x) (λ yes. let e : true ≡ false = sym (there_any p xs found later) ∙ alone yes in cc)

find_at : {X : Type 0} (p : X → Bool) (x : X) (xs : List X) (found : X) (k : ℕ) → (p x ≡ true → list_any p xs ≡ false) → k < length (x ∷ xs) → slice_index_or (x ∷ xs) k found ≡ found
    → p found ≡ true → IsFirst p x xs found ⊎ IsBehind p x xs found
find_at p x xs found zero alone lt is holds = inl (record { is = is; none = alone (ap p is ∙ holds) })
find_at p x xs found (suc k) alone lt is holds =
    let later : IsOneOf p xs (Some found) = ((k, omega (arith, lt), is), holds) in
    inr (record { passed = passed_by p x xs found alone later; later = later })

first_or_behind : {X : Type 0} (p : X → Bool) (x : X) (xs : List X) (found : X) → OfOne p (x ∷ xs) → IsOneOf p (x ∷ xs) (Some found) → IsFirst p x xs found ⊎ IsBehind p x xs found
first_or_behind p x xs found alone one = find_at p x xs found one.0.0 alone.0 one.0.1 one.0.2 one.1

no_one : {X : Type 0} (p : X → Bool) (xs : List X) (found : X) → IsOneOf p xs (Some found) → length xs ≡ 0 → ⊥
no_one p xs found one none = absurd (omega (arith, one.0.1, none))

none_before : (a b : Bool) → (a || b) ≡ false → (a ≡ false) × (b ≡ false)
none_before true b h = absurd cc
none_before false b h = (refl, h)

pub none_kept : {X : Type 0} (p : X → Bool) (xs : List X) → list_any p xs ≡ false → filter p xs ≡ []
none_kept p [] h = refl
none_kept p (x ∷ xs) h =
    let parts = none_before (p x) (list_any p xs) h in
    ap (λ (b : Bool). cond b (x ∷ filter p xs) (filter p xs)) parts.0 ∙ none_kept p xs parts.1

pub one_kept : {X : Type 0} (p : X → Bool) (xs : List X) (found : X) → OfOne p xs → IsOneOf p xs (Some found) → filter p xs ≡ found ∷ []
one_kept p [] found alone one = absurd (no_one p [] found one refl)
one_kept p (x ∷ xs) found alone one = elim (first_or_behind p x xs found alone one) [
  | inl first ↦ ap (λ (b : Bool). cond b (x ∷ filter p xs) (filter p xs)) (ap p first.is ∙ one.1) ∙ ap (λ rest. x ∷ rest) (none_kept p xs first.none) ∙ ap (λ y. y ∷ []) first.is
  | inr behind ↦ ap (λ (b : Bool). cond b (x ∷ filter p xs) (filter p xs)) behind.passed ∙ one_kept p xs found alone.1 behind.later
]

none_found : {X : Type 0} (p : X → Bool) (xs : List X) → list_any p xs ≡ false → find p xs ≡ None
none_found p [] h = refl
none_found p (x ∷ xs) h =
    let parts = none_before (p x) (list_any p xs) h in
    ap (λ (b : Bool). cond b (Some x) (find p xs)) parts.0 ∙ none_found p xs parts.1

some_found : {X : Type 0} (p : X → Bool) (xs : List X) (found : X) → OfOne p xs → IsOneOf p xs (Some found) → find p xs ≡ Some found
some_found p [] found alone one = absurd (no_one p [] found one refl)
some_found p (x ∷ xs) found alone one = elim (first_or_behind p x xs found alone one) [
  | inl first ↦ ap (λ (b : Bool). cond b (Some x) (find p xs)) (ap p first.is ∙ one.1) ∙ ap Some first.is
  | inr behind ↦ ap (λ (b : Bool). cond b (Some x) (find p xs)) behind.passed ∙ some_found p xs found alone.1 behind.later
]

pub is_found : {X : Type 0} (p : X → Bool) (xs : List X) (found : Option X) → OfOne p xs → IsOneOf p xs found → find p xs ≡ found
is_found p xs None alone none = none_found p xs none
is_found p xs (Some found) alone one = some_found p xs found alone one

no_by : (a b : Bool) → (b ≡ true → a ≡ true) → a ≡ false → b ≡ false
no_by a true so none = let e : true ≡ false = sym (so refl) ∙ none in absurd cc
no_by a false so none = refl

-- a test that holds of no other holds of one of these where it holds of that one
pub none_any : {X : Type 0} (p q : X → Bool) → ((x : X) → q x ≡ true → p x ≡ true) → (xs : List X) → list_any p xs ≡ false → list_any q xs ≡ false
none_any p q so [] h = refl
none_any p q so (x ∷ xs) h =
    let parts = none_before (p x) (list_any p xs) h in
    ap (λ (b : Bool). b || list_any q xs) (no_by (p x) (q x) (so x) parts.0) ∙ none_any p q so xs parts.1

or_none : (a b : Bool) → b ≡ false → (a || b) ≡ a
or_none true b h = refl
or_none false b h = h

pub one_any : {X : Type 0} (p q : X → Bool) → ((x : X) → q x ≡ true → p x ≡ true) → (xs : List X) (found : X) → OfOne p xs → IsOneOf p xs (Some found) → list_any q xs ≡ q found
one_any p q so [] found alone one = absurd (no_one p [] found one refl)
one_any p q so (x ∷ xs) found alone one = elim (first_or_behind p x xs found alone one) [
  | inl first ↦ or_none (q x) (list_any q xs) (none_any p q so xs first.none) ∙ ap q first.is
  | inr behind ↦ ap (λ (b : Bool). b || list_any q xs) (no_by (p x) (q x) (so x) behind.passed) ∙ one_any p q so xs found alone.1 behind.later
]

-- ---- names, calls and numbers

none_of : {X Y : Type 0} (p : X → Bool) (f : X → Y) (y : Y) → ((x : X) → p x ≡ true → f x ≡ y) → (xs : List X) → AllByRecursion (λ z. ¬ (y ≡ z)) (map f xs) → list_any p xs ≡ false
none_of p f y so [] others = refl
none_of p f y so (x ∷ xs) others =
    ap (λ (b : Bool). b || list_any p xs) (no_more (p x) (λ yes. others.0 (sym (so x yes)))) ∙ none_of p f y so xs others.1

of_one : {X Y : Type 0} (p : X → Bool) (f : X → Y) (y : Y) → ((x : X) → p x ≡ true → f x ≡ y) → (xs : List X) → AreApart (map f xs) → OfOne p xs
of_one p f y so [] apart = tt
of_one p f y so (x ∷ xs) apart =
    (λ yes. none_of p f y so xs (subst (λ z. AllByRecursion (λ w. ¬ (z ≡ w)) (map f xs)) (so x yes) apart.0), of_one p f y so xs apart.1)

same_is : (a b : List ℕ) → same_text a b ≡ true → a ≡ b
same_is a b h = text_is a b (sym h)

pub one_name : (name : List ℕ) (world : List DumpService) → AreApart (map service_name world) → OfOne (λ s. same_text s.setting.me name) world
one_name name world apart = of_one (λ s. same_text s.setting.me name) service_name name (λ s yes. same_is s.setting.me name yes) world apart

pub one_id : (id : ℕ) (entries : List DumpEntry) → AreApart (map (λ (e : DumpEntry). e.id) entries) → OfOne (λ (e : DumpEntry). nat_eq e.id id) entries
one_id id entries apart = of_one (λ (e : DumpEntry). nat_eq e.id id) (λ (e : DumpEntry). e.id) id (λ e yes. eqb-true e.id id yes) entries apart

-- the same, as an index asks it
pub one_end : (id : ℕ) (entries : List DumpEntry) → AreApart (map (λ (e : DumpEntry). e.id) entries) → OfOne (λ (e : DumpEntry). nat_eq id e.id) entries
one_end id entries apart = of_one (λ (e : DumpEntry). nat_eq id e.id) (λ (e : DumpEntry). e.id) id (λ e yes. sym (eqb-true id e.id yes)) entries apart

-- of things that have several names
all_left : {X : Type 0} (P : X → Type 0) (xs ys : List X) → AllByRecursion P (xs ++ ys) → AllByRecursion P xs
all_left P [] ys all = tt
all_left P (x ∷ xs) ys all = (all.0, all_left P xs ys all.1)

all_right : {X : Type 0} (P : X → Type 0) (xs ys : List X) → AllByRecursion P (xs ++ ys) → AllByRecursion P ys
all_right P [] ys all = all
all_right P (x ∷ xs) ys all = all_right P xs ys all.1

apart_right : {X : Type 0} (xs ys : List X) → AreApart (xs ++ ys) → AreApart ys
apart_right [] ys apart = apart
apart_right (x ∷ xs) ys apart = apart_right xs ys apart.1

-- a number that stands in the front stands nowhere behind
apart_over : {X : Type 0} (test : X → Bool) (y : X) → ((x : X) → test x ≡ true → x ≡ y) → (xs ys : List X) → AreApart (xs ++ ys) → list_any test xs ≡ true → AllByRecursion (λ z. ¬ (y ≡ z)) ys
apart_over test y so [] ys apart h = absurd cc
apart_over test y so (x ∷ xs) ys apart h = elim (either (test x) (list_any test xs) h) [
  | inl here ↦ all_right (λ z. ¬ (y ≡ z)) xs ys (subst (λ w. AllByRecursion (λ z. ¬ (w ≡ z)) (xs ++ ys)) (so x here) apart.0)
  | inr later ↦ apart_over test y so xs ys apart.1 later
]
  where
    either : (a b : Bool) → (a || b) ≡ true → (a ≡ true) ⊎ (b ≡ true)
    either true b h = inl refl
    either false b h = inr h

module _ {X Y : Type 0} (names : X → List Y) (test : Y → Bool) (y : Y) (so : (z : Y) → test z ≡ true → z ≡ y) where
  none_among : (ns : List Y) → AllByRecursion (λ z. ¬ (y ≡ z)) ns → list_any test ns ≡ false
  none_among [] others = refl
  none_among (n ∷ ns) others = ap (λ (b : Bool). b || list_any test ns) (no_more (test n) (λ yes. others.0 (sym (so n yes)))) ∙ none_among ns others.1

  none_named : (xs : List X) → AllByRecursion (λ z. ¬ (y ≡ z)) (flat_map names xs) → list_any (λ x. list_any test (names x)) xs ≡ false
  none_named [] others = refl
  none_named (x ∷ xs) others =
      ap (λ (b : Bool). b || list_any (λ x. list_any test (names x)) xs) (none_among (names x) (all_left (λ z. ¬ (y ≡ z)) (names x) (flat_map names xs) others))
      ∙ none_named xs (all_right (λ z. ¬ (y ≡ z)) (names x) (flat_map names xs) others)

  one_named : (xs : List X) → AreApart (flat_map names xs) → OfOne (λ x. list_any test (names x)) xs
  one_named [] apart = tt
  one_named (x ∷ xs) apart =
      (λ yes. none_named xs (apart_over test y so (names x) (flat_map names xs) apart yes), one_named xs (apart_right (names x) (flat_map names xs) apart))

pub one_number : (number : ℕ) (entries : List DumpEntry) → AreApart (numbers_of entries) → OfOne (has_number number) entries
one_number number entries apart = one_named (λ e. e.numbers) (nat_eq number) number (λ n yes. sym (eqb-true number n yes)) entries apart

-- this call is that one
abbrev is_same : List ℕ → ℕ → List ℕ × ℕ → Bool
is_same caller number call = same_text call.0 caller && nat_eq call.1 number

same_call : (caller : List ℕ) (number : ℕ) (call : List ℕ × ℕ) → is_same caller number call ≡ true → call ≡ (caller, number)
same_call caller number call holds =
    let parts = and_parts (same_text call.0 caller) (nat_eq call.1 number) holds in
    let one = same_is call.0 caller parts.0 in
    let two = eqb-true call.1 number parts.1 in
    λ i. (one i, two i)

or_false : (a : Bool) → (a || false) ≡ a
or_false true = refl
or_false false = refl

is_behind : (caller : List ℕ) (number : ℕ) (o : Origin) → list_any (is_same caller number) (call_behind o) ≡ is_call caller number o
is_behind caller number Outside = refl
is_behind caller number (Call c n) = or_false (same_text c caller && nat_eq n number)

one_alike : {X : Type 0} (p q : X → Bool) → ((x : X) → p x ≡ q x) → (xs : List X) → OfOne p xs → OfOne q xs
one_alike p q same [] alone = tt
one_alike p q same (x ∷ xs) alone =
    (λ yes. sym (any_alike p q same xs) ∙ alone.0 (same x ∙ yes), one_alike p q same xs alone.1)
  where
    any_alike : {X : Type 0} (p q : X → Bool) → ((x : X) → p x ≡ q x) → (xs : List X) → list_any p xs ≡ list_any q xs
    any_alike p q same [] = refl
    any_alike p q same (x ∷ xs) = ap (λ (b : Bool). b || list_any p xs) (same x) ∙ ap (λ (b : Bool). q x || b) (any_alike p q same xs)

pub one_caller : (caller : List ℕ) (number : ℕ) (entries : List DumpEntry) → AreApart (calls_behind entries) → OfOne (λ e. is_call caller number e.origin) entries
one_caller caller number entries apart =
    one_alike (λ (e : DumpEntry). list_any (is_same caller number) (call_behind e.origin)) (λ e. is_call caller number e.origin) (λ e. is_behind caller number e.origin) entries
    (one_named (λ (e : DumpEntry). call_behind e.origin) (is_same caller number) (caller, number) (λ call yes. same_call caller number call yes) entries apart)
