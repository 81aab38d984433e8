-- What is printed of a name and a number reads back, and what is read is what would be printed.
use Rattle.std.proofs.Common.{◌≡◌, ℕ, ◌+◌, ◌<◌, ◌^◌, Bool, true, false, cond, not, List, [], ◌∷◌, ◌++◌, Option, Some, None, Ok, Err, length, get_or, nat_eq, nat_lt, nat_le, ◌==◌, decimal, refl, sym, ap, ◌∙◌, ◌&&◌, arith, length-append}
use Rattle.std.specs.Char.{is_ascii_digit}
use Rattle.std.specs.List.{list_all, position_from, position_or_len, before_first, after_first}
use Rattle.std.proofs.Math.Seq.{take-append_seam, drop-append-add}
use Rattle.std.proofs.lemmas.Bool.{and_parts}
use Rattle.std.proofs.lemmas.Bool.Decides.{nat_tests}
use Rattle.std.proofs.lemmas.Fmt.{decimal_nonempty, digits_decimal, digits_value-decimal, decimal-digits_value, first_decimal}
use Rattle.std.proofs.lemmas.Iterator.Adapters.{position_from-zero}
use Rattle.std.proofs.lemmas.List.Sums.{split_at_first, passes_at_first}
use Rattle.lang_base.specs.Characters.{digits_value}
use Rattle.lang_core.specs.Names.{is_name, is_name_byte}
use Rattle.request_names.proofs.Parsed.{own, not_empty}
use Rattle.request_names.specs.Ids.{parts_of, from_one, pair_of, parts_at, id_at, id_text}
use Rattle.request_names.specs.Names.{bad_byte, refusal}
use Rattle.request_names.specs.Numbers.{begins_well, in_u64, number_of}
use Rattle.request_names.specs.declared.names.NameRefused.{NameRefused}
use Rattle.request_names.specs.declared.names.NameRefused.TheVariants.{Empty, BadNumber}

passes_on : (b : Bool) (i : ℕ) (rest : Bool) (o : Option ℕ) → b && rest ≡ true → (rest ≡ true → o ≡ None) → cond (not b) (Some i) o ≡ None
passes_on true i rest o all none = none all
passes_on false i rest o all none = cc

-- where all elements pass a test, none fails it
none_fails : {X : Type 0} (p : X → Bool) (i : ℕ) (xs : List X) → list_all p xs ≡ true → position_from (λ x. not (p x)) i xs ≡ None
none_fails p i [] all = refl
none_fails p i (x ∷ xs) all = passes_on (p x) i (list_all p xs) (position_from (λ y. not (p y)) (i + 1) xs) all (none_fails p (i + 1) xs)

-- a name has no slash
pub no_slash : (b : ℕ) → is_name_byte b ≡ true → (b == 47) ≡ false
no_slash b is = grind (arith, nat_tests)

pub three_hold : (a b c : Bool) → (a && b) && c ≡ true → (a ≡ true) × (b ≡ true) × (c ≡ true)
three_hold true true true h = (refl, refl, refl)
three_hold true true false h = cc
three_hold true false c h = cc
three_hold false b c h = cc

-- nothing keeps a name from being one
unrefused : (name : List ℕ) → is_name name ≡ true → refusal name ≡ None
unrefused name is =
    let parts = three_hold (not (nat_eq (length name) 0)) (nat_le (length name) 32) (list_all is_name_byte name) is in
    let some : nat_eq (length name) 0 ≡ false = grind (arith, nat_tests, parts.0) in
    let short : nat_lt 32 (length name) ≡ false = grind (arith, nat_tests, parts.1) in
    let good : bad_byte name ≡ None = position_from-zero (λ b. not (is_name_byte b)) name ∙ none_fails is_name_byte 0 name parts.2 in
    rw (some, short, good) refl

first_slash : (name digits : List ℕ) → list_all is_name_byte name ≡ true → position_or_len (λ b. b == 47) (name ++ 47 ∷ digits) ≡ length name
first_slash [] digits all = refl
first_slash (b ∷ bs) digits all =
    let both = and_parts (is_name_byte b) (list_all is_name_byte bs) all in
    let other : (b == 47) ≡ false = no_slash b both.0 in
    rw (other, first_slash bs digits both.1) (omega arith)

cut_parts : (name digits : List ℕ) → list_all is_name_byte name ≡ true → parts_of (name ++ 47 ∷ digits) ≡ Some (name, digits)
cut_parts name digits all =
    let at = first_slash name digits all in
    let inside : nat_lt (length name) (length (name ++ 47 ∷ digits)) ≡ true = grind (arith, nat_tests, length-append) in
    rw (at, inside, take-append_seam name (47 ∷ digits), drop-append-add name (47 ∷ digits) 1) refl

-- a number's digits spell it
well_begun : (digits : List ℕ) → 0 < length digits → 48 < get_or digits 0 0 → begins_well digits ≡ true
well_begun [] some first = absurd (omega arith)
well_begun (d ∷ []) some first = refl
well_begun (d ∷ e ∷ ds) some first = grind (arith, nat_tests)

pub read_decimal : (n : ℕ) → 0 < n → n < 2 ^ 64 → number_of (decimal n) ≡ Some n
read_decimal n from_one small =
    let digits : list_all is_ascii_digit (decimal n) ≡ true = digits_decimal own n small in
    let well : begins_well (decimal n) ≡ true = well_begun (decimal n) (decimal_nonempty n small) (first_decimal n from_one small) in
    let value : digits_value (decimal n) ≡ n = digits_value-decimal own n small in
    let fits : nat_lt n (2 ^ 64) ≡ true = grind (arith, nat_tests) in
    rw (digits, well, value, fits) refl

pub reads_back : (name : List ℕ) (n : ℕ) → is_name name ≡ true → 0 < n → n < 2 ^ 64 → id_at (id_text name n) ≡ Ok (name, n)
reads_back name n is positive small =
    let parts = three_hold (not (nat_eq (length name) 0)) (nat_le (length name) 32) (list_all is_name_byte name) is in
    let some : nat_eq (length (name ++ 47 ∷ decimal n)) 0 ≡ false = grind (arith, nat_tests, length-append) in
    let there : nat_eq n 0 ≡ false = grind (arith, nat_tests) in
    rw (some, cut_parts name (decimal n) parts.2, unrefused name is, read_decimal n positive small, there) refl

-- what a number is read of is how it is written
in_range : (b : Bool) (v n : ℕ) → nat_lt v (2 ^ 64) ≡ b → cond b (Some v) None ≡ Some n → (v < 2 ^ 64) × (v ≡ n)
in_range true v n fits is = (grind (arith, nat_tests), cc)
in_range false v n fits is = cc

read_from : (digits well : Bool) (v n : ℕ) → cond (digits && well) (in_u64 v) None ≡ Some n → (digits ≡ true) × (well ≡ true) × (v < 2 ^ 64) × (v ≡ n)
read_from true true v n is = let range = in_range (nat_lt v (2 ^ 64)) v n refl is in (refl, refl, range.0, range.1)
read_from true false v n is = cc
read_from false well v n is = cc

lone_zero : (digits : List ℕ) → begins_well digits ≡ true → get_or digits 0 0 ≡ 48 → length digits ≡ 1
lone_zero [] well zero = cc
lone_zero (d ∷ []) well zero = refl
lone_zero (d ∷ e ∷ ds) well zero = grind (arith, nat_tests)

written : (digits : List ℕ) (n : ℕ) → number_of digits ≡ Some n → digits ≡ decimal n
written digits n is =
    let parts = read_from (list_all is_ascii_digit digits) (begins_well digits) (digits_value digits) n is in
    sym (decimal-digits_value own digits parts.0 (not_empty digits parts.1) (lone_zero digits parts.1) parts.2) ∙ ap decimal parts.3

-- where a name and a number are read, nothing was wrong
same_pair : (zero : Bool) (before name : List ℕ) (k n : ℕ) → pair_of before None (cond zero (Err BadNumber) (Ok k)) ≡ Ok (name, n) → (before ≡ name) × (Some k ≡ Some n)
same_pair true before name k n is = cc
same_pair false before name k n is =
    let pair : ◌≡◌ {A = List ℕ × ℕ} (before, k) (name, n) = cc in (ap (λ p. p.0) pair, ap (λ p. Some p.1) pair)

nothing_wrong : (before name : List ℕ) (why : Option NameRefused) (number : Option ℕ) (n : ℕ) → pair_of before why (from_one number) ≡ Ok (name, n) → (before ≡ name) × (number ≡ Some n)
nothing_wrong before name (Some why) number n is = cc
nothing_wrong before name None None n is = cc
nothing_wrong before name None (Some k) n is = same_pair (nat_eq k 0) before name k n is

parts_found : (empty there : Bool) (before after name : List ℕ) (n : ℕ) → cond empty (Err Empty) (parts_at (cond there (Some (before, after)) None)) ≡ Ok (name, n) → (there ≡ true) × (before ≡ name) × (number_of after ≡ Some n)
parts_found true there before after name n is = cc
parts_found false false before after name n is = cc
parts_found false true before after name n is =
    let parts = nothing_wrong before name (refusal before) (number_of after) n is in (refl, parts.0, parts.1)

is_slash : (b : ℕ) → (b == 47) ≡ true → b ≡ 47
is_slash b is = grind (arith, nat_tests)

pub spelled : (text name : List ℕ) (n : ℕ) → id_at text ≡ Ok (name, n) → text ≡ id_text name n
spelled text name n is =
    let at = position_or_len (λ b. b == 47) text in
    let before = before_first (λ b. b == 47) text in
    let after = after_first (λ b. b == 47) text in
    let parts = parts_found (nat_eq (length text) 0) (nat_lt at (length text)) before after name n is in
    let inside : at < length text = grind (arith, nat_tests, parts.0) in
    let slash : get_or text at 0 ≡ 47 = is_slash (get_or text at 0) (passes_at_first (λ b. b == 47) text 0 inside) in
    let whole : text ≡ before ++ (get_or text at 0 ∷ after) = split_at_first (λ b. b == 47) text 0 inside in
    whole ∙ rw (slash, parts.1, written after n parts.2) refl
