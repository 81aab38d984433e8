-- What an expression gives.
use Rattle.std.specs.Prelude.{ℕ, ℤ, pos, negsuc, ◌+ℤ◌, ◌-ℤ◌, ◌*ℤ◌, ◌-◌, Bool, true, false, List, [], ◌∷◌, ◌++◌, Option, Some, None, Result, Ok, Err, if◌then◌else◌, nat_lt, nat_eq, length, slice_get}
use Rattle.std.specs.Ordering.{is_lt}
use Rattle.lang_base.specs.Texts.{same_text, text_order}
use Rattle.lang_core.specs.declared.value.Value.{Value}
use Rattle.lang_core.specs.declared.value.Value.TheVariants.{Int, Str, Nothing}
use Rattle.lang_tree.specs.declared.expr.Op.{Op}
use Rattle.lang_tree.specs.declared.expr.Op.TheVariants.{Add, Sub, Mul, Equal as Equals, Less as Below, Join}
use Rattle.lang_tree.specs.declared.expr.Expr.{Expr}
use Rattle.lang_tree.specs.declared.expr.Expr.TheOpen.{Expr-F}
use Rattle.lang_tree.specs.declared.expr.Expr.TheFolds.{fold-Expr}
use Rattle.lang_values.specs.declared.given.Fault.{Fault}
use Rattle.lang_values.specs.declared.given.Fault.TheVariants.{Range, Kind, Limit}
use Rattle.lang_values.specs.declared.given.Binding.{Binding}
use Rattle.lang_values.specs.Given.{Given}
use Rattle.lang_values.specs.Numbers.{fits_i64, signed_text, signed_number}
use Rattle.lang_values.specs.Parts.{piece}

-- a value or a fault
abbrev pub Outcome : Type 0
Outcome = Result Value Fault

-- goes on with the value, or keeps the fault
abbrev pub and_then : Outcome → (Value → Outcome) → Outcome
and_then (Ok v) next = next v
and_then (Err f) next = Err f

abbrev pub same_int : ℤ → ℤ → Bool
same_int (pos m) (pos n) = nat_eq m n
same_int (pos m) (negsuc n) = false
same_int (negsuc m) (pos n) = false
same_int (negsuc m) (negsuc n) = nat_eq m n

abbrev pub int_below : ℤ → ℤ → Bool
int_below (pos m) (pos n) = nat_lt m n
int_below (pos m) (negsuc n) = false
int_below (negsuc m) (pos n) = true
int_below (negsuc m) (negsuc n) = nat_lt n m

abbrev pub same_value : Value → Value → Bool
same_value (Int a) (Int b) = same_int a b
same_value (Str a) (Str b) = same_text a b
same_value Nothing Nothing = true
same_value _ _ = false

abbrev pub truth : Bool → Value
truth b = Int (pos (if b then 1 else 0))

abbrev pub exact : ℤ → Outcome
exact n = if fits_i64 n then Ok (Int n) else Err Range

abbrev pub within_limit : List ℕ → Outcome
within_limit t = if nat_lt 65536 (length t) then Err Limit else Ok (Str t)

abbrev pub on_ints : (ℤ → ℤ → Outcome) → Value → Value → Outcome
on_ints f (Int a) (Int b) = f a b
on_ints f _ _ = Err Kind

abbrev pub less : Value → Value → Outcome
less (Int a) (Int b) = Ok (truth (int_below a b))
less (Str a) (Str b) = Ok (truth (is_lt (text_order a b)))
less _ _ = Err Kind

abbrev pub join : Value → Value → Outcome
join (Str a) (Str b) = within_limit (a ++ b)
join _ _ = Err Kind

abbrev pub apply : Op → Value → Value → Outcome
apply Add a b = on_ints (λ m n. exact (m +ℤ n)) a b
apply Sub a b = on_ints (λ m n. exact (m -ℤ n)) a b
apply Mul a b = on_ints (λ m n. exact (m *ℤ n)) a b
apply Equals a b = Ok (truth (same_value a b))
apply Below a b = less a b
apply Join a b = join a b

-- a text, or nothing where there is none
abbrev pub text_or_nothing : Option (List ℕ) → Value
text_or_nothing None = Nothing
text_or_nothing (Some t) = Str t

abbrev pub int_or_nothing : Option ℤ → Value
int_or_nothing None = Nothing
int_or_nothing (Some n) = Int n

abbrev pub piece_at : ℤ → List ℕ → List ℕ → Value
piece_at (pos n) by t = text_or_nothing (piece n by t)
piece_at (negsuc n) by t = Nothing

-- a piece of a text, whose separator isn't empty
abbrev pub part : Value → Value → Value → Outcome
part (Str t) (Str by) (Int n) = if nat_eq (length by) 0 then Err Kind else Ok (piece_at n by t)
part _ _ _ = Err Kind

abbrev pub number : Value → Value
number (Int n) = Int n
number (Str t) = int_or_nothing (signed_number t)
number Nothing = Nothing

abbrev pub as_text : Value → Value
as_text (Int n) = Str (signed_text n)
as_text (Str t) = Str t
as_text Nothing = Str []

-- a variable's value; all are nothing at first
abbrev pub var : List Binding → List ℕ → Value
var [] x = Nothing
var (b ∷ bs) x = if same_text b.name x then b.value else var bs x

-- an expression's value from those of its parts, which are evaluated from left to right
abbrev pub value_step : Given → List Binding → Expr-F Outcome → Outcome
value_step g vars (Expr-F.Integer n) = Ok (Int n)
value_step g vars (Expr-F.Str t) = Ok (Str t)
value_step g vars Expr-F.Nothing = Ok Nothing
value_step g vars Expr-F.Body = Ok (Str g.request.body)
value_step g vars Expr-F.Who = Ok (Str g.request.who)
value_step g vars (Expr-F.Var x) = Ok (var vars x)
value_step g vars (Expr-F.Path n) = Ok (text_or_nothing (slice_get g.segments (n - 1)))
value_step g vars (Expr-F.Part t by n) = and_then t (λ t. and_then by (λ by. and_then n (λ n. part t by n)))
value_step g vars (Expr-F.Number e) = and_then e (λ v. Ok (number v))
value_step g vars (Expr-F.AsText e) = and_then e (λ v. Ok (as_text v))
value_step g vars (Expr-F.Pair l op r) = and_then l (λ a. and_then r (λ b. apply op a b))

-- the value of an expression
abbrev pub value_of : Given → List Binding → Expr → Outcome
value_of g vars = fold-Expr Outcome (value_step g vars)
