-- What a run of digits gives.
use Rattle.std.proofs.Common.{◌≡◌, ℕ, ℤ, pos, ◌<◌, ◌^◌, Bool, true, false, cond, List, [], ◌∷◌, Result, Ok, Err, length, refl, sym, ap, ◌∙◌, arith, rules}
use Rattle.std.specs.Prelude.{nat_lt}
use Rattle.std.specs.Char.{is_ascii_digit}
use Rattle.std.specs.Int.{w64}
use Rattle.std.specs.List.{list_all}
use Rattle.std.specs.Result.{OkIff}
use Rattle.std.specs.Str.{IsUtf8}
use Rattle.std.specs.Str.Parse.{ParsesSigned, digits_value}
use Rattle.std.proofs.lemmas.Bool.{ltb-true}
use Rattle.std.proofs.lemmas.Bool.Decides.{nat_tests}
use Rattle.std.proofs.lemmas.Str.{IsUtf8-from_ascii}
use Rattle.std.proofs.lemmas.Fmt.{IsAscii-from_digits}
use Rattle.std.proofs.lemmas.Str.Parse.{IsNumeralModel, numerals_by_value, parse_signed_digits}
use Rattle.lang_tokens.specs.declared.token.Token.{Token}
use Rattle.lang_tokens.specs.declared.token.Token.TheVariants as token
use Rattle.lang_tokens.specs.Lexing.{is_numeral, number}

pub own : IsNumeralModel (λ ds. list_all is_ascii_digit ds ≡ true) (digits_value 10)
own = numerals_by_value _ (search rules)

pub digits_are_text : (ds : List ℕ) → list_all is_ascii_digit ds ≡ true → IsUtf8 ds
digits_are_text ds h = IsUtf8-from_ascii ds (IsAscii-from_digits ds (own.to ds h))

abbrev pub token_of : {E : Type 0} → Result ℤ E → Token
token_of (Ok n) = token.Integer n
token_of (Err e) = token.BadNumber

some_digit : (ds : List ℕ) → is_numeral ds ≡ true → 0 < length ds
some_digit [] e = absurd cc
some_digit (d ∷ ds) e = omega arith

by_size : {E : Type 0} (ds : List ℕ) (r : Result ℤ E) (b : Bool) → OkIff r ((0 < length ds) × (digits_value 10 ds < 2 ^ 63)) (pos (digits_value 10 ds)) → 0 < length ds → nat_lt (digits_value 10 ds) (2 ^ 63) ≡ b → token_of r ≡ cond b (token.Integer (pos (digits_value 10 ds))) token.BadNumber
by_size ds (Ok x) true h some e = ap (λ (n : ℤ). token.Integer n) h.1
by_size ds (Err d) true h some e = absurd (h (some, ltb-true _ _ e))
by_size ds (Ok x) false h some e = absurd (let lt = h.0.1 in grind (arith, nat_tests))
by_size ds (Err d) false h some e = refl

pub parsed : {E : Type 0} (ds : List ℕ) (r : Result ℤ E) → ParsesSigned w64 10 ds r → list_all is_ascii_digit ds ≡ true → is_numeral ds ≡ true → token_of r ≡ number ds
parsed ds r h digits well = rw well (by_size ds r (nat_lt (digits_value 10 ds) (2 ^ 63)) (parse_signed_digits own w64 ds r h digits) (some_digit ds well) refl)

pub not_parsed : {E : Type 0} (ds : List ℕ) (r : Result ℤ E) (e : E) → r ≡ Err e → ParsesSigned w64 10 ds r → list_all is_ascii_digit ds ≡ true → is_numeral ds ≡ true → token.BadNumber ≡ number ds
not_parsed ds r e is h digits well = sym (ap token_of is) ∙ parsed ds r h digits well
