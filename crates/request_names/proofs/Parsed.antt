-- What a number's text gives.
use Rattle.std.proofs.Common.{◌≡◌, ℕ, ◌+◌, ◌-◌, ◌*◌, ◌<◌, ◌^◌, Bool, true, false, cond, List, [], ◌∷◌, Some, None, Result, Ok, Err, length, ltb, refl, ap, ◌∙◌, fold, arith, rules}
use Rattle.std.specs.Char.{is_ascii_digit}
use Rattle.std.specs.List.{list_all}
use Rattle.std.specs.Result.{result_ok, OkIff}
use Rattle.std.specs.Str.Parse.{ParsesUnsigned}
use Rattle.std.proofs.lemmas.Str.Parse.{IsNumeralModel, numerals_by_fold, parse_digits}
use Rattle.std.proofs.lemmas.Bool.{ltb-true}
use Rattle.std.proofs.lemmas.Bool.Decides.{nat_tests}
use Rattle.lang_base.specs.Characters.{digits_value}
use Rattle.request_names.specs.Numbers.{begins_well, number_of}

pub own : IsNumeralModel (λ ds. list_all is_ascii_digit ds ≡ true) digits_value
own = numerals_by_fold _ (search rules) (λ n ds. fold (λ m d. m * 10 + (d - 48)) n ds) (search rules)

pub not_empty : (text : List ℕ) → begins_well text ≡ true → 0 < length text
not_empty [] e = cc
not_empty (d ∷ ds) e = omega arith

by_size : {E : Type 0} (n : ℕ) (P : Type 0) (r : Result ℕ E) (b : Bool) → OkIff r (P × (n < 2 ^ 64)) n → P → ltb n (2 ^ 64) ≡ b → result_ok r ≡ cond b (Some n) None
by_size n P (Ok x) true h some e = ap Some h.1
by_size n P (Err d) true h some e = absurd (h (some, ltb-true _ _ e))
by_size n P (Ok x) false h some e = grind (arith, nat_tests)
by_size n P (Err d) false h some e = refl

pub parsed : {E : Type 0} (text : List ℕ) (r : Result ℕ E) → ParsesUnsigned 64 10 text r → list_all is_ascii_digit text ≡ true → begins_well text ≡ true → result_ok r ≡ number_of text
parsed text r h digits well =
    by_size (digits_value text) (0 < length text) r _ (parse_digits own 64 text r h digits) (not_empty text well) refl ∙ rw (digits, well) refl
