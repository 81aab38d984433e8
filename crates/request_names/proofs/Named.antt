-- A text that nothing keeps from being a name is one.
use Rattle.std.proofs.Common.{◌≡◌, ℕ, ◌+◌, Bool, true, false, cond, not, List, [], ◌∷◌, Option, Some, None, length, nat_eq, nat_lt, nat_le, refl, sym, ◌∙◌, ◌&&◌, arith}
use Rattle.std.specs.Option.{option_map}
use Rattle.std.specs.List.{list_all, position_from}
use Rattle.std.proofs.lemmas.Bool.Decides.{nat_tests}
use Rattle.std.proofs.lemmas.Iterator.Adapters.{position_from-zero}
use Rattle.lang_core.specs.Names.{is_name, is_name_byte}
use Rattle.request_names.specs.declared.names.NameRefused.TheVariants.{Empty, TooLong, BadByte}
use Rattle.request_names.specs.Names.{bad_byte, refusal}

first_passes : (b rest : Bool) (i : ℕ) (o : Option ℕ) → cond (not b) (Some i) o ≡ None → (o ≡ None → rest ≡ true) → b && rest ≡ true
first_passes true rest i o e h = h e
first_passes false rest i o e h = cc

-- where no element fails a test, all pass it
all_pass : {X : Type 0} (p : X → Bool) (i : ℕ) (xs : List X) → position_from (λ x. not (p x)) i xs ≡ None → list_all p xs ≡ true
all_pass p i [] e = refl
all_pass p i (x ∷ xs) e = first_passes (p x) (list_all p xs) i (position_from (λ y. not (p y)) (i + 1) xs) e (all_pass p (i + 1) xs)

none_stands : (a b : Bool) (o : Option ℕ) → cond a (Some Empty) (cond b (Some TooLong) (option_map BadByte o)) ≡ None → (a ≡ false) × (b ≡ false) × (o ≡ None)
none_stands true b o e = cc
none_stands false true o e = cc
none_stands false false None e = (refl, refl, refl)
none_stands false false (Some at) e = cc

within : (n : ℕ) → nat_lt 32 n ≡ false → nat_le n 32 ≡ true
within n e = grind (arith, nat_tests)

pub named : (text : List ℕ) → refusal text ≡ None → is_name text ≡ true
named text e =
    let parts = none_stands (nat_eq (length text) 0) (nat_lt 32 (length text)) (bad_byte text) e in
    let all = all_pass is_name_byte 0 text (sym (position_from-zero (λ b. not (is_name_byte b)) text) ∙ parts.2) in
    rw (parts.0, within (length text) parts.1, all) refl
