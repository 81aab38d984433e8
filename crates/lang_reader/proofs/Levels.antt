-- Readers by levels, as they are counted down.
use Rattle.std.proofs.Common.{◌≡◌, ℕ, zero, suc, ◌-◌, false, List, refl, arith, cond, Err}
use Rattle.std.specs.Prelude.{nat_eq}
use Rattle.std.proofs.lemmas.Bool.Decides.{nat_tests}
use Rattle.lang_tokens.specs.declared.token.Token.{Token}
use Rattle.lang_reader.specs.Readers.{expr_at, expr_in, deep_expr, block_at, block_in, deep_block}

pub expr_levels : (n : ℕ) (ts : List Token) → expr_at n ts ≡ cond (nat_eq n 0) (Err (deep_expr ts)) (expr_in (expr_at (n - 1)) ts)
unfolding expr_at
expr_levels zero ts = refl
expr_levels (suc n) ts =
    let less : suc n - 1 ≡ n = omega arith in
    let more : nat_eq (suc n) 0 ≡ false = grind (arith, nat_tests) in
    rw (less, more) refl

pub block_levels : (n : ℕ) (ts : List Token) → block_at n ts ≡ cond (nat_eq n 0) (Err (deep_block ts)) (block_in (block_at (n - 1)) ts)
unfolding block_at
block_levels zero ts = refl
block_levels (suc n) ts =
    let less : suc n - 1 ≡ n = omega arith in
    let more : nat_eq (suc n) 0 ≡ false = grind (arith, nat_tests) in
    rw (less, more) refl
