use Rattle.std.proofs.Common.{ℕ, ◌≤◌, ◌<◌, ◌^◌, arith}
use Rattle.std.proofs.Math.Nat.{pow-le-pow_right}
use Rattle.http_front.proofs.length.number_of.Goals as goal

-- a number of at most 18 digits
at_most_18 : (number i : ℕ) → number < 10 ^ i → i ≤ 18 → number < 10 ^ 18
at_most_18 number i bound few =
    let powers : 10 ^ i ≤ 10 ^ 18 = pow-le-pow_right {n = 10} (omega arith) few in omega arith

pub overflow_mul-number : goal.overflow_mul-number
overflow_mul-number c =
    let small = at_most_18 c.loop-digit.number c.loop-digit.digit-index c.loop-digit.invariant.bound (omega arith) in
    omega (arith, small)

pub overflow_add-number : goal.overflow_add-number
overflow_add-number c =
    let small = at_most_18 c.loop-digit.number c.loop-digit.digit-index c.loop-digit.invariant.bound (omega arith) in
    omega (arith, small, c.from.ensures)
