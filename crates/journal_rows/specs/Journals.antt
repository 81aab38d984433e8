-- What contracts see of a journal.
use Rattle.std.specs.Prelude.{ℕ, ◌≡◌, ◌+◌, ◌-◌, ◌<◌, ◌≤◌, ◌^◌, List, Vec, length, min, vec_len, vec_capacity}
use Rattle.std.proofs.Common.{subst, lt-suc_self}
use Rattle.std.proofs.Math.Nat.{add-le-add, add-sub_of_le, le_refl, lt_of_le_of_lt, lt_trans, min-le_left}
use Rattle.std.proofs.lemmas.Nat.{pow_below}
use Rattle.journal_rows.specs.declared.row.Row.{Row}

-- its rows, and at least how many more go in without memory: all of these can be counted in 64 bits
pub record Journal : Type 0 where
  pub rows : List Row
  pub spare : ℕ
  pub few : length rows + spare < 2 ^ 64

-- so many things, and as many more as fit beside them, where what fits in memory is so much
pub can_count : (n len cap more : ℕ) → len ≡ n → len ≤ cap → cap < 2 ^ 63 → n + min (cap - len) more < 2 ^ 64
can_count n len cap more same fits small =
    subst (λ k. k + min (cap - len) more < 2 ^ 64) same
    (lt_of_le_of_lt
    (subst (λ k. len + min (cap - len) more ≤ k) (add-sub_of_le fits) (add-le-add (le_refl len) (min-le_left (cap - len) more)))
    (lt_trans small (pow_below 63 64 (lt-suc_self 63))))

-- these rows, with their room where there is at least so much of it elsewhere
abbrev pub journal_of : {Z : Type 0} → Vec Row Z → ℕ → Journal
journal_of v more =
    record {
      rows = v.items;
      spare = min (vec_capacity v - vec_len v) more;
      few = can_count (length v.items) (vec_len v) (vec_capacity v) more v.ok.0 v.ok.1 v.small;
    }
