-- How many programs a journal tells of: one at most for each row, and one more.
use Rattle.std.specs.Prelude.{Vec}
use Rattle.std.proofs.Common.{ℕ, ◌+◌, ◌<◌, ◌≤◌, ◌^◌, List, [], ◌∷◌, fold, length, arith}
use Rattle.journal_rows.specs.Programs.{counted, program_count, program_step}
use Rattle.journal_rows.specs.declared.orders.Command.{Command}
use Rattle.journal_rows.specs.declared.orders.Command.TheVariants.{Deploy, Correct}
use Rattle.journal_rows.specs.declared.row.Row.{Row}
use Rattle.journal_rows.specs.declared.row.Row.TheVariants.{Ordered}

counted_once : (count : ℕ) (command : Command) → counted count command ≤ count + 1
counted_once count (Deploy p) = omega arith
counted_once count (Correct k p) = omega arith
counted_once count command = omega arith

step_once : (count : ℕ) (row : Row) → program_step count row ≤ count + 1
step_once count (Ordered o) = counted_once count o.command
step_once count row = omega arith

all_once : (rows : List Row) (count : ℕ) → fold program_step count rows ≤ count + length rows
all_once [] count = omega arith
all_once (row ∷ rows) count =
    let one = step_once count row in
    let rest = all_once rows (program_step count row) in
    omega (arith, one, rest)

-- one more can be counted in 64 bits, since rows in memory are fewer than half of what these count
pub few_in : {Z : Type 0} (v : Vec Row Z) → program_count v.items + 1 < 2 ^ 64
few_in v =
    let most = all_once v.items 1 in
    let same = v.ok.0 in
    let fits = v.ok.1 in
    let small = v.small in
    omega (arith, most, same, fits, small)
