use Rattle.std.proofs.Common.{ℕ, ◌<◌, get_or}
use Rattle.local_repair.specs.Held.{IsCurrentAt}
use Rattle.local_repair.proofs.current.place_of_marked.Given as goal

abbrev pub invariant-loop-mark : goal.invariant-loop-mark
invariant-loop-mark g l = (j : ℕ) → j < l.mark-index → IsCurrentAt (g.S.Slots.consumed_of l.slots) l.rows.base l.entries (get_or l.marks j 0)
