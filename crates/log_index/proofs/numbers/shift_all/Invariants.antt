use Rattle.std.proofs.Common.{◌≡◌, ◌≤◌, ◌<◌, ◌++◌, ℕ, get_or, length, map, take, drop}
use Rattle.log_index.specs.Marks.{shifted}
use Rattle.log_index.proofs.numbers.shift_all.Given as goal

abbrev pub invariant-loop-mark : goal.invariant-loop-mark
invariant-loop-mark l = record {
  moved : l.marks ≡ map (shifted l.place) (take l.mark-index l.initial.marks) ++ drop l.mark-index l.initial.marks;
  few : (k : ℕ) → l.mark-index ≤ k → k < length l.marks → get_or l.marks k 0 < 100000;
}
