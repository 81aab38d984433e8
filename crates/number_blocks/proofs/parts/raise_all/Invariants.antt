use Rattle.std.proofs.Common.{◌≡◌, ◌≤◌, ◌<◌, ◌+◌, ◌++◌, ℕ, get_or, length, map, take, drop}
use Rattle.number_blocks.proofs.parts.raise_all.Given as goal

abbrev pub invariant-loop-start : goal.invariant-loop-start
invariant-loop-start l = record {
  moved : l.starts ≡ map (λ n. n + 1) (take l.start-index l.initial.starts) ++ drop l.start-index l.initial.starts;
  few : (k : ℕ) → l.start-index ≤ k → k < length l.starts → get_or l.starts k 0 < 4294967296;
}
