use Rattle.std.proofs.Common.{ℕ, ◌≡◌, ◌<◌, ◌≤◌, get_or}
use Rattle.lang_lists.specs.Ends.{raised}
use Rattle.lang_lists.proofs.hash_chains.raise.Given as goal

abbrev pub invariant-loop-place : goal.invariant-loop-place
invariant-loop-place l = record {
  done : (i : ℕ) → i < l.place → get_or l.ends i 0 ≡ raised l.at (get_or l.initial.ends i 0);
  left : (i : ℕ) → l.place ≤ i → get_or l.ends i 0 ≡ get_or l.initial.ends i 0;
}
