use Rattle.std.proofs.Common.{ℕ, ◌≡◌, ◌<◌, get_or}
use Rattle.lang_lists.proofs.hash_chains.clear.Given as goal

abbrev pub invariant-loop-bucket : goal.invariant-loop-bucket
invariant-loop-bucket l = (b : ℕ) → b < l.bucket → get_or l.last b 0 ≡ 0
