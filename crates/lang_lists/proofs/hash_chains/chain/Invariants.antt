use Rattle.std.proofs.Common.{length}
use Rattle.lang_lists.specs.Chains.{IsChained}
use Rattle.lang_lists.proofs.hash_chains.chain.Given as goal

abbrev pub invariant-loop-place : goal.invariant-loop-place
invariant-loop-place l = IsChained (length l.initial.last) l.place l.keys l.before l.last
