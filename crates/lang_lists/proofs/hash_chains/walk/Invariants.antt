use Rattle.std.proofs.Common.{◌≡◌, ◌-◌, ◌<◌, ◌≤◌, true, nat_eq, length, take, get_or}
use Rattle.lang_lists.specs.Ends.{last_end}
use Rattle.lang_lists.specs.Chains.{bucket_of, is_in}
use Rattle.lang_lists.proofs.hash_chains.walk.Given as goal

abbrev pub invariant-loop-end : goal.invariant-loop-end
invariant-loop-end l = record {
  within : l.end ≤ length l.keys;
  same : last_end (nat_eq l.key) (take l.from l.keys) ≡ last_end (nat_eq l.key) (take l.end l.keys);
  chained : 0 < l.end → is_in (length l.last) (bucket_of (length l.last) l.key) (get_or l.keys (l.end - 1) 0) ≡ true;
}

abbrev pub decreases-loop-end : goal.decreases-loop-end
decreases-loop-end l = l.end
