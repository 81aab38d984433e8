use Rattle.std.proofs.Common.{◌-◌, ◌≡◌, ◌≤◌, Bool, true, false, length}
use Rattle.std.specs.List.{Contains, AllWithin}
use Rattle.std.specs.List.Sorted.{IsPartitionedBy}
use Rattle.lang_lists.proofs.halves.count_front.Given as goal

abbrev pub invariant-loop-low : goal.invariant-loop-low
invariant-loop-low g l = record {
  within : l.high ≤ length l.items;
  ends : l.low ≤ l.high;
  parted : (p : g.row.T.Denot → Bool) → ((x : _) (r : Bool) → Contains l.items x.now → goal.F-post g l.is_front x r → r ≡ p x.now)
      → IsPartitionedBy p l.items → AllWithin (λ y. p y ≡ true) l.items 0 l.low × AllWithin (λ y. p y ≡ false) l.items l.high (length l.items);
}

abbrev pub decreases-loop-low : goal.decreases-loop-low
decreases-loop-low g l = l.high - l.low
