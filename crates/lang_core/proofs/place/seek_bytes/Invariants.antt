use Rattle.std.proofs.Common.{◌-◌, ◌≤◌, length}
use Rattle.lang_core.specs.Places.{place_of}
use Rattle.lang_core.proofs.SeekLemmas.{IsSought}
use Rattle.lang_core.proofs.place.seek_bytes.Given as goal

abbrev pub invariant-loop-low : goal.invariant-loop-low
invariant-loop-low g l = record {
  within : l.high ≤ length l.items;
  ends : l.low ≤ l.high;
  sought : IsSought g.T.Placed.place (place_of l.table l.key) l.items l.low l.high;
}

abbrev pub decreases-loop-low : goal.decreases-loop-low
decreases-loop-low g l = l.high - l.low
