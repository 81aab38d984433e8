use Rattle.std.proofs.Common.{ℕ, ◌≡◌, ◌≤◌, Bool, false, nat_eq, length, map}
use Rattle.std.specs.List.{Contains}
use Rattle.lang_lists.proofs.SearchLemmas.{IsSought}
use Rattle.dump_tables.proofs.FoundLemmas.{or_here}
use Rattle.dump_tables.proofs.finding.one_of.Given as goal

abbrev pub invariant-loop-end : goal.invariant-loop-end
invariant-loop-end g l = record {
  within : l.end ≤ length l.items;
  sought : (key_of : g.row.T.Denot → ℕ) (p : g.row.T.Denot → Bool) → l.index.keys ≡ map key_of l.items
      → ((x : _) (r : Bool) → Contains l.items x.now → goal.F-post g l.test x r → r ≡ p x.now)
      → ((x : g.row.T.Denot) → nat_eq l.key (key_of x) ≡ false → p x ≡ false) → IsSought key_of (or_here p) l.key false l.items l.end;
}

abbrev pub decreases-loop-end : goal.decreases-loop-end
decreases-loop-end g l = l.end
