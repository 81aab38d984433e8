use Rattle.std.proofs.Common.{◌≡◌, ◌≤◌, ◌-◌, List, ℕ, length}
use Rattle.std.specs.Prelude.{IsTrue}
use Rattle.store_disk.proofs.ReadLemmas.{NoneBelow}
use Rattle.store_disk.proofs.ahead.has_mark_ahead.Given as goal

abbrev pub invariant-loop-at : goal.invariant-loop-at
invariant-loop-at g l = record {
  begun : l.from ≤ l.at;
  usable : IsTrue (g.D.Disk.is_usable l.disk);
  clean : IsTrue (g.D.Disk.is_clean l.disk) → IsTrue (g.D.Disk.is_clean l.initial.disk);
  seen : g.D.Disk.seen l.disk ≡ g.D.Disk.seen l.initial.disk;
  crash : (c : List ℕ) → g.D.Disk.may_leave l.disk c → g.D.Disk.may_leave l.initial.disk c;
  counted : g.D.Disk.faults l.initial.disk ≤ g.D.Disk.faults l.disk;
  none : IsTrue (g.D.Disk.is_clean l.disk) → l.len ≡ length (g.D.Disk.seen l.initial.disk) → NoneBelow l.lines l.from l.at (g.D.Disk.seen l.initial.disk);
}

abbrev pub decreases-loop-at : goal.decreases-loop-at
decreases-loop-at g l = l.to - l.at
