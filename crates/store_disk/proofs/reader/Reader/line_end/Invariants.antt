use Rattle.std.proofs.Common.{◌≡◌, ◌≤◌, ◌-◌, List, ℕ}
use Rattle.std.specs.Prelude.{IsTrue}
use Rattle.store_disk.specs.State.{IsReading, disk_of, place, read_to}
use Rattle.store_disk.proofs.reader.Reader.line_end.Given as goal

abbrev pub invariant-pieces : goal.invariant-pieces
invariant-pieces g l = record {
  usable : IsTrue (g.D.Disk.is_usable (disk_of l.self));
  clean : IsTrue (g.D.Disk.is_clean (disk_of l.self)) → IsTrue (g.D.Disk.is_clean (disk_of l.initial.self));
  seen : g.D.Disk.seen (disk_of l.self) ≡ g.D.Disk.seen (disk_of l.initial.self);
  crash : (c : List ℕ) → g.D.Disk.may_leave (disk_of l.self) c → g.D.Disk.may_leave (disk_of l.initial.self) c;
  counted : g.D.Disk.faults (disk_of l.initial.self) ≤ g.D.Disk.faults (disk_of l.self);
  reading : IsTrue (g.D.Disk.is_clean (disk_of l.self)) → IsReading g.D.Disk.seen l.initial.self → IsReading g.D.Disk.seen l.self;
  place : place l.self ≡ place l.initial.self;
  len : l.self.len ≡ l.initial.self.len;
}

abbrev pub decreases-pieces : goal.decreases-pieces
decreases-pieces g l = l.self.len - read_to l.self
