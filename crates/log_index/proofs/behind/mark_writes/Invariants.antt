use Rattle.std.proofs.Common.{◌≡◌, ◌≤◌, ◌||◌, ℕ, take}
use Rattle.log_index.specs.Marks.{is_marked, lacking, reads_by, sees_behind, IsNoted}
use Rattle.log_index.proofs.behind.mark_writes.Given as goal

abbrev pub invariant-loop-write : goal.invariant-loop-write
invariant-loop-write l = record {
  marked : (q : ℕ) → is_marked q l.marks.items ≡ (is_marked q l.initial.marks.items || sees_behind l.place (lacking l.others (take l.write-index l.writes)) (reads_by l.index.reads l.places.labels) q);
  noted : IsNoted l.places.labels l.index.reads l.marks.items;
  room : l.initial.marks.spots ≤ l.marks.spots;
}
