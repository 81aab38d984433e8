use Rattle.std.proofs.Common.{◌≡◌, ◌+◌, ◌≤◌, length, vec_len, vec_capacity}
use Rattle.std.specs.Vec.Iter.{into_iter_items}
use Rattle.lang_core.specs.Places.{IsOrdered}
use Rattle.lang_core.specs.Rows.{apply, cell_place}
use Rattle.lang_core.proofs.writes.apply_all.Given as goal

abbrev pub invariant-loop-write : goal.invariant-loop-write
invariant-loop-write l =
    (goal.iterator-loop-write).can_next l.write-iterator
    × (goal.iterator-loop-write).is_finite l.write-iterator
    × (apply l.cells.items (into_iter_items l.write-iterator) ≡ apply l.initial.cells.items l.fn.writes.items)
    × (vec_len l.cells + length (into_iter_items l.write-iterator) ≤ vec_capacity l.cells)
    × IsOrdered cell_place l.cells.items
