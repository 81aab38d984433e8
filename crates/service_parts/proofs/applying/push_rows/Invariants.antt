use Rattle.std.proofs.Common.{◌≡◌, ◌+◌, ◌≤◌, ◌++◌, length}
use Rattle.std.specs.Vec.Iter.{into_iter_items, into_iter_len}
use Rattle.service_parts.proofs.applying.push_rows.Given as goal

abbrev pub invariant-loop-row : goal.invariant-loop-row
invariant-loop-row l =
    record {
      next : (goal.iterator-loop-row).can_next l.row-iterator;
      len : into_iter_len l.row-iterator ≡ length (into_iter_items l.row-iterator);
      rows : l.journal.rows ++ into_iter_items l.row-iterator ≡ l.initial.journal.rows ++ into_iter_items l.initial.row-iterator;
      room : into_iter_len l.row-iterator ≤ l.journal.spare;
      spare : l.initial.journal.spare + into_iter_len l.row-iterator ≤ l.journal.spare + into_iter_len l.initial.row-iterator;
    }
