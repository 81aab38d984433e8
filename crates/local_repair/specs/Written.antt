-- What the entries of a log wrote, and the rows that are seen of it.
use Rattle.std.specs.Prelude.{List, map}
use Rattle.lang_core.specs.declared.cells.Cell.{Cell}
use Rattle.lang_core.specs.declared.writes.Write.{Write}
use Rattle.request_log.specs.declared.entry.Entry.{Entry}
use Rattle.log_index.specs.Rows.{rows_before}
use Rattle.local_repair.specs.Current.{writes_of}
use Rattle.local_repair.specs.declared.view.RowsBefore.{RowsBefore}

-- the writes of each entry's record, none where it has no record
abbrev pub all_written : List Entry → List (List Write)
all_written entries = map (λ (e : Entry). writes_of e.made) entries

-- the rows that a view gives
abbrev pub rows_seen : RowsBefore → List Cell
rows_seen view = rows_before view.place view.rows.now
