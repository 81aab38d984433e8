-- The rows that what entries wrote makes, and what changes of a log leave of it.
use Rattle.std.proofs.Common.{◌≡◌, ℕ, ◌≤◌, List, take, set, length, ap, ◌∙◌}
use Rattle.std.specs.List.{insert}
use Rattle.std.proofs.lemmas.List.{take-map, take_all, map-set}
use Rattle.std.proofs.lemmas.List.Folds.{fold-map}
use Rattle.lang_core.specs.Rows.{apply}
use Rattle.lang_core.specs.declared.cells.Cell.{Cell}
use Rattle.lang_core.specs.declared.writes.Write.{Write}
use Rattle.request_log.specs.declared.entry.Entry.{Entry}
use Rattle.log_index.specs.Rows.{KeptWrites, rows_made, rows_before}
use Rattle.log_index.proofs.EditLemmas.{map_insert}
use Rattle.local_repair.specs.Current.{writes_of, rows_after}
use Rattle.local_repair.specs.Written.{all_written}

abbrev wrote : Entry → List Write
wrote e = writes_of e.made

pub made_rows : (base : List Cell) (entries : List Entry) → rows_made base (all_written entries) ≡ rows_after base entries
made_rows base entries = fold-map apply wrote base entries

-- the rows before a place are those of the entries before it
pub seen_before : (kept : KeptWrites) (entries : List Entry) (place : ℕ) → kept.writes ≡ all_written entries → rows_before place kept ≡ rows_after kept.base (take place entries)
seen_before kept entries place tied =
    ap (λ w. rows_made kept.base (take place w)) tied ∙ ap (rows_made kept.base) (take-map wrote place entries) ∙ made_rows kept.base (take place entries)

-- and at the end they are those of all
pub seen_end : (kept : KeptWrites) (entries : List Entry) (place : ℕ) → length entries ≤ place → kept.writes ≡ all_written entries → rows_before place kept ≡ rows_after kept.base entries
seen_end kept entries place le tied = seen_before kept entries place tied ∙ ap (rows_after kept.base) (take_all place entries le)

pub written_insert : (entries : List Entry) (at : ℕ) (e : Entry) → all_written (insert entries at e) ≡ insert (all_written entries) at (wrote e)
written_insert entries at e = map_insert wrote entries at e

pub written_set : (entries : List Entry) (at : ℕ) (e : Entry) → all_written (set entries at e) ≡ set (all_written entries) at (wrote e)
written_set entries at e = map-set wrote entries at e
