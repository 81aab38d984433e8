-- Which entries are stale once a program stands in place of another one, and which are marked.
use Rattle.std.specs.Prelude.{ℕ, ◌≡◌, ◌↔◌, ◌<◌, true, false, List, IsSomeAnd, length, map, slice_index_or, take}
use Rattle.lang_core.specs.declared.cells.Cell.{Cell}
use Rattle.log_index.specs.Marks.{KeptMarks, is_marked}
use Rattle.request_log.specs.Entries.{corrected, has_program, is_alive}
use Rattle.request_log.specs.HandedOn.{Numbered}
use Rattle.request_log.specs.declared.entry.Entry.{Entry}
use Rattle.request_log.specs.declared.entry.Made.{Made}
use Rattle.execution.specs.HandedOn.{GivesAll}
use Rattle.local_repair.specs.Current.{Consumed, IsCurrent, rows_after}
use Rattle.local_repair.specs.Programs.{HasItsHandler}

-- a record is of the entry as it is now, and it read and consumed what there is now, whichever handler made it
pub record IsCurrentByAny (consumed : Consumed) (rows : List Cell) (e : Entry) (m : Made) : Type 0 where
  pub alive : m.alive ≡ is_alive e
  pub version : m.version ≡ e.version
  pub request : m.request ≡ e.request
  pub reads : GivesAll rows m.trace.reads
  pub answers : m.trace.answers ≡ map consumed e.slots

-- an entry that isn't stale, unless it is by its handler, where these are the rows before it
abbrev pub IsCurrentButHandler : Consumed → List Cell → Entry → Type 0
IsCurrentButHandler consumed rows e = IsSomeAnd e.made (λ m. IsCurrentByAny consumed rows e m)

-- once a program stands in place of that of a number, exactly those of these entries are stale whose record's handler isn't theirs now, and
-- those that another cause makes stale, as it did before
abbrev pub AreStaleAfter : ℕ → Numbered → List Cell → List Entry → List Entry → Type 0
AreStaleAfter number program base old new =
    (consumed : Consumed) (place : ℕ) (d : Entry) → place < length old
    → IsCurrent consumed (rows_after base (take place new)) (slice_index_or new place d)
    ↔ (IsCurrentButHandler consumed (rows_after base (take place old)) (slice_index_or old place d) × HasItsHandler (corrected number program (slice_index_or old place d)))

-- ---- marks

-- the entry at a place is marked where it has the program of the number and another handler made its record; no mark is lost
pub record IsHandlerMarked (number : ℕ) (place : ℕ) (e : Entry) (before after : KeptMarks) : Type 0 where
  pub reads : after.reads ≡ before.reads
  pub stays : (q : ℕ) → is_marked q after.marks ≡ false → is_marked q before.marks ≡ false
  pub handler : is_marked place after.marks ≡ false → has_program number e ≡ true → HasItsHandler e

-- the same of so many of the first of these entries
pub record IsMarkedByHandlers (number : ℕ) (end : ℕ) (entries : List Entry) (before after : KeptMarks) : Type 0 where
  pub reads : after.reads ≡ before.reads
  pub stays : (q : ℕ) → is_marked q after.marks ≡ false → is_marked q before.marks ≡ false
  pub handlers : (q : ℕ) (d : Entry) → q < end → is_marked q after.marks ≡ false → has_program number (slice_index_or entries q d) ≡ true → HasItsHandler (slice_index_or entries q d)
