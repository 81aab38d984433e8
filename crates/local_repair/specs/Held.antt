-- Entries that can be stale by an answer alone, and what a repairer keeps of them.
use Rattle.std.specs.Prelude.{ℕ, ◌≡◌, ◌+◌, ◌<◌, ◌≤◌, Bool, false, List, [], Option, Some, None, ◌||◌, IsTrue, IsSomeAnd, MatchOption, All, length, map, nat_eq, position, take, slice_index_or}
use Rattle.std.specs.List.{HoldsAt, insert}
use Rattle.lang_core.specs.Places.{IsOrdered}
use Rattle.lang_core.specs.Rows.{cell_place, write_place}
use Rattle.lang_core.specs.declared.cells.Cell.{Cell}
use Rattle.lang_core.specs.declared.trace.Read.{Read}
use Rattle.lang_core.specs.declared.writes.Write.{Write}
use Rattle.execution.specs.HandedOn.{GivesAll}
use Rattle.request_log.specs.Entries.{has_id, is_alive, IsLog}
use Rattle.request_log.specs.declared.entry.Entry.{Entry}
use Rattle.request_log.specs.declared.entry.Made.{Made}
use Rattle.log_index.specs.HandedOn.{read_at}
use Rattle.log_index.specs.HandedOn.{ReadAt}
use Rattle.log_index.specs.Marks.{KeptMarks, changes, is_marked, sees}
use Rattle.local_repair.specs.Current.{Consumed, IsCurrent, rows_after}
use Rattle.local_repair.specs.Programs.{HasItsHandler}
use Rattle.local_repair.specs.Written.{all_written}

-- a record is of the entry as it is now, made by the handler that is the entry's now, and read what there is now; it consumed an answer for each slot, whatever these consume now
pub record IsHeldRecord (rows : List Cell) (e : Entry) (m : Made) : Type 0 where
  pub alive : m.alive ≡ is_alive e
  pub version : m.version ≡ e.version
  pub request : m.request ≡ e.request
  pub count : length m.trace.answers ≡ length e.slots
  pub reads : GivesAll rows m.trace.reads
  pub handler : HasItsHandler e

-- an entry that can be stale by an answer alone, where these are the rows before it
abbrev pub IsHeld : List Cell → Entry → Type 0
IsHeld rows e = IsSomeAnd e.made (λ m. IsHeldRecord rows e m)

-- the reads of a record, if there is one
abbrev pub reads_of : Option Made → List Read
reads_of None = []
reads_of (Some m) = m.trace.reads

-- where those of an entry's record looked
abbrev pub looked : Entry → List ReadAt
looked e = map read_at (reads_of e.made)

abbrev pub all_looked : List Entry → List (List ReadAt)
all_looked entries = map looked entries

-- what a repairer keeps beside its entries and the rows before them, which stand in order: what they wrote, where they looked, which are
-- marked, and whether one may have calls. An entry that isn't marked can be stale by an answer alone
pub record IsKept (base : List Cell) (entries : List Entry) (writes : List (List Write)) (marks : KeptMarks) (calls : Bool) : Type 0 where
  pub ordered : IsOrdered cell_place base
  pub tied : writes ≡ all_written entries
  pub looked : marks.reads ≡ all_looked entries
  pub held : (place : ℕ) (d : Entry) → place < length entries → is_marked place marks.marks ≡ false → IsHeld (rows_after base (take place entries)) (slice_index_or entries place d)
  pub quiet : calls ≡ false → All (λ (e : Entry). e.slots ≡ []) entries

-- a record is of the entry as it is now, with an answer for each of its slots
pub record IsOfNow (e : Entry) (m : Made) : Type 0 where
  pub alive : m.alive ≡ is_alive e
  pub version : m.version ≡ e.version
  pub request : m.request ≡ e.request
  pub count : length m.trace.answers ≡ length e.slots

-- an entry's record consumed what its slots consume now
abbrev pub IsAnswered : Consumed → Entry → Type 0
IsAnswered consumed e = IsSomeAnd e.made (λ m. m.trace.answers ≡ map consumed e.slots)

-- the entry at this place is current
abbrev pub IsCurrentAt : Consumed → List Cell → List Entry → ℕ → Type 0
IsCurrentAt consumed base entries place = HoldsAt (IsCurrent consumed (rows_after base (take place entries))) entries place

-- of these marks before an end, each is of an entry that is current
abbrev pub AreCurrent : Consumed → List Cell → List Entry → List ℕ → ℕ → Type 0
AreCurrent consumed base entries marks end =
    (q : ℕ) → q < end → IsTrue (is_marked q marks) → IsCurrentAt consumed base entries q

-- the first of the marked entries that is stale
pub record IsFirstMarked (consumed : Consumed) (base : List Cell) (entries : List Entry) (marks : List ℕ) (place : ℕ) : Type 0 where
  pub within : place < length entries
  pub before : AreCurrent consumed base entries marks place
  pub stale : HoldsAt (λ e. ¬ IsCurrent consumed (rows_after base (take place entries)) e) entries place

-- the first entry whose record consumed something else
pub record IsFirstChanged (consumed : Consumed) (entries : List Entry) (place : ℕ) : Type 0 where
  pub within : place < length entries
  pub before : (q : ℕ) → q < place → HoldsAt (IsAnswered consumed) entries q
  pub stale : HoldsAt (λ e. ¬ IsAnswered consumed e) entries place

-- from a place on what looks at a cell of these writes is marked, and no mark is lost
pub record IsMarkedFrom (place : ℕ) (writes : List Write) (before after : KeptMarks) : Type 0 where
  pub reads : after.reads ≡ before.reads
  pub stays : (q : ℕ) → is_marked q after.marks ≡ false → is_marked q before.marks ≡ false
  pub sees : (q : ℕ) → place ≤ q → q < length before.reads → is_marked q after.marks ≡ false → sees writes (slice_index_or before.reads q []) ≡ false

-- the same behind a place, where an entry writes these and wrote those before, each key once: what both write changes nothing
pub record IsMarkedBehind (place : ℕ) (was now : List Write) (before after : KeptMarks) : Type 0 where
  pub old : IsOrdered write_place was
  pub new : IsOrdered write_place now
  pub marked : IsMarkedFrom (place + 1) (changes was now) before after

-- an entry was put at a place before these rows: marked unless it is held on them
pub record IsPutAt (place : ℕ) (e : Entry) (rows : List Cell) (before after : KeptMarks) : Type 0 where
  pub reads : after.reads ≡ insert before.reads place (looked e)
  pub held : is_marked place after.marks ≡ false → IsHeld rows e
  pub front : (q : ℕ) → q < place → is_marked q after.marks ≡ is_marked q before.marks
  pub behind : (q : ℕ) → place ≤ q → is_marked (q + 1) after.marks ≡ is_marked q before.marks

-- the entry of a number is marked besides, if the log has one
pub record IsIdMarked (id : ℕ) (entries : List Entry) (before after : KeptMarks) : Type 0 where
  pub log : IsLog entries
  pub reads : after.reads ≡ before.reads
  pub marks : MatchOption (position (has_id id) entries) (after.marks ≡ before.marks) (λ place. (q : ℕ) → is_marked q after.marks ≡ (nat_eq q place || is_marked q before.marks))
