-- What events leave of folded entries; what is read, replayed and audited of a service whose first entries are folded; and what an order leaves
-- that brings a program or rules.
use Rattle.std.specs.Prelude.{ℕ, ◌≡◌, ◌↔◌, ◌<◌, List, length, map, slice_index_or, take}
use Rattle.lang_core.specs.declared.cells.Cell.{Cell}
use Rattle.lang_programs.specs.Numbered.{Numbered}
use Rattle.lang_programs.specs.Under.{under_of}
use Rattle.request_log.specs.Folded.{bare}
use Rattle.request_log.specs.declared.entry.Entry.{Entry}
use Rattle.local_repair.specs.Corrections.{IsCurrentButHandler}
use Rattle.local_repair.specs.Current.{IsCurrent, rows_after}
use Rattle.local_repair.specs.Histories.{act_of}
use Rattle.local_repair.specs.Programs.{HasItsHandler}
use Rattle.journal_rows.specs.declared.orders.Command.{Command}
use Rattle.journal_rows.specs.declared.orders.Command.TheVariants.{Correct, Deploy, Fold, Rules}
use Rattle.flights.specs.declared.flight.Flight.{Flight}
use Rattle.service_events.specs.State.{Kept, KeepsFolded, answers, base, unfolded}
use Rattle.service_events.specs.declared.event.Event.{Event}
use Rattle.service_events.specs.declared.event.Event.TheVariants as events
use Rattle.service_core.specs.Readings.{first_stale}

-- whatever is read, replayed or audited of it is as before: each entry at its place, but for what it read and wrote; each request of its
-- history, with what it called, consumed and answered; the rows at the end; which entry is the first stale one, if one is; and all else that
-- it keeps but its journal
pub record ReadsAsBefore (s t : Kept) : Type 0 where
  pub entries : map bare t.entries ≡ map bare s.entries
  pub history : map (act_of (answers t)) t.entries ≡ map (act_of (answers s)) s.entries
  pub rows : rows_after (base t) (unfolded t) ≡ rows_after (base s) (unfolded s)
  pub stale : first_stale t ≡ first_stale s
  pub others : t ≡ record s { entries = t.entries; horizon = t.horizon; base = t.base; journal = t.journal }

-- Every entry is as before, with its record, its slots and its program, and so is every flight; each is stale exactly where it was, and the rows
-- and all else are as before, but for the program and the rules of what comes, and the journal
pub record LeavesAll (s t : Kept) : Type 0 where
  pub entries : t.entries ≡ s.entries
  pub flights : t.flights ≡ s.flights
  pub fresh : (rows : List Cell) (e : Entry) → IsCurrent (answers t) rows e ↔ IsCurrent (answers s) rows e
  pub stale : first_stale t ≡ first_stale s
  pub rows : rows_after (base t) (unfolded t) ≡ rows_after (base s) (unfolded s)
  pub history : map (act_of (answers t)) t.entries ≡ map (act_of (answers s)) s.entries
  pub others : t ≡ record s { newest = t.newest; rules = t.rules; journal = t.journal }

-- an entry, but for the program under which it runs: with that of its record
abbrev pub as_recorded : Entry → Entry
as_recorded e = record e { under = under_of e.under.ran }

-- a flight, but for its program, of which it has this one
abbrev pub flying_under : Numbered → Flight → Flight
flying_under p f = record f { program = p }

-- an entry that isn't stale, unless it is by its handler, among those that aren't folded
abbrev pub IsFreshButHandler : Kept → ℕ → Entry → Type 0
IsFreshButHandler s place e = IsCurrentButHandler (answers s) (rows_after (base s) (take place (unfolded s))) e

abbrev pub IsFresh : Kept → ℕ → Entry → Type 0
IsFresh s place e = IsCurrent (answers s) (rows_after (base s) (take place (unfolded s))) e

-- Every entry is as before, with its record, its slots and the program of its record, but for the program under which it runs; so is every flight
-- but for its program. Exactly those entries are stale whose record's handler isn't that of their program now, and those that another cause makes
-- stale, as it did before. The rows and all else are as before, but for the newest program and the journal
pub record LeavesRecords (s t : Kept) : Type 0 where
  pub entries : map as_recorded t.entries ≡ map as_recorded s.entries
  pub flights : (p : Numbered) → map (flying_under p) t.flights ≡ map (flying_under p) s.flights
  pub stale : (place : ℕ) (d : Entry) → place < length (unfolded s)
      → IsFresh t place (slice_index_or (unfolded t) place d)
      ↔ (IsFreshButHandler s place (slice_index_or (unfolded s) place d) × HasItsHandler (slice_index_or (unfolded t) place d))
  pub rows : rows_after (base t) (unfolded t) ≡ rows_after (base s) (unfolded s)
  pub others : t ≡ record s { newest = t.newest; entries = t.entries; flights = t.flights; journal = t.journal }

-- a fold leaves all that is read as it was; a program or rules from now on leave every entry, and a program in the place of another one every record
abbrev pub CommandKeeps : Command → Kept → Kept → Type 0
CommandKeeps (Fold id) s t = ReadsAsBefore s t
CommandKeeps (Deploy p) s t = LeavesAll s t
CommandKeeps (Rules g) s t = LeavesAll s t
CommandKeeps (Correct k p) s t = LeavesRecords s t
CommandKeeps command s t = Unit {0}

-- what was folded is folded still, and is as it was; and what is said of such an order holds also where it is refused
abbrev pub OrderKeeps : Command → Kept → Kept → Type 0
OrderKeeps command s t = KeepsFolded s t × CommandKeeps command s t

-- the same of every event
abbrev pub EventKeeps : Event → Kept → Kept → Type 0
EventKeeps (events.Order command token who i) s t = OrderKeeps command s t
EventKeeps event s t = KeepsFolded s t
