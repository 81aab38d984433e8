-- What is noted of operators' orders.
use Rattle.std.specs.Prelude.{ℕ, ◌≡◌, ◌++◌, Bool, true, false, List, [], ◌∷◌, Option, Some, None, Ok, MatchOption, filter, length, option_map, slice_get}
use Rattle.journal_rows.specs.Words.{ordered}
use Rattle.journal_rows.specs.declared.orders.Command.{Command}
use Rattle.journal_rows.specs.declared.orders.OrderedRow.{OrderedRow}
use Rattle.journal_rows.specs.declared.row.Row.{Row}
use Rattle.journal_rows.specs.declared.row.Row.TheVariants.{Ordered}
use Rattle.service_events.specs.State.{Kept, me}
use Rattle.service_events.specs.declared.event.Done.{Done}
use Rattle.service_events.specs.declared.event.Done.TheVariants as done
use Rattle.service_events.specs.declared.event.Event.{Event}
use Rattle.service_events.specs.declared.event.Event.TheVariants as events
use Rattle.node_core.specs.declared.orders.OrderNote.{OrderNote}

-- it tells an order
abbrev pub is_order_row : Row → Bool
is_order_row (Ordered o) = true
is_order_row row = false

-- the rows of a journal that tell orders
abbrev pub ordered_rows : List Row → List Row
ordered_rows journal = filter is_order_row journal

-- the order that a row tells, where there is one
abbrev pub order_in : Option Row → Option OrderedRow
order_in (Some (Ordered o)) = Some o
order_in row = None

-- what is noted of an order, which stands at this index in the journal of the service of this name
abbrev pub order_note : List ℕ → ℕ → OrderedRow → OrderNote
order_note me index row = record { service = me; index = index; row = row }

-- of the one that stands there, if one does
abbrev pub note_at : List ℕ → ℕ → List Row → Option OrderNote
note_at me index journal = option_map (order_note me index) (order_in (slice_get journal index))

-- of the order that an event wrote, if it wrote one: its row is the first behind those of before
abbrev pub order_written : Kept → Kept → Event → Option OrderNote
order_written s t (events.Order command token who i) = note_at (me t) (length s.journal) t.journal
order_written s t event = None

-- by what an event was answered: only an accepted order wrote one
abbrev pub note_if_ordered : List ℕ → ℕ → List Row → Done → Option OrderNote
note_if_ordered me index journal (done.Order (Ok answer)) = note_at me index journal
note_if_ordered me index journal answer = None

-- with this note, where there is one
abbrev pub with_note : Option OrderNote → List OrderNote → List OrderNote
with_note None notes = notes
with_note (Some note) notes = notes ++ note ∷ []

-- ---- by what an order is answered

-- behind the rows of before stands the order's, with its command, its token and who gave it, and that is noted last
pub record WritesOrder (s t : Kept) (command : Command) (token who : List ℕ) (before behind : List OrderNote) : Type 0 where
  pub row : OrderedRow
  pub commands : row.command ≡ command
  pub named : row.token ≡ token
  pub given : row.who ≡ who
  pub there : slice_get t.journal (length s.journal) ≡ Some (Ordered row)
  pub last : behind ≡ before ++ order_note (me t) (length s.journal) row ∷ []

-- An order that is accepted is written and noted once, where no order of its token was accepted before; else it is answered as that was. Of no other
-- event an order is noted.
abbrev pub NotesOrder : Kept → Event → Done → Kept → List OrderNote → List OrderNote → Type 0
NotesOrder s (events.Order command token who i) (done.Order (Ok answer)) t before behind =
    MatchOption (ordered token s.journal) (WritesOrder s t command token who before behind) (λ (o : OrderedRow). behind ≡ before)
NotesOrder s event answer t before behind = behind ≡ before
