-- A service with rows that are drafted, and which rows tell of a change.
use Rattle.std.specs.Prelude.{ℕ, ◌≡◌, List, [], ◌∷◌, ◌++◌, Option, Some, None, slice_get}
use Rattle.lang_core.specs.declared.trace.CallMade.{CallMade}
use Rattle.journal_rows.specs.declared.row.Row.{Row}
use Rattle.call_registers.specs.Overlays.{overlaid}
use Rattle.call_registers.specs.Registers.{next_number}
use Rattle.call_registers.specs.declared.register.Register.{Register}
use Rattle.flights.specs.declared.flight.Flight.{Flight}
use Rattle.service_events.specs.State.{Kept}
use Rattle.service_events.specs.Calls.{after_rows, deleted, named}
use Rattle.service_parts.specs.declared.draft.Draft.{Draft}

-- its rows stand last in the journal, and its changes are made of the registers
abbrev pub with_draft : Draft → Kept → Kept
with_draft d s = record s { journal = s.journal ++ d.rows.items; registers = overlaid d.changes s.registers }

-- the row of a deletion, where there is a call
abbrev pub deletion_in : List Register → Option ℕ → Option CallMade → List Row
deletion_in registers (Some number) (Some call) = deleted registers number call ∷ []
deletion_in registers (Some number) None = []
deletion_in registers None call = []

-- the old call at the slot is deleted, and this one is named
abbrev pub change_rows_in : List Register → Flight → ℕ → CallMade → List Row
change_rows_in registers f slot call =
    deletion_in registers (slice_get f.numbers slot) (slice_get f.calls slot) ++ named (next_number registers) call ∷ []

-- rows that tell of no call
abbrev pub TellNoCall : List Row → Type 0
TellNoCall rows = (at : ℕ) (registers : List Register) → after_rows at registers rows ≡ registers
