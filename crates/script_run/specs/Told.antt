-- What is said of events, one behind another.
use Rattle.std.specs.Prelude.{ℕ, Bool, true, false, ◌&&◌, ◌≡◌, List, [], ◌∷◌, Option, Some, None, Result, Ok, Err, if◌then◌else◌}
use Rattle.journal_rows.specs.declared.orders.Command.TheVariants.{Cancel}
use Rattle.world_events.specs.Events.{Answer, after_event, after_events, answer_to}
use Rattle.world_events.specs.Worlds.{World}
use Rattle.world_events.specs.declared.event.Event.{Event}
use Rattle.world_events.specs.declared.event.Event.TheVariants as event
use Rattle.world_events.specs.declared.event.WorldStepRefused.{WorldStepRefused}
use Rattle.world_events.specs.declared.event.WorldStepRefused.TheVariants.{NoMemory, NoService, NoPacket, NoFlight}
use Rattle.world_events.specs.declared.happened.Happened.{Happened}
use Rattle.world_events.specs.declared.happened.What.{What}
use Rattle.world_events.specs.declared.happened.What.TheVariants as what
use Rattle.script_text.specs.Details.{detail_of}
use Rattle.script_text.specs.Happenings.{happened_line, journal_of}
use Rattle.script_text.specs.declared.detail.Detail.{Detail}
use Rattle.script_lines.specs.declared.line.LineFault.{LineFault}
use Rattle.script_lines.specs.declared.line.LineFault.TheVariants.{Service, Packet, Flight}
use Rattle.script_run.specs.Counting.{line_counts, printed}
use Rattle.script_run.specs.declared.counts.Counts.{Counts}
use Rattle.script_run.specs.declared.counts.Said.{Said}

-- ---- the last that happened

-- what happened at an event, with what the event was told; where it didn't happen, what happened before
abbrev pub last_of : Option (Detail × Happened) → Detail → Answer → Option (Detail × Happened)
last_of before detail (Ok h) = Some (detail, h)
last_of before detail (Err why) = before

-- the last that happened at events one behind another, else what happened before
abbrev pub last_at : Option (Detail × Happened) → World → List Event → Option (Detail × Happened)
last_at before w [] = before
last_at before w (e ∷ events) = last_at (last_of before (detail_of e) (answer_to w e)) (after_event w e) events

-- the line that is printed of it, by the world after all events
abbrev pub line_of : World → Option (Detail × Happened) → List ℕ
line_of w None = []
line_of w (Some (detail, h)) = happened_line w.packets (journal_of h.service w) detail h

-- events print the line of the last that happened
abbrev pub last_line : World → List Event → List ℕ
last_line w events = line_of (after_events w events) (last_at None w events)

-- ---- what events say

-- what a line answers: what it says, or which of the things that it names isn't there
abbrev pub LineAnswer : Type 0
LineAnswer = Result Said LineFault

-- it is what this says of the events
abbrev pub saying : (List Event → LineAnswer) → List Event → LineAnswer → Type 0
saying says events said = said ≡ says events

-- what an event names that isn't there. No event wants memory
abbrev pub fault_of : WorldStepRefused → LineFault
fault_of NoService = Service
fault_of (NoPacket number) = Packet
fault_of (NoFlight number) = Flight
fault_of NoMemory = Service

-- an event's answer, as a line takes it
abbrev pub happened_or : Answer → Result Happened LineFault
happened_or (Ok h) = Ok h
happened_or (Err why) = Err (fault_of why)

-- an order to cancel an entry
abbrev pub is_cancel : Event → Bool
is_cancel (event.Order service (Cancel id) token who) = true
is_cancel e = false

-- an order was accepted
abbrev pub is_accepted : What → Bool
is_accepted (what.Order (Ok ordered)) = true
is_accepted w = false

-- what a line counts that orders to cancel, or doesn't, by what happened
abbrev pub event_counts : Bool → What → Counts
event_counts cancels w = record line_counts { cancelled = if cancels && is_accepted w then 1 else 0 }

-- by the answer of the first event: where it doesn't happen, the line is refused
abbrev pub said_of : Event → Answer → List ℕ → LineAnswer
said_of e (Ok h) text = Ok (record { text = text; counts = event_counts (is_cancel e) h.what })
said_of e (Err why) text = Err (fault_of why)

abbrev pub events_said : World → List Event → LineAnswer
events_said w [] = Ok (printed [])
events_said w (e ∷ events) = said_of e (answer_to w e) (last_line w (e ∷ events))
