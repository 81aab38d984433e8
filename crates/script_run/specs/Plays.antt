-- What a script does, and what it says.
use Rattle.std.specs.Prelude.{ℕ, ◌≡◌, ◌+◌, Bool, true, false, List, [], ◌∷◌, ◌++◌, Option, Some, None, Ok, Err, ◌==◌, length, map, nat_lt, take}
use Rattle.std.specs.List.{slice_split}
use Rattle.report_text.specs.Reports.{verdict_text}
use Rattle.service_events.specs.State.{Kept, me}
use Rattle.order_texts.specs.Texts.{command_given, program_given}
use Rattle.service_reports.specs.Changed.{changed_of_service}
use Rattle.service_reports.specs.HandedOn.{Cancel}
use Rattle.service_reports.specs.Programs.{programs_of_service}
use Rattle.service_reports.specs.Reports.{log_of_service, notices_of_service, rows_of_service}
use Rattle.world_agreement.specs.Partners.{service_of}
use Rattle.world_events.specs.Events.{after_events}
use Rattle.world_events.specs.Live.{IsLiveEvent}
use Rattle.world_events.specs.Worlds.{World}
use Rattle.world_events.specs.declared.event.Event.{Event}
use Rattle.world_laws.specs.Runs.{IsAsking}
use Rattle.world_settle.specs.Doing.{AreOfSettling}
use Rattle.script_lines.specs.Faults.{fault_number}
use Rattle.script_lines.specs.Lines.{Read, line_at}
use Rattle.script_lines.specs.declared.line.Line.{Line}
use Rattle.script_lines.specs.declared.line.Line.TheVariants.{Blank, Event as One, Given, Ask, Settle, Rows, Log, Notices, Preview, Programs, Changed, Rehearse, Dump, Audit}
use Rattle.script_lines.specs.declared.line.LineFault.TheVariants.{TooLong}
use Rattle.script_run.specs.Audits.{verdict}
use Rattle.script_run.specs.Counting.{nothing_said, printed, said_then}
use Rattle.dump_lines.specs.Dumps.{dump_text}
use Rattle.script_run.specs.Giving.{given_events, given_said}
use Rattle.script_run.specs.Previewing.{PrintsPreview, PrintsRehearsal, SaysShown}
use Rattle.script_run.specs.Reporting.{report_of}
use Rattle.script_run.specs.Settling.{SaysSettled}
use Rattle.script_run.specs.Told.{LineAnswer, events_said}
use Rattle.script_run.specs.declared.counts.Said.{Said}

-- ---- what a line does

-- these are the events that a line comes to, in the world that it begins in
abbrev pub AreEventsOf : World → Line → List Event → Type 0
AreEventsOf w Blank events = events ≡ []
AreEventsOf w (One e) events = events ≡ e ∷ []
AreEventsOf w (Given service order token who text) events = events ≡ given_events service token who (command_given order text)
AreEventsOf w (Ask service request) events = IsAsking w service request events
AreEventsOf w (Settle n) events = AreOfSettling n w events
AreEventsOf w (Rows service) events = events ≡ []
AreEventsOf w (Log service) events = events ≡ []
AreEventsOf w (Notices service) events = events ≡ []
AreEventsOf w (Preview service id who) events = events ≡ []
AreEventsOf w (Programs service) events = events ≡ []
AreEventsOf w (Changed service) events = events ≡ []
AreEventsOf w (Rehearse service number who text) events = events ≡ []
AreEventsOf w Dump events = events ≡ []
AreEventsOf w Audit events = events ≡ []

-- ---- what a line says

-- the verdict over all services
abbrev pub audit_text : List Kept → List ℕ
audit_text services = verdict_text (map me services) (verdict services)

-- what a line says of its events, or which of the things that it names isn't there: a service, a packet or a flight
abbrev pub Says : World → Line → List Event → LineAnswer → Type 0
Says w (Settle n) events said = SaysSettled n w events said
Says w (Rows service) events said = said ≡ report_of rows_of_service (service_of service w.services)
Says w (Log service) events said = said ≡ report_of log_of_service (service_of service w.services)
Says w (Notices service) events said = said ≡ report_of (notices_of_service None) (service_of service w.services)
Says w (Given service order token who text) events said = said ≡ given_said w service (command_given order text) events
Says w (Preview service id who) events said = SaysShown (PrintsPreview (Cancel id) who) (service_of service w.services) said
Says w (Programs service) events said = said ≡ report_of programs_of_service (service_of service w.services)
Says w (Changed service) events said = said ≡ report_of changed_of_service (service_of service w.services)
Says w (Rehearse service number who text) events said =
    SaysShown (PrintsRehearsal number who (program_given text)) (service_of service w.services) said
Says w Dump events said = said ≡ Ok (printed (dump_text w.services))
Says w Audit events said = said ≡ Ok (printed (audit_text w.services))
Says w other events said = said ≡ events_said w events

-- ---- the same of what was read as a line

-- text, first word and shape of a line are tested before anything that it names
abbrev pub SaysFor : World → Read → List Event → LineAnswer → Type 0
SaysFor w (Ok line) events said = Says w line events said
SaysFor w (Err fault) events said = said ≡ Err fault

-- what can't be read has no events
abbrev pub AreEventsFor : World → Read → List Event → Type 0
AreEventsFor w (Ok line) events = AreEventsOf w line events
AreEventsFor w (Err fault) events = events ≡ []

-- ---- a script

-- what a script comes to: the events of its lines, one behind another, the world then, what its lines said, and the line and
-- number of a refusal
pub record Played : Type 0 where
  pub events : List Event
  pub world : World
  pub said : Said
  pub refused : Option (ℕ × ℕ)

-- no line is left
abbrev pub ended : World → Played
ended w = record { events = []; world = w; said = nothing_said; refused = None }

-- a line is refused, and does nothing
abbrev pub refused_at : ℕ → ℕ → World → Played
refused_at line number w = record { events = []; world = w; said = nothing_said; refused = Some (line, number) }

-- what was done and said before, and then this
abbrev pub played_after : List Event → Said → Played → Played
played_after events said p = record { events = events ++ p.events; world = p.world; said = said_then said p.said; refused = p.refused }

-- by what the n-th line says: one that is good is done and printed, and the rest follows; one that isn't ends the script
abbrev pub GoesOn : ℕ → World → List Event → LineAnswer → (World → Played → Type 0) → Played → Type 0
GoesOn n w events (Ok said) Rest p = (rest : Played) × Rest (after_events w events) rest × (p ≡ played_after events said rest)
GoesOn n w events (Err fault) Rest p = p ≡ refused_at n (fault_number fault) w

-- what lines from the n-th on come to
abbrev pub Plays : ℕ → World → List (List ℕ) → Played → Type 0
Plays n w [] p = p ≡ ended w
Plays n w (line ∷ lines) p =
    (events : List Event) × AreEventsFor w (line_at line) events
    × (said : LineAnswer) × SaysFor w (line_at line) events said
    × GoesOn n w events said (λ next rest. Plays (n + 1) next lines rest) p

-- nothing behind a last line feed is no line
abbrev pub unless_empty : List ℕ → List (List ℕ)
unless_empty [] = []
unless_empty (b ∷ bytes) = (b ∷ bytes) ∷ []

abbrev pub with_last : List (List ℕ) → List (List ℕ)
with_last [] = []
with_last (line ∷ []) = unless_empty line
with_last (line ∷ next ∷ lines) = line ∷ with_last (next ∷ lines)

-- lines end with a line feed, which the last may lack
abbrev pub lines_of : List ℕ → List (List ℕ)
lines_of script = with_last (slice_split (λ b. b == 10) script)

-- lines are counted from 1
abbrev pub IsPlayed : World → List ℕ → Played → Type 0
IsPlayed w script p = Plays 1 w (lines_of script) p

abbrev pub RunsIfLong : Bool → World → List ℕ → Played → Type 0
RunsIfLong true w script p = p ≡ refused_at 0 (fault_number TooLong) w
RunsIfLong false w script p = IsPlayed w script p

-- of more than 16,777,216 bytes
abbrev pub is_long : List ℕ → Bool
is_long script = nat_lt 16777216 (length script)

-- a script that is too long is refused as line 0, before any line
abbrev pub IsRunOf : World → List ℕ → Played → Type 0
IsRunOf w script p = RunsIfLong (is_long script) w script p

-- ---- where a run of a script stops

-- what its first lines alone come to
abbrev pub FirstPlay : ℕ → World → List ℕ → Played → Type 0
FirstPlay n w script p = Plays 1 w (take n (lines_of script)) p

-- these are the events of the first of some lines
abbrev pub AreEventsIn : World → List (List ℕ) → List Event → Type 0
AreEventsIn w [] events = events ≡ []
AreEventsIn w (line ∷ lines) events = AreEventsFor w (line_at line) events

-- ---- scripts of live requests

-- a line of live requests alone, or a report: no step, no order, no post, no settling. What can't be read does nothing
abbrev pub IsLiveLine : Read → Type 0
IsLiveLine (Ok (One e)) = IsLiveEvent e
IsLiveLine (Ok (Given service order token who text)) = ⊥
IsLiveLine (Ok (Settle n)) = ⊥
IsLiveLine (Ok other) = Unit {0}
IsLiveLine (Err fault) = Unit {0}

abbrev pub AreLiveLines : List (List ℕ) → Type 0
AreLiveLines [] = Unit {0}
AreLiveLines (line ∷ lines) = IsLiveLine (line_at line) × AreLiveLines lines
