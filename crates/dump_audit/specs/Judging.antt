-- What a dump is found to be: a legal execution, or none for its first fault.
use Rattle.std.specs.Prelude.{ℕ, Bool, true, false, ◌&&◌, not, List, [], ◌∷◌, length, Option, Some, None, Result, Ok, Err, nat_eq, find, filter, if◌then◌else◌}
use Rattle.std.specs.Coded.{coded_list}
use Rattle.std.specs.List.{list_any}
use Rattle.std.specs.Option.{is_some}
use Rattle.lang_base.specs.Equal.{equal}
use Rattle.lang_base.specs.Texts.{same_text}
use Rattle.lang_core.specs.Origins.{is_call}
use Rattle.lang_core.specs.Rows.{apply}
use Rattle.lang_core.specs.Traces.{dead_trace}
use Rattle.lang_core.specs.contracts.cells.Cell as cell
use Rattle.lang_core.specs.contracts.request.Request as request
use Rattle.lang_core.specs.contracts.request.Response as response
use Rattle.lang_core.specs.contracts.trace.CallMade as call_made
use Rattle.lang_core.specs.declared.cells.Cell.{Cell}
use Rattle.lang_core.specs.declared.ids.Origin.{Origin}
use Rattle.lang_core.specs.declared.ids.Origin.TheVariants.{Outside, Call}
use Rattle.lang_core.specs.declared.request.Response.{Response}
use Rattle.lang_core.specs.declared.setting.Setting.{Setting}
use Rattle.lang_core.specs.declared.trace.CallMade.{CallMade}
use Rattle.lang_core.specs.declared.trace.Trace.{Trace}
use Rattle.handler_run.specs.Handlers.{run_of}
use Rattle.handler_run.specs.HandedOn.{with_program}
use Rattle.handler_run.specs.declared.state.Ran.{Ran}
use Rattle.handler_run.specs.declared.state.Ran.TheVariants.{Done, Wants}
use Rattle.dump_tables.specs.declared.dump.DumpEntry.{DumpEntry}
use Rattle.dump_tables.specs.declared.dump.DumpService.{DumpService}
use Rattle.dump_audit.specs.declared.judged.Fault.{Fault}
use Rattle.dump_audit.specs.declared.judged.Fault.TheVariants as fault
use Rattle.dump_audit.specs.declared.judged.Judged.{Judged}
use Rattle.dump_audit.specs.declared.judged.Judged.TheVariants.{Legal, Differs}

-- ---- an entry and its trace

-- an entry survives where its origin wants it and no order has struck it
abbrev pub is_alive : DumpEntry → Bool
is_alive e = e.wanted && not e.struck

-- the trace of a run, if it wants no answer more
abbrev pub ended : Ran → Option Trace
ended (Done t) = Some t
ended (Wants slot calls call) = None

-- what an entry does on these rows with the answers that it consumed: the run of its own program, or nothing where it doesn't survive
abbrev pub trace_of : Setting → List Cell → DumpEntry → Option Trace
trace_of setting rows e = if is_alive e then ended (run_of (with_program e.program setting) e.request e.inputs e.answers rows) else Some dead_trace

-- each call of the entry has its name and its answer
abbrev pub is_told : DumpEntry → Bool
is_told e = nat_eq (length e.numbers) (length e.calls) && nat_eq (length e.answers) (length e.calls)

-- the calls of the entry are the trace's, and what they consumed is what the trace takes
abbrev pub same_calls : DumpEntry → Trace → Bool
same_calls e t =
    is_told e
    && (equal (coded_list call_made.the_row.coded) e.calls t.calls
    && equal (coded_list response.the_row.coded) e.answers t.answers)

-- this response is told
abbrev pub is_response : Option Response → Response → Bool
is_response None r = false
is_response (Some told) r = equal response.the_row.coded told r

-- in what the entry isn't this trace
abbrev pub difference : DumpEntry → Trace → Option Fault
difference e t =
    if not (same_calls e t) then Some fault.Calls else (if not (is_response e.reply t.response) then Some fault.Reply else None)

-- the rows then, or a fault
abbrev pub stepped : Option Fault → List Cell → Result (List Cell) Fault
stepped None rows = Ok rows
stepped (Some what) rows = Err what

-- the rows after an entry with this trace, or in what the entry isn't so
abbrev pub checked : DumpEntry → List Cell → Option Trace → Result (List Cell) Fault
checked e rows None = Err fault.Calls
checked e rows (Some t) = stepped (difference e t) (apply rows t.writes)

-- the rows after an entry that stands on these, or its fault
abbrev pub after : Setting → List Cell → DumpEntry → Result (List Cell) Fault
after setting rows e = checked e rows (trace_of setting rows e)

-- ---- the faults of a service, each by the number of its entry

-- a fault, and the number of its entry
abbrev pub Found : Type 0
Found = Option (ℕ × Fault)

abbrev pub goes_on : ℕ → Result (List Cell) Fault → (List Cell → Found) → Found
goes_on id (Err what) next = Some (id, what)
goes_on id (Ok rows) next = next rows

-- the first fault of entries that stand on these rows, or else of the rows that they leave
abbrev pub replay_from : Setting → List Cell → List DumpEntry → List Cell → Found
replay_from setting rows [] last = if equal (coded_list cell.the_row.coded) rows last then None else Some (0, fault.Rows)
replay_from setting rows (e ∷ entries) last = goes_on e.id (after setting rows e) (λ next. replay_from setting next entries last)

-- the first fault of a service alone, from empty rows on
abbrev pub replay_fault : DumpService → Found
replay_fault s = replay_from s.setting [] s.entries s.rows

-- the service of this name, if it is one of these
abbrev pub service_in : List ℕ → List DumpService → Option DumpService
service_in name world = find (λ s. same_text s.setting.me name) world

-- the entry asks what the call asks, its origin wants it, and it answers what the call consumed
abbrev pub serves : CallMade → Response → DumpEntry → Bool
serves call answer e = e.wanted && (equal request.the_row.coded e.request call.request && is_response e.reply answer)

-- one entry, and it serves the call
abbrev pub serves_alone : CallMade → Response → List DumpEntry → Bool
serves_alone call answer (e ∷ []) = serves call answer e
serves_alone call answer entries = false

abbrev pub is_served_by : Option DumpService → List ℕ → ℕ → CallMade → Response → Bool
is_served_by None caller number call answer = false
is_served_by (Some s) caller number call answer = serves_alone call answer (filter (λ e. is_call caller number e.origin) s.entries)

-- the service that was called has exactly one entry of this call, and that serves it
abbrev pub is_served : List DumpService → List ℕ → ℕ → CallMade → Response → Bool
is_served world caller number call answer = is_served_by (service_in call.dest world) caller number call answer

-- each of these calls, by its number and with what it consumed; there are as many of each
abbrev pub all_served : List DumpService → List ℕ → List CallMade → List ℕ → List Response → Bool
all_served world caller [] ns rs = nat_eq (length ns) 0 && nat_eq (length rs) 0
all_served world caller (c ∷ cs) (n ∷ ns) (r ∷ rs) = is_served world caller n c r && all_served world caller cs ns rs
all_served world caller cs ns rs = false

-- each call of the entry is served, if it survives; it has to have run
abbrev pub is_answered : List DumpService → List ℕ → DumpEntry → Bool
is_answered world me e = if is_alive e then is_some e.reply && all_served world me e.calls e.numbers e.answers else true

-- this call is one of these, by its number
abbrev pub is_among : ℕ → CallMade → List CallMade → List ℕ → Bool
is_among number call (c ∷ cs) (n ∷ ns) =
    if nat_eq n number && equal call_made.the_row.coded c call then true else is_among number call cs ns
is_among number call cs ns = false

-- an entry that survives, and ran, made this call
abbrev pub makes : ℕ → CallMade → DumpEntry → Bool
makes number call e = is_alive e && (is_some e.reply && is_among number call e.calls e.numbers)

abbrev pub is_made_by : Option DumpService → ℕ → CallMade → Bool
is_made_by None number call = false
is_made_by (Some s) number call = list_any (makes number call) s.entries

-- where the origin is a call to the service of this name, its caller makes it
abbrev pub is_made : List DumpService → List ℕ → DumpEntry → Origin → Bool
is_made world me e Outside = true
is_made world me e (Call caller number) = is_made_by (service_in caller world) number (record { dest = me; request = e.request })

-- the entry is called for, if it is wanted
abbrev pub is_called_for : List DumpService → List ℕ → DumpEntry → Bool
is_called_for world me e = if e.wanted then is_made world me e e.origin else true

-- the first entry that fails this test, and in what
abbrev pub first_failing : Fault → (DumpEntry → Bool) → List DumpEntry → Found
first_failing what test [] = None
first_failing what test (e ∷ entries) = if test e then first_failing what test entries else Some (e.id, what)

abbrev pub answer_fault : List DumpService → DumpService → Found
answer_fault world s = first_failing fault.Answer (is_answered world s.setting.me) s.entries

abbrev pub stray_fault : List DumpService → DumpService → Found
stray_fault world s = first_failing fault.Stray (is_called_for world s.setting.me) s.entries

-- ---- a dump

-- a fault of the service of this name, or what is found behind it
abbrev pub found_in : List ℕ → Found → Option Judged → Option Judged
found_in me None later = later
found_in me (Some found) later = Some (Differs me found.0 found.1)

-- the first fault of a kind that one of these services has
abbrev pub first_in : (DumpService → Found) → List DumpService → Option Judged
first_in kind [] = None
first_in kind (s ∷ services) = found_in s.setting.me (kind s) (first_in kind services)

-- what was found, or what is found later
abbrev pub found_or : Option Judged → Judged → Judged
found_or None later = later
found_or (Some found) later = found

-- of services that replay, the answers that they gave one another come first, and then who was called for
abbrev pub judged_together : List DumpService → Judged
judged_together world = found_or (first_in (answer_fault world) world) (found_or (first_in (stray_fault world) world) Legal)

-- the replays of all services come before
abbrev pub judged : List DumpService → Judged
judged world = found_or (first_in replay_fault world) (judged_together world)
