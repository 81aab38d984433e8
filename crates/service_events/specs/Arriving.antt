-- Events of live requests: an arrival, the answer or the failure of a call, an abandonment.
use Rattle.std.specs.Prelude.{ℕ, Bool, true, false, ◌&&◌, List, [], ◌∷◌, Option, Some, None, Result, Ok, Err, if◌then◌else◌, nat_eq}
use Rattle.lang_base.specs.Texts.{same_text}
use Rattle.lang_core.specs.declared.ids.Origin.{Origin}
use Rattle.lang_core.specs.declared.ids.Origin.TheVariants.{Outside, Call}
use Rattle.lang_core.specs.declared.inputs.Inputs.{Inputs}
use Rattle.lang_core.specs.declared.request.Request.{Request}
use Rattle.request_log.specs.Entries.{find_call}
use Rattle.request_log.specs.Records.{Record, record_of}
use Rattle.request_log.specs.declared.entry.Entry.{Entry}
use Rattle.repair_messages.specs.declared.messages.AnswerMessage.{AnswerMessage}
use Rattle.journal_rows.specs.Words.{last_taken}
use Rattle.journal_rows.specs.declared.callee.TookRow.{TookRow}
use Rattle.journal_rows.specs.declared.caller.AckHow.TheVariants.{WithAnswer}
use Rattle.journal_rows.specs.declared.caller.SawHow.TheVariants.{Live}
use Rattle.journal_rows.specs.declared.row.Row.{Row}
use Rattle.journal_rows.specs.declared.row.Row.TheVariants.{SawAck, SawAnswer}
use Rattle.call_registers.specs.Registers.{register, at_number, with_cause, is_newer}
use Rattle.call_registers.specs.declared.register.Register.{Register}
use Rattle.call_registers.specs.declared.register.Why.{Why}
use Rattle.flights.specs.declared.flight.Flight.{Flight}
use Rattle.service_events.specs.State.{Kept, After, after, or_else, is_crowded, is_heavy, is_in_flight, flight_of, free_flight, without_flight}
use Rattle.service_events.specs.Calls.{noted, all_deleted}
use Rattle.service_events.specs.Flying.{goes_on, awaited, last_answer}
use Rattle.service_events.specs.declared.answers.Arrived.{Arrived}
use Rattle.service_events.specs.declared.answers.Arrived.TheVariants.{Known}
use Rattle.service_events.specs.declared.refusals.ArriveRefused.{ArriveRefused}
use Rattle.service_events.specs.declared.refusals.ArriveRefused.TheVariants.{Full, NotYet, Gone}
use Rattle.service_events.specs.declared.refusals.CallRefused.{CallRefused}
use Rattle.service_events.specs.declared.refusals.CallRefused.TheVariants.{NoFlight}

-- what was answered, as no refusal
abbrev pub accepted : {A E : Type 0} → After A → After (Result A E)
accepted a = after a.service (Ok a.answer)

-- ---- an arrival

-- under the newest program
abbrev pub new_flight : Kept → Origin → Request → Inputs → Flight
new_flight s origin q i =
    record { id = free_flight s; origin = origin; request = q; inputs = i; program = s.newest; calls = []; numbers = []; changes = 0 }

-- refused where there is too much, this much; else it runs
abbrev pub admitted : Kept → Origin → Request → Inputs → Option ℕ → After (Result Arrived ArriveRefused)
admitted s origin q i (Some n) = after s (Err (Full n))
admitted s origin q i None = accepted (goes_on s (new_flight s origin q i))

-- the number of entries and flights counts first
abbrev pub arrives : Kept → Origin → Request → Inputs → After (Result Arrived ArriveRefused)
arrives s origin q i = admitted s origin q i (or_else (is_crowded s) (is_heavy s))

abbrev pub known_by : Kept → List ℕ → ℕ → Entry → Option Record → After (Result Arrived ArriveRefused)
known_by s caller number e None = after s (Err (NotYet number))
known_by s caller number e (Some r) = after s (Ok (Known (last_answer s caller number e r)))

abbrev pub arrives_or_known : Kept → List ℕ → ℕ → Request → Inputs → Option Entry → After (Result Arrived ArriveRefused)
arrives_or_known s caller number q i (Some e) = known_by s caller number e (record_of e)
arrives_or_known s caller number q i None = arrives s (Call caller number) q i

abbrev pub by_version : Kept → ℕ → Option Request → After (Result Arrived ArriveRefused) → After (Result Arrived ArriveRefused)
by_version s version None known = after s (Err (Gone version))
by_version s version (Some q) known = known

-- a call that was deleted is gone, whether or not it has an entry
abbrev pub unless_gone : Kept → Option TookRow → After (Result Arrived ArriveRefused) → After (Result Arrived ArriveRefused)
unless_gone s None known = known
unless_gone s (Some t) known = by_version s t.version t.desired known

abbrev pub arrive_event : Kept → Origin → Request → Inputs → After (Result Arrived ArriveRefused)
arrive_event s Outside q i = arrives s Outside q i
arrive_event s (Call caller number) q i =
    if is_in_flight (Call caller number) s then after s (Err (NotYet number))
    else unless_gone s (last_taken caller number s.journal)
    (arrives_or_known s caller number q i (find_call (Call caller number) s.entries))

-- ---- a call's answer

-- the answer is to the version of the call that the register has
abbrev pub answers_register : AnswerMessage → Option Register → Bool
answers_register a None = false
answers_register a (Some r) = same_text r.dest a.callee && nat_eq r.version a.version

-- the flight waits for this answer
abbrev pub is_for : Kept → AnswerMessage → Flight → Bool
is_for s a f = nat_eq (awaited f) a.number && answers_register a (register a.number s.registers)

-- its answer version is above that of the answer that is held
abbrev pub is_new_to : AnswerMessage → Option Register → Bool
is_new_to a None = true
is_new_to a (Some r) = is_newer r.answer a.answer_version

abbrev pub seen_live : AnswerMessage → Row
seen_live a =
    SawAnswer (record {
      number = a.number;
      answer_version = a.answer_version;
      version = a.version;
      response = a.response;
      how = Live;
      who = a.who;
      rule = 0;
    })

-- the rows of a live answer
abbrev pub live_answer_rows : Kept → AnswerMessage → List Row
live_answer_rows s a =
    SawAck (record { number = a.number; version = a.version; how = WithAnswer a.answer_version })
    ∷ (if is_new_to a (register a.number s.registers) then seen_live a ∷ [] else [])

abbrev pub answered_flight : Kept → ℕ → AnswerMessage → Option Flight → After (Result Arrived CallRefused)
answered_flight s id a None = after s (Err (NoFlight id))
answered_flight s id a (Some f) =
    if is_for s a f then accepted (goes_on (noted (live_answer_rows s a) s) f) else after s (Err (NoFlight id))

abbrev pub call_answered_event : Kept → ℕ → AnswerMessage → After (Result Arrived CallRefused)
call_answered_event s id a = answered_flight s id a (flight_of id s)

-- ---- a call's failure

-- the register keeps why
abbrev pub told : ℕ → Why → Kept → Kept
told number why s = record s { registers = at_number number (with_cause why) s.registers }

abbrev pub failed_flight : Kept → ℕ → ℕ → Why → Option Flight → After (Result Arrived CallRefused)
failed_flight s id number why None = after s (Err (NoFlight id))
failed_flight s id number why (Some f) =
    if nat_eq (awaited f) number then accepted (goes_on (told number why s) f) else after s (Err (NoFlight id))

abbrev pub call_failed_event : Kept → ℕ → ℕ → Why → After (Result Arrived CallRefused)
call_failed_event s id number why = failed_flight s id number why (flight_of id s)

-- ---- an abandonment

-- the flight is gone, and its calls are deleted
abbrev pub abandoned : Kept → Option Flight → After Bool
abandoned s None = after s false
abandoned s (Some f) =
    after (noted (all_deleted s.registers f.numbers f.calls) (record s { flights = without_flight f.id s.flights })) true

abbrev pub abandon_event : Kept → ℕ → After Bool
abandon_event s id = abandoned s (flight_of id s)
