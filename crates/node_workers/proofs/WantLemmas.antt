-- A service that has the open flight refuses what came of its call for want of memory alone.
use Rattle.std.proofs.Common.{◌≡◌, ℕ, Bool, true, false, List, Option, Some, None, Result, Ok, Err, IfErr, IfOk, IsSomeAnd, nat_eq, if◌then◌else◌, refl, sym, ◌∙◌, subst, eq-eqb}
use Rattle.std.proofs.lemmas.Bool.{and_from}
use Rattle.lang_base.specs.Texts.{same_text}
use Rattle.lang_base.specs.declared.memory.NoMemory.{NoMemory as LacksMemory}
use Rattle.repair_messages.specs.declared.messages.AnswerMessage.{AnswerMessage}
use Rattle.call_registers.specs.Registers.{register}
use Rattle.call_registers.specs.declared.register.Register.{Register}
use Rattle.call_registers.specs.declared.register.Why.{Why}
use Rattle.flights.specs.declared.flight.Flight.{Flight}
use Rattle.service_events.specs.Arriving.{accepted, answered_flight, answers_register, call_answered_event, call_failed_event, failed_flight, is_for, live_answer_rows, told}
use Rattle.service_events.specs.Calls.{noted}
use Rattle.service_events.specs.Doing.{Does, call_memory}
use Rattle.service_events.specs.Flying.{awaited, goes_on}
use Rattle.service_events.specs.State.{After, Kept, after, flight_of, me}
use Rattle.service_events.specs.declared.answers.Arrived.{Arrived}
use Rattle.service_events.specs.declared.answers.Arrived.TheVariants as arrived
use Rattle.service_events.specs.declared.event.Done.{Done as NodeDone}
use Rattle.service_events.specs.declared.event.Done.TheVariants as done
use Rattle.service_events.specs.declared.refusals.CallRefused.{CallRefused}
use Rattle.service_events.specs.declared.refusals.CallRefused.TheVariants as refusals
use Rattle.wire_fields.proofs.SealLemmas.{text_same}
use Rattle.node_core.specs.Doings.{IsSameCall, IsSameFlight, IsThere}
use Rattle.node_core.specs.declared.notes.Begun.{Begun}
use Rattle.node_core.specs.declared.notes.Notes.{Notes}
use Rattle.node_core.specs.declared.receipt.Receipt.{Receipt}
use Rattle.node_exchanges.specs.Calls.{AnswersOnly}
use Rattle.node_workers.specs.Desks.{Endpoint}
use Rattle.node_workers.specs.Flying.{IsWanting, SentBy, end_of_call, went_of}
use Rattle.node_workers.specs.Turns.{Made}
use Rattle.node_workers.specs.declared.flying.Went.TheVariants as went
use Rattle.node_workers.proofs.FlightLemmas.{accepted_by, map_some}
use Rattle.node_workers.proofs.SentLemmas.{answered_sent, failed_sent}

-- ---- an event that isn't refused

abbrev IsAccepted : After (Result Arrived CallRefused) → Type 0
IsAccepted event = IfErr event.answer (λ (why : CallRefused). ⊥)

-- it is refused for want of memory alone
memory_alone : (event : After (Result Arrived CallRefused)) (s t : Kept) (why : CallRefused) → IsAccepted event → Does call_memory event s (Err why) t
    → why ≡ refusals.NoMemory
memory_alone event s t refusals.NoMemory taken does = refl
memory_alone event s t (refusals.NoFlight n) taken does = absurd (subst IsAccepted (sym does) taken)

module _ (s : Kept) (flight : ℕ) where
  by_test : (b : Bool) (event : After Arrived) → b ≡ true → IsAccepted (if b then accepted event else after s (Err (refusals.NoFlight flight)))
  by_test true event is = tt
  by_test false event is = absurd (cc is)

  -- the failure of the call that the flight waits for
  failed_taken : (number : ℕ) (why : Why) (o : Option Flight) → IsSomeAnd o (λ (f : Flight). awaited f ≡ number) → IsAccepted (failed_flight s flight number why o)
  failed_taken number why None here = absurd here
  failed_taken number why (Some f) here = by_test (nat_eq (awaited f) number) (goes_on (told number why s) f) (eq-eqb (awaited f) number here)

  -- an answer to it
  answered_taken : (a : AnswerMessage) (o : Option Flight) → IsSomeAnd o (λ (f : Flight). is_for s a f ≡ true) → IsAccepted (answered_flight s flight a o)
  answered_taken a None here = absurd here
  answered_taken a (Some f) here = by_test (is_for s a f) (goes_on (noted (live_answer_rows s a) s) f) here

-- ---- the open flight's call

same_by : (a b : List ℕ) → a ≡ b → same_text a b ≡ true
same_by a b is = subst (λ (t : List ℕ). same_text a t ≡ true) is (text_same a)

registered : (b : Begun) (a : AnswerMessage) (o : Option Register) → IsSomeAnd o (IsSameCall b) → a.callee ≡ b.dest → a.version ≡ 1 → answers_register a o ≡ true
registered b a None here dest version = absurd here
registered b a (Some r) here dest version =
    and_from (same_text r.dest a.callee) (nat_eq r.version a.version) (same_by r.dest a.callee (here.0 ∙ sym dest)) (eq-eqb r.version a.version (here.1 ∙ sym version))

module _ (s : Kept) (b : Begun) (flight number : ℕ) (there : IsThere s b) (of : b.flight ≡ flight) where
  flight_there : IsSomeAnd (flight_of flight s) (IsSameFlight b)
  flight_there = subst (λ (n : ℕ). IsSomeAnd (flight_of n s) (IsSameFlight b)) of there.flight

  failure_taken : (why : Why) → b.number ≡ number → IsAccepted (call_failed_event s flight number why)
  failure_taken why at =
      failed_taken s flight number why (flight_of flight s)
      (map_some (flight_of flight s) (IsSameFlight b) (λ (f : Flight). awaited f ≡ number) (λ f h. h.3 ∙ at) flight_there)

  answer_taken : (a : AnswerMessage) → AnswersOnly b.dest b.number (Ok a) → IsAccepted (call_answered_event s flight a)
  answer_taken a to =
      answered_taken s flight a (flight_of flight s)
      (map_some (flight_of flight s) (IsSameFlight b) (λ (f : Flight). is_for s a f ≡ true)
      (λ f h. and_from (nat_eq (awaited f) a.number) (answers_register a (register a.number s.registers)) (eq-eqb (awaited f) a.number (h.3 ∙ sym to.1))
      (registered b a (register a.number s.registers) (subst (λ (n : ℕ). IsSomeAnd (register n s.registers) (IsSameCall b)) (sym to.1) there.call) to.0 to.2)) flight_there)

-- ---- what a service answers when it is told

module _ (e : Endpoint) (flight number : ℕ) (before now : Notes) (had have : List Receipt) (b : Begun) (at : before.begun ≡ Some b) (of : b.flight ≡ flight) where
  abbrev ToldAs : Result AnswerMessage Why → NodeDone → Type 0
  ToldAs came d = Made e.me before now had have (end_of_call flight number came) d

  there_at : (s : Kept) → IsSomeAnd before.begun (IsThere s) → IsThere s b
  there_at s is = subst (λ (o : Option Begun). IsSomeAnd o (IsThere s)) at is

  wanting_answer : (a : AnswerMessage) → AnswersOnly b.dest b.number (Ok a) → (d : NodeDone) → ToldAs (Ok a) d → went.NoMemory ≡ went_of (Ok d) → IsWanting d
  wanting_answer a to (done.CallAnswered (Ok (arrived.Done index id sent))) m lacks = absurd (cc lacks)
  wanting_answer a to (done.CallAnswered (Ok (arrived.Call next set))) m lacks = absurd (cc lacks)
  wanting_answer a to (done.CallAnswered (Ok (arrived.Known known))) m lacks =
      absurd (accepted_by call_memory (SentBy (me m.service)) (call_answered_event m.service flight a) m.service m.left (Ok (arrived.Known known)) m.made.1.0
      (answered_sent m.service flight a))
  wanting_answer a to (done.CallAnswered (Err why)) m lacks =
      subst (λ (w : CallRefused). IsWanting (done.CallAnswered (Err w)))
      (sym (memory_alone (call_answered_event m.service flight a) m.service m.left why (answer_taken m.service b flight number (there_at m.service m.made.0) of a to) m.made.1.0)) tt
  wanting_answer a to done.Gone m lacks = absurd (cc lacks)
  wanting_answer a to (done.Arrive result) m lacks = absurd m.made.1
  wanting_answer a to (done.CallFailed result) m lacks = absurd m.made.1
  wanting_answer a to (done.Abandon found) m lacks = absurd m.made.1
  wanting_answer a to (done.Take result) m lacks = absurd m.made.1
  wanting_answer a to (done.TakeToken result) m lacks = absurd m.made.1
  wanting_answer a to (done.Give result) m lacks = absurd m.made.1
  wanting_answer a to (done.NextPost name) m lacks = absurd m.made.1
  wanting_answer a to (done.WritePost result) m lacks = absurd m.made.1
  wanting_answer a to (done.Posted result) m lacks = absurd m.made.1
  wanting_answer a to (done.Step result) m lacks = absurd m.made.1
  wanting_answer a to (done.Order result) m lacks = absurd m.made.1

  wanting_failure : (why : Why) → b.number ≡ number → (d : NodeDone) → ToldAs (Err why) d → went.NoMemory ≡ went_of (Ok d) → IsWanting d
  wanting_failure why of_call (done.CallFailed (Ok (arrived.Done index id sent))) m lacks = absurd (cc lacks)
  wanting_failure why of_call (done.CallFailed (Ok (arrived.Call next set))) m lacks = absurd (cc lacks)
  wanting_failure why of_call (done.CallFailed (Ok (arrived.Known known))) m lacks =
      absurd (accepted_by call_memory (SentBy (me m.service)) (call_failed_event m.service flight number why) m.service m.left (Ok (arrived.Known known)) m.made.1.0
      (failed_sent m.service flight number why))
  wanting_failure why of_call (done.CallFailed (Err refused)) m lacks =
      subst (λ (w : CallRefused). IsWanting (done.CallFailed (Err w)))
      (sym (memory_alone (call_failed_event m.service flight number why) m.service m.left refused
      (failure_taken m.service b flight number (there_at m.service m.made.0) of why of_call) m.made.1.0)) tt
  wanting_failure why of_call done.Gone m lacks = absurd (cc lacks)
  wanting_failure why of_call (done.Arrive result) m lacks = absurd m.made.1
  wanting_failure why of_call (done.CallAnswered result) m lacks = absurd m.made.1
  wanting_failure why of_call (done.Abandon found) m lacks = absurd m.made.1
  wanting_failure why of_call (done.Take result) m lacks = absurd m.made.1
  wanting_failure why of_call (done.TakeToken result) m lacks = absurd m.made.1
  wanting_failure why of_call (done.Give result) m lacks = absurd m.made.1
  wanting_failure why of_call (done.NextPost name) m lacks = absurd m.made.1
  wanting_failure why of_call (done.WritePost result) m lacks = absurd m.made.1
  wanting_failure why of_call (done.Posted result) m lacks = absurd m.made.1
  wanting_failure why of_call (done.Step result) m lacks = absurd m.made.1
  wanting_failure why of_call (done.Order result) m lacks = absurd m.made.1

  wanting_by : (came : Result AnswerMessage Why) → b.number ≡ number → AnswersOnly b.dest b.number came → (answer : Result NodeDone LacksMemory)
      → IfOk answer (ToldAs came) → went.NoMemory ≡ went_of answer → IfOk answer IsWanting
  wanting_by (Ok a) of_call to (Ok d) m lacks = wanting_answer a to d m lacks
  wanting_by (Err why) of_call to (Ok d) m lacks = wanting_failure why of_call d m lacks
  wanting_by came of_call to (Err why) m lacks = tt

-- where the flight waits as before, memory was wanting
pub wants_memory : (e : Endpoint) (flight number : ℕ) (before now : Notes) (had have : List Receipt) (came : Result AnswerMessage Why) (answer : Result NodeDone LacksMemory)
    (o : Option Begun) → before.begun ≡ o → IsSomeAnd o (λ (b : Begun). (b.flight ≡ flight) × (b.number ≡ number))
    → IsSomeAnd o (λ (b : Begun). AnswersOnly b.dest b.number came) → IfOk answer (Made e.me before now had have (end_of_call flight number came))
    → went.NoMemory ≡ went_of answer → IfOk answer IsWanting
wants_memory e flight number before now had have came answer None at here to m lacks = absurd here
wants_memory e flight number before now had have came answer (Some b) at here to m lacks =
    wanting_by e flight number before now had have b at here.0 came here.1 to answer m lacks
