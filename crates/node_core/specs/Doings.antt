-- What an event does to a node's service and to the worker's receipts.
use Rattle.std.specs.Prelude.{ℕ, ◌≡◌, ◌++◌, List, [], ◌∷◌, Option, None, Result, Ok, IsSome, IsSomeAnd}
use Rattle.lang_core.specs.declared.ids.Origin.{Origin}
use Rattle.lang_core.specs.declared.inputs.Inputs.{Inputs}
use Rattle.lang_core.specs.declared.request.Request.{Request}
use Rattle.call_registers.specs.Registers.{register}
use Rattle.call_registers.specs.declared.register.Register.{Register}
use Rattle.flights.specs.declared.flight.Flight.{Flight}
use Rattle.service_events.specs.Event.{IsFailure}
use Rattle.service_events.specs.Flying.{awaited}
use Rattle.service_events.specs.Posts.{write_post}
use Rattle.service_events.specs.State.{Kept, flight_of, me}
use Rattle.service_events.specs.declared.answers.Arrived.{Arrived}
use Rattle.service_events.specs.declared.answers.Arrived.TheVariants as arrived
use Rattle.service_events.specs.declared.event.Done.{Done}
use Rattle.service_events.specs.declared.event.Done.TheVariants as done
use Rattle.service_events.specs.declared.event.Event.{Event}
use Rattle.service_events.specs.declared.event.Event.TheVariants as events
use Rattle.service_core.specs.Answers.{Answers}
use Rattle.node_core.specs.Receipts.{IsReceiptOf}
use Rattle.node_core.specs.declared.notes.Begun.{Begun}
use Rattle.node_core.specs.declared.receipt.Receipt.{Receipt}

-- ---- the worker's open flight

abbrev pub IsSameFlight : Begun → Flight → Type 0
IsSameFlight b f = (f.origin ≡ b.origin) × (f.request ≡ b.request) × (f.inputs ≡ b.inputs) × (awaited f ≡ b.number)

abbrev pub IsSameCall : Begun → Register → Type 0
IsSameCall b r = (r.dest ≡ b.dest) × (r.version ≡ 1)

-- this service has it, and it waits for its call at version 1
pub record IsThere (s : Kept) (b : Begun) : Type 0 where
  pub service : me s ≡ b.service
  pub flight : IsSomeAnd (flight_of b.flight s) (IsSameFlight b)
  pub call : IsSomeAnd (register b.number s.registers) (IsSameCall b)

-- it has this number
abbrev pub IsOpen : ℕ → Option Begun → Type 0
IsOpen flight begun = IsSomeAnd begun (λ (b : Begun). b.flight ≡ flight)

-- the flight that an event is of, where it is of one, is there
abbrev pub FindsFlight : Kept → Option Begun → Event → Type 0
FindsFlight s begun (events.CallAnswered flight answer) = IsSomeAnd begun (IsThere s)
FindsFlight s begun (events.CallFailed flight number why) = IsSomeAnd begun (IsThere s)
FindsFlight s begun (events.Abandon flight) = IsSomeAnd begun (IsThere s)
FindsFlight s begun event = Unit {0}

-- where the service doesn't have it, the answer says so and nothing changed; else this holds
abbrev pub UnlessGone : Kept → Option Begun → Done → Kept → Type 0 → Type 0
UnlessGone s begun done.Gone t this = (IsSomeAnd begun (λ b. ¬ IsThere s b)) × (t ≡ s)
UnlessGone s begun answer t this = (IsSomeAnd begun (IsThere s)) × this

-- ---- conditions

-- what the service's call asks for; no flight is open at an arrival, and what is said of a flight is said of the open one
abbrev pub MayAsk : Kept → Option Begun → Event → Type 0
MayAsk s begun (events.Arrive o q i) = begun ≡ None
MayAsk s begun (events.CallAnswered flight answer) = IsOpen flight begun
MayAsk s begun (events.CallFailed flight number why) =
    IsSomeAnd begun (λ (b : Begun). (b.flight ≡ flight) × (b.number ≡ number)) × IsFailure why
MayAsk s begun (events.Abandon flight) = IsOpen flight begun
MayAsk s begun (events.WritePost name) = IsSome (write_post s name)
MayAsk s begun event = Unit {0}

-- it may commit a live request
abbrev pub MayCommit : Event → Type 0
MayCommit (events.Arrive o q i) = Unit {0}
MayCommit (events.CallAnswered flight answer) = Unit {0}
MayCommit (events.CallFailed flight number why) = Unit {0}
MayCommit event = ⊥

-- memory is asked for before the service's call is made: for a receipt, or for what is noted of the event
abbrev pub AsksMemory : Event → Type 0
AsksMemory (events.Arrive o q i) = Unit {0}
AsksMemory (events.CallAnswered flight answer) = Unit {0}
AsksMemory (events.CallFailed flight number why) = Unit {0}
AsksMemory (events.Take set i) = Unit {0}
AsksMemory (events.TakeToken t) = Unit {0}
AsksMemory (events.Give f) = Unit {0}
AsksMemory (events.NextPost dest) = Unit {0}
AsksMemory (events.Order command token who i) = Unit {0}
AsksMemory event = ⊥

-- ---- the service

-- the service made the event once, and this is what it answered and left; where the worker's open flight isn't there, it made none
abbrev pub IsDone : Kept → Option Begun → Event → Done → Kept → Type 0
IsDone s begun (events.CallAnswered flight a) answer t = UnlessGone s begun answer t (Answers s (events.CallAnswered flight a) answer t)
IsDone s begun (events.CallFailed flight number why) answer t = UnlessGone s begun answer t (Answers s (events.CallFailed flight number why) answer t)
IsDone s begun (events.Abandon flight) answer t = UnlessGone s begun answer t (Answers s (events.Abandon flight) answer t)
IsDone s begun event answer t = Answers s event answer t

-- ---- commits and receipts

-- how many live requests were committed
abbrev pub commits_in : {E : Type 0} → Result Arrived E → ℕ
commits_in (Ok (arrived.Done index id answer)) = 1
commits_in result = 0

abbrev pub commits : Done → ℕ
commits (done.Arrive result) = commits_in result
commits (done.CallAnswered result) = commits_in result
commits (done.CallFailed result) = commits_in result
commits answer = 0

-- one receipt more, which is so
pub record OneMore (P : Receipt → Type 0) (before behind : List Receipt) : Type 0 where
  pub receipt : Receipt
  pub last : behind ≡ before ++ receipt ∷ []
  pub so : P receipt

-- behind a commit one receipt more than before, of that live request; else those of before
abbrev pub GetsReceipt : {E : Type 0} → Kept → List ℕ → Origin → Request → Inputs → Result Arrived E → List Receipt → List Receipt → Type 0
GetsReceipt t secret o q i (Ok (arrived.Done index id answer)) before behind = OneMore (IsReceiptOf t secret o q i index id) before behind
GetsReceipt t secret o q i result before behind = behind ≡ before

-- the same, of the live request that the open flight is
abbrev pub GetsReceiptOf : {E : Type 0} → Kept → List ℕ → Option Begun → Result Arrived E → List Receipt → List Receipt → Type 0
GetsReceiptOf t secret begun result before behind =
    IsSomeAnd begun (λ (b : Begun). GetsReceipt t secret b.origin b.request b.inputs result before behind)

abbrev pub ArrivalsReceipt : Kept → List ℕ → Origin → Request → Inputs → Done → List Receipt → List Receipt → Type 0
ArrivalsReceipt t secret o q i (done.Arrive result) before behind = GetsReceipt t secret o q i result before behind
ArrivalsReceipt t secret o q i answer before behind = behind ≡ before

-- the receipts behind an event that this was answered of, by what the open flight was
abbrev pub HasReceipts : Kept → List ℕ → Option Begun → Event → Done → List Receipt → List Receipt → Type 0
HasReceipts t secret begun (events.Arrive o q i) answer before behind = ArrivalsReceipt t secret o q i answer before behind
HasReceipts t secret begun event (done.CallAnswered result) before behind = GetsReceiptOf t secret begun result before behind
HasReceipts t secret begun event (done.CallFailed result) before behind = GetsReceiptOf t secret begun result before behind
HasReceipts t secret begun event answer before behind = behind ≡ before
