-- A live request from its arrival to its end.
use Rattle.std.specs.Prelude.{ℕ, ◌≡◌, ◌≤◌, ◌+◌, ◌++◌, ◌⊎◌, ◌∷◌, List, [], Option, Some, None, Result, Ok, Err, IfOk, OnErr}
use Rattle.lang_base.specs.declared.memory.NoMemory.{NoMemory as LacksMemory}
use Rattle.lang_core.specs.declared.ids.Origin.{Origin}
use Rattle.lang_core.specs.declared.ids.Origin.TheVariants.{Outside, Call}
use Rattle.lang_core.specs.declared.inputs.Inputs.{Inputs}
use Rattle.lang_core.specs.declared.request.Request.{Request}
use Rattle.repair_messages.specs.declared.messages.AnswerMessage.{AnswerMessage}
use Rattle.repair_messages.specs.declared.messages.SetMessage.{SetMessage}
use Rattle.call_registers.specs.declared.register.Why.{Why}
use Rattle.service_events.specs.Refusals.{arrive_refusal}
use Rattle.service_events.specs.declared.answers.Arrived.{Arrived}
use Rattle.service_events.specs.declared.answers.Arrived.TheVariants as arrived
use Rattle.service_events.specs.declared.event.Done.{Done as NodeDone}
use Rattle.service_events.specs.declared.event.Done.TheVariants as done
use Rattle.service_events.specs.declared.event.Event.{Event as NodeEvent}
use Rattle.service_events.specs.declared.event.Event.TheVariants as events
use Rattle.service_events.specs.declared.refusals.ArriveRefused.{ArriveRefused}
use Rattle.service_events.specs.declared.refusals.ArriveRefused.TheVariants as refusals
use Rattle.service_events.specs.declared.refusals.CallRefused.TheVariants as call_refusals
use Rattle.io_links.specs.Exchanges.{Exchanges}
use Rattle.io_links.specs.declared.links.Exchanged.{Exchanged}
use Rattle.node_core.specs.Doings.{IsOpen}
use Rattle.node_core.specs.Notes.{turn_by}
use Rattle.node_core.specs.declared.notes.Begun.{Begun}
use Rattle.node_core.specs.declared.notes.Notes.{Notes}
use Rattle.node_core.specs.declared.notes.Turn.TheVariants as turns
use Rattle.node_core.specs.declared.receipt.Receipt.{Receipt}
use Rattle.node_exchanges.specs.Calls.{IsCallOf, IsSent, LinkTells}
use Rattle.node_workers.specs.Desks.{Endpoint}
use Rattle.node_workers.specs.Serving.{OneReceipt}
use Rattle.node_workers.specs.Turns.{IsUntouched, Made}
use Rattle.node_workers.specs.declared.flying.Went.{Went}
use Rattle.node_workers.specs.declared.flying.Went.TheVariants as went
use Rattle.node_workers.specs.declared.live.Ending.{Ending}
use Rattle.node_workers.specs.declared.live.Ending.TheVariants as ends
use Rattle.node_workers.specs.declared.live.Began.{Began}
use Rattle.node_workers.specs.declared.live.Began.TheVariants as begins

-- ---- the open flight

-- it is of this request, and waits for this call
pub record IsWaiting (e : Endpoint) (origin : Origin) (request : Request) (i : Inputs) (begun : Option Begun) (flight : ℕ) (set : SetMessage) : Type 0 where
  pub waiting : Begun
  pub is : begun ≡ Some waiting
  pub flight_so : waiting.flight ≡ flight
  pub number : waiting.number ≡ set.number
  pub dest : waiting.dest ≡ set.dest
  pub of : waiting.origin ≡ origin
  pub asked : waiting.request ≡ request
  pub inputs : waiting.inputs ≡ i
  pub from : set.caller ≡ e.me

-- what the service answered when it was told what came of a call
abbrev pub went_by : {E : Type 0} → Result Arrived E → Went
went_by (Ok (arrived.Done index id answer)) = went.Committed index
went_by (Ok (arrived.Call flight set)) = went.Call flight set
went_by result = went.NoMemory

abbrev pub went_with : NodeDone → Went
went_with (done.CallAnswered result) = went_by result
went_with (done.CallFailed result) = went_by result
went_with done.Gone = went.Gone
went_with other = went.NoMemory

abbrev pub went_of : Result NodeDone LacksMemory → Went
went_of (Ok answer) = went_with answer
went_of (Err why) = went.NoMemory

-- the event that ends a call, by what came of it
abbrev pub end_of_call : ℕ → ℕ → Result AnswerMessage Why → NodeEvent
end_of_call flight number (Ok answer) = events.CallAnswered flight answer
end_of_call flight number (Err why) = events.CallFailed flight number why

-- the service answered that memory was wanting
abbrev pub IsWanting : NodeDone → Type 0
IsWanting (done.CallAnswered (Err call_refusals.NoMemory)) = Unit {0}
IsWanting (done.CallFailed (Err call_refusals.NoMemory)) = Unit {0}
IsWanting answer = ⊥

-- What came of the open flight's call was told to the service, in one event, or none where there was no memory for it. By what it answered, the
-- flight goes on this way; it waits as before for want of memory alone.
pub record IsToldOnce (e : Endpoint) (flight number : ℕ) (came : Result AnswerMessage Why) (before now : Notes) (had have : List Receipt) (way : Went) : Type 0 where
  pub answer : Result NodeDone LacksMemory
  pub made : IfOk answer (Made e.me before now had have (end_of_call flight number came))
  pub nothing : OnErr answer ((now ≡ before) × (have ≡ had))
  pub goes : way ≡ went_of answer
  pub wanting : way ≡ went.NoMemory → IfOk answer IsWanting

-- it was told so in one event, and memory was wanting
abbrev pub IsToldInVain : Endpoint → ℕ → ℕ → Result AnswerMessage Why → Notes → Notes → List Receipt → Type 0
IsToldInVain e flight number came before now receipts =
    (d : NodeDone) × Made e.me before now receipts receipts (end_of_call flight number came) d × IsWanting d

-- it was told once; or twice, where memory was wanting the first time
pub record IsTold (e : Endpoint) (flight number : ℕ) (came : Result AnswerMessage Why) (before now : Notes) (had have : List Receipt) (way : Went) : Type 0 where
  pub since : Notes
  pub first : (since ≡ before) ⊎ IsToldInVain e flight number came before since had
  pub last : IsToldOnce e flight number came since now had have way

-- no more is counted as lost and as refused than this
pub record NotesAtMost (before now : Notes) (lost refused : ℕ) : Type 0 where
  pub lost_at_most : now.lost ≤ before.lost + lost
  pub refused_at_most : now.refused ≤ before.refused + refused

-- nothing but the open flight, which is none, and how the last event was turned away
pub record IsGivenUp (before now : Notes) : Type 0 where
  pub closed : now.begun ≡ None
  pub lost : now.lost ≡ before.lost
  pub refused : now.refused ≡ before.refused

-- how the flight of this number went on
abbrev pub GoesOn : Endpoint → Origin → Request → Inputs → ℕ → Notes → List Receipt → List Receipt → Went → Type 0
GoesOn e o q i flight now had have (went.Committed index) = (now.begun ≡ None) × OneReceipt o q i index had have
GoesOn e o q i flight now had have (went.Call next set) = IsWaiting e o q i now.begun next set × (have ≡ had)
GoesOn e o q i flight now had have went.Gone = (now.begun ≡ None) × (now.turn ≡ Some turns.Gone) × (have ≡ had)
GoesOn e o q i flight now had have went.NoMemory = IsOpen flight now.begun × (have ≡ had)

-- ---- the end

-- the caller of a call
abbrev pub IsCaller : List ℕ → Origin → Type 0
IsCaller name Outside = ⊥
IsCaller name (Call caller number) = name ≡ caller

-- the notes have this answer to the arrival
abbrev pub IsNoted : Origin → Request → Inputs → Notes → NodeDone → Type 0
IsNoted o q i now answer = now.gave ≡ Some (record { asked = events.Arrive o q i; done = answer })

-- where it wasn't refused, this holds of what it was answered
abbrev pub IfAccepted : {E : Type 0} → (Arrived → Type 0) → Result Arrived E → Type 0
IfAccepted P (Ok a) = P a
IfAccepted P (Err why) = Unit {0}

-- a call that is sent is the service's own; a flight that goes on isn't known
abbrev pub SentBy : List ℕ → Arrived → Type 0
SentBy name (arrived.Done index id answer) = Unit {0}
SentBy name (arrived.Call flight set) = set.caller ≡ name
SentBy name (arrived.Known a) = ⊥

-- likewise at an arrival, where an answer that is known is the service's to the caller
abbrev pub ArrivesAs : List ℕ → Origin → Arrived → Type 0
ArrivesAs name o (arrived.Done index id answer) = Unit {0}
ArrivesAs name o (arrived.Call flight set) = set.caller ≡ name
ArrivesAs name o (arrived.Known a) = (a.callee ≡ name) × IsCaller a.caller o

-- a request from outside is refused for what there is too much of, or for memory
abbrev pub RefusesAs : Origin → ArriveRefused → Type 0
RefusesAs Outside why = ((n : ℕ) × (why ≡ refusals.Full n)) ⊎ (why ≡ refusals.NoMemory)
RefusesAs (Call caller number) why = Unit {0}

-- how a live request ended
abbrev pub EndsSo : Endpoint → Origin → Request → Inputs → Notes → List Receipt → List Receipt → Ending → Type 0
EndsSo e o q i now had have (ends.Committed index) = OneReceipt o q i index had have
EndsSo e o q i now had have (ends.Known a) =
    IsNoted o q i now (done.Arrive (Ok (arrived.Known a))) × (a.callee ≡ e.me) × IsCaller a.caller o × (have ≡ had)
EndsSo e o q i now had have (ends.Refused why) =
    IsNoted o q i now (done.Arrive (Err why)) × (now.turn ≡ Some (turn_by (arrive_refusal why))) × RefusesAs o why × (have ≡ had)
EndsSo e o q i now had have ends.Gone = (now.turn ≡ Some turns.Gone) × (have ≡ had)
EndsSo e o q i now had have ends.NoMemory = have ≡ had

-- what an arrival was answered
abbrev pub began_by : Result Arrived ArriveRefused → Began
began_by (Ok (arrived.Done index id answer)) = begins.Ended (ends.Committed index)
began_by (Ok (arrived.Call flight set)) = begins.Call flight set
began_by (Ok (arrived.Known a)) = begins.Ended (ends.Known a)
began_by (Err why) = begins.Ended (ends.Refused why)

abbrev pub began_with : NodeDone → Began
began_with (done.Arrive result) = began_by result
began_with other = begins.Ended ends.NoMemory

abbrev pub began_of : Result NodeDone LacksMemory → Began
began_of (Ok answer) = began_with answer
began_of (Err why) = begins.Ended ends.NoMemory

-- it has ended so, or waits for this call
abbrev pub BeginsSo : Endpoint → Origin → Request → Inputs → Notes → List Receipt → List Receipt → Began → Type 0
BeginsSo e o q i now had have (begins.Ended ending) = EndsSo e o q i now had have ending × (now.begun ≡ None)
BeginsSo e o q i now had have (begins.Call flight set) = IsWaiting e o q i now.begun flight set × (have ≡ had)

-- ---- all its events

-- a call of a flight was made in this exchange, and what came of it was told to the service
pub record MakesCall (e : Endpoint) (flight : ℕ) (set : SetMessage) (x : Exchanged) (before now : Notes) (had have : List Receipt) (way : Went) : Type 0 where
  pub came : Result AnswerMessage Why
  pub of : IsCallOf e set came x
  pub told : IsTold e flight set.number came before now had have way

-- These exchanges were the calls of a flight, one after the other: each was the call that the service named last, until the flight goes on
-- this way.
abbrev pub MakesCalls : Endpoint → List Exchanged → Notes → Notes → List Receipt → List Receipt → Went → Went → Type 0
MakesCalls e [] before now had have from way = (now ≡ before) × (have ≡ had) × (way ≡ from)
MakesCalls e (x ∷ made) before now had have (went.Call flight set) way =
    (mid : Notes) × (held : List Receipt) × (next : Went) × MakesCall e flight set x before mid had held next
    × MakesCalls e made mid now held have next way
MakesCalls e (x ∷ made) before now had have from way = ⊥

-- no exchange, or one in which the call was sent
abbrev pub SentAtMost : Endpoint → SetMessage → List Exchanged → Type 0
SentAtMost e set [] = Unit {0}
SentAtMost e set (x ∷ []) = IsSent e set x
SentAtMost e set (x ∷ y ∷ more) = ⊥

-- There was no memory for this call, or for what came of it: no exchange was made, or one in which it was sent, and no event was; or it was
-- told to the service what came of that exchange, and memory was wanting.
abbrev pub StopsAt : Endpoint → ℕ → SetMessage → List Exchanged → Notes → Notes → List Receipt → List Receipt → Type 0
StopsAt e flight set made before now had have =
    (SentAtMost e set made × IsUntouched before now had have)
    ⊎ ((x : Exchanged) × (made ≡ x ∷ []) × MakesCall e flight set x before now had have went.NoMemory)

-- a flight whose next call is this goes on this way, by these exchanges
abbrev pub GoesBy : Endpoint → ℕ → SetMessage → List Exchanged → Notes → Notes → List Receipt → List Receipt → Went → Type 0
GoesBy e flight set made before now had have went.NoMemory = StopsAt e flight set made before now had have
GoesBy e flight set made before now had have way = MakesCalls e made before now had have (went.Call flight set) way

-- the flight was given up, in one event; asked of a service that doesn't have it, nothing came of that
abbrev pub GivesUp : ℕ → Notes → Notes → List Receipt → List Receipt → Type 0
GivesUp flight before now had have = (name : List ℕ) × (d : NodeDone) × Made name before now had have (events.Abandon flight) d

-- A flight that was given up for want of memory: the first of these exchanges were its calls, and memory was wanting for the call that the
-- service named last, which was sent in the rest, if at all.
pub record IsAbandoned (e : Endpoint) (flight : ℕ) (set : SetMessage) (made : List Exchanged) (before now : Notes) (had have : List Receipt) : Type 0 where
  pub front : List Exchanged
  pub rest : List Exchanged
  pub is : made ≡ front ++ rest
  pub last : ℕ
  pub call : SetMessage
  pub named : Notes
  pub stopped : Notes
  pub held : List Receipt
  pub kept : List Receipt
  pub calls : MakesCalls e front before named had held (went.Call flight set) (went.Call last call)
  pub stops : StopsAt e last call rest named stopped held kept
  pub up : GivesUp last stopped now kept have

-- a flight that ended so, by all its exchanges and events
abbrev pub FliesSo : Endpoint → ℕ → SetMessage → List Exchanged → Notes → Notes → List Receipt → List Receipt → Ending → Type 0
FliesSo e flight set made before now had have (ends.Committed index) = MakesCalls e made before now had have (went.Call flight set) (went.Committed index)
FliesSo e flight set made before now had have ends.Gone = MakesCalls e made before now had have (went.Call flight set) went.Gone
FliesSo e flight set made before now had have ends.NoMemory = IsAbandoned e flight set made before now had have
FliesSo e flight set made before now had have (ends.Known a) = ⊥
FliesSo e flight set made before now had have (ends.Refused why) = ⊥

-- the arrival was one event, or none where there was no memory for it, and the live request began by what the service answered
pub record IsArrival (e : Endpoint) (o : Origin) (q : Request) (i : Inputs) (before now : Notes) (had have : List Receipt) (began : Began) : Type 0 where
  pub answer : Result NodeDone LacksMemory
  pub made : IfOk answer (Made e.me before now had have (events.Arrive o q i))
  pub nothing : OnErr answer (IsUntouched before now had have)
  pub begins : began ≡ began_of answer

-- what began so ended so: at once, without an exchange and another event, or as a flight
abbrev pub EndsBy : Endpoint → Began → List Exchanged → Notes → Notes → List Receipt → List Receipt → Ending → Type 0
EndsBy e (begins.Ended at) made before now had have ending = (at ≡ ending) × (made ≡ []) × IsUntouched before now had have
EndsBy e (begins.Call flight set) made before now had have ending = FliesSo e flight set made before now had have ending

-- A live request that ended so, with all its exchanges and events: its arrival, and for each call that the service named, until it named none,
-- what came of the exchange in which that call was made.
pub record LivesSo (e : Endpoint) (o : Origin) (q : Request) (i : Inputs) (made : List Exchanged) (before now : Notes) (had have : List Receipt) (ending : Ending) : Type 0 where
  pub notes : Notes
  pub receipts : List Receipt
  pub began : Began
  pub arrival : IsArrival e o q i before notes had receipts began
  pub goes : EndsBy e began made notes now receipts have ending

-- ---- what the link tells of them

-- calls were made until the flight goes on this way
abbrev pub FliesOn : Endpoint → Notes → Notes → List Receipt → List Receipt → Exchanges → Exchanges → Went → Went → Type 0
FliesOn e before now had have was is from way = (made : List Exchanged) × LinkTells was is made × MakesCalls e made before now had have from way

-- this call was next, and the flight goes on this way
abbrev pub SendsNext : Endpoint → ℕ → SetMessage → Notes → Notes → List Receipt → List Receipt → Exchanges → Exchanges → Went → Type 0
SendsNext e flight set before now had have was is way = (made : List Exchanged) × LinkTells was is made × GoesBy e flight set made before now had have way

abbrev pub Flies : Endpoint → ℕ → SetMessage → Notes → Notes → List Receipt → List Receipt → Exchanges → Exchanges → Ending → Type 0
Flies e flight set before now had have was is ending = (made : List Exchanged) × LinkTells was is made × FliesSo e flight set made before now had have ending

abbrev pub Lives : Endpoint → Origin → Request → Inputs → Notes → Notes → List Receipt → List Receipt → Exchanges → Exchanges → Ending → Type 0
Lives e o q i before now had have was is ending = (made : List Exchanged) × LinkTells was is made × LivesSo e o q i made before now had have ending
