-- One connection served.
use Rattle.std.specs.Prelude.{ℕ, ◌≡◌, true, ◌++◌, ◌∷◌, ◌⊎◌, List, [], Option, Some, None, Result, Ok, Err, codes}
use Rattle.lang_core.specs.declared.ids.Origin.{Origin}
use Rattle.lang_core.specs.declared.ids.Origin.TheVariants as origins
use Rattle.lang_core.specs.declared.inputs.Inputs.{Inputs}
use Rattle.lang_core.specs.declared.request.Request.{Request}
use Rattle.repair_messages.specs.Refusals.{word_text}
use Rattle.repair_messages.specs.declared.refusals.Refusal.{Refusal}
use Rattle.repair_messages.specs.declared.messages.AnswerMessage.{AnswerMessage}
use Rattle.journal_rows.specs.declared.callee.AnsweredRow.{AnsweredRow}
use Rattle.journal_rows.specs.declared.orders.Command.{Command}
use Rattle.journal_rows.specs.declared.row.Row.TheVariants as rows
use Rattle.service_events.specs.State.{Kept}
use Rattle.service_events.specs.declared.answers.Arrived.{Arrived}
use Rattle.service_events.specs.declared.answers.Arrived.TheVariants as arrived
use Rattle.service_events.specs.declared.answers.Heard.{Heard}
use Rattle.service_events.specs.declared.answers.Ordered.{Ordered}
use Rattle.service_events.specs.declared.answers.Taken.{Taken}
use Rattle.service_events.specs.declared.event.Done.{Done as NodeDone}
use Rattle.service_events.specs.declared.event.Done.TheVariants as done
use Rattle.service_events.specs.declared.event.Event.{Event as NodeEvent}
use Rattle.service_events.specs.declared.event.Event.TheVariants as events
use Rattle.service_events.specs.declared.refusals.OrderRefused.{OrderRefused}
use Rattle.io_edge.specs.Edge.{Reads, ReadFails, Writes, Wrote, WroteShort, WriteFails}
use Rattle.http_front.specs.Writing.{response_bytes}
use Rattle.http_front.specs.declared.message.FrontRefused.{FrontRefused}
use Rattle.http_front.specs.declared.message.FrontRefused.TheVariants as front
use Rattle.http_front.specs.declared.message.WireResponse.{WireResponse}
use Rattle.wire_fields.specs.declared.console.ConsoleRequest.{ConsoleRequest}
use Rattle.wire_fields.specs.declared.console.ConsoleWord.{ConsoleWord}
use Rattle.wire_replies.specs.Writing.{written}
use Rattle.wire_replies.specs.declared.replies.Outgoing.{Outgoing}
use Rattle.wire_replies.specs.declared.replies.Outgoing.TheVariants as replies
use Rattle.wire_words.specs.Words.{front_word, wire_word}
use Rattle.aire_wire.specs.declared.incoming.Incoming.{Incoming}
use Rattle.aire_wire.specs.declared.incoming.Incoming.TheVariants as said
use Rattle.wire_bytes.specs.Console.{console_refusal}
use Rattle.wire_bytes.specs.Hearing.{IsHeardFrom, TakenSays}
use Rattle.wire_bytes.specs.declared.hearing.Unheard.TheVariants as unheard
use Rattle.order_texts.specs.declared.refused.TextFault.TheVariants.{Program}
use Rattle.admin_console.specs.Asking.{asked_in, is_of_the_run}
use Rattle.admin_console.specs.HandedOn.{Trial}
use Rattle.admin_console.specs.Previews.{TellsShown, Tried, tried_in}
use Rattle.admin_console.specs.Replies.{bad, fault_reply, order_reply, report_reply}
use Rattle.admin_console.specs.Reports.{report_of}
use Rattle.admin_console.specs.declared.asking.Asked.{Asked}
use Rattle.admin_console.specs.declared.asking.Asked.TheVariants as asks
use Rattle.admin_console.specs.declared.asking.Report.{Report}
use Rattle.node_core.specs.Notes.{turn_of}
use Rattle.node_core.specs.declared.notes.Gave.{Gave}
use Rattle.node_core.specs.declared.notes.Notes.{Notes}
use Rattle.node_core.specs.declared.notes.Turn.{Turn}
use Rattle.node_core.specs.declared.notes.Turn.TheVariants as turns
use Rattle.node_core.specs.declared.receipt.Receipt.{Receipt}
use Rattle.node_exchanges.specs.Endpoints.{Endpoint}
use Rattle.node_exchanges.specs.Replies.{known_reply, refusal_bytes}
use Rattle.node_exchanges.specs.declared.served.Served.{Served}
use Rattle.node_exchanges.specs.declared.served.Served.TheVariants as served
use Rattle.node_workers.specs.Desks.{IsServiceOf}
use Rattle.node_workers.specs.Messages.{IsOrderedSo}

-- ---- the message read

-- what was taken from the connection says this to the service
abbrev pub Hears : Endpoint → Reads → Reads → Incoming → Type 0
Hears e before now message =
    IsHeardFrom e.me e.secrets e.console before now (Ok message) × TakenSays e.me e.secrets e.console before now message

-- the service that sent it, where one did
abbrev pub sender : Incoming → Option (List ℕ)
sender (said.Outside q) = None
sender (said.Live set) = Some set.caller
sender (said.Set set) = Some set.caller
sender (said.Token t) = Some t.callee
sender (said.Fetch f) = Some f.caller
sender (said.Console asked) = None

-- it is a live request, of this origin
abbrev pub IsLiveRequest : Incoming → Origin → Request → Type 0
IsLiveRequest (said.Outside q) origin request = (origin ≡ origins.Outside) × (request ≡ q)
IsLiveRequest (said.Live set) origin request = (origin ≡ origins.Call set.caller set.number) × (set.desired ≡ Some request)
IsLiveRequest message origin request = ⊥

-- the event that it asks for: its arrival, that it is taken, or that an answer is given to it
abbrev pub AsksFor : Incoming → Inputs → NodeEvent → Type 0
AsksFor message i (events.Arrive origin request inputs) = IsLiveRequest message origin request × (inputs ≡ i)
AsksFor (said.Set set) i (events.Take taken inputs) = (taken ≡ set) × (inputs ≡ i)
AsksFor (said.Token t) i (events.TakeToken taken) = taken ≡ t
AsksFor (said.Fetch f) i (events.Give asked) = asked ≡ f
AsksFor message i event = ⊥

-- ---- what it is answered

-- the receipt of a request of this origin, whose answer stands at this index
pub record IsReceiptFor (origin : Origin) (request : Request) (i : Inputs) (index : ℕ) (r : Receipt) : Type 0 where
  pub answer : AnsweredRow
  pub row : r.row ≡ rows.Answered answer
  pub of : answer.origin ≡ origin
  pub asked : r.request ≡ request
  pub inputs : r.inputs ≡ i
  pub at : r.index ≡ index

-- one receipt more, which is that
pub record OneReceipt (origin : Origin) (request : Request) (i : Inputs) (index : ℕ) (had have : List Receipt) : Type 0 where
  pub receipt : Receipt
  pub last : have ≡ had ++ receipt ∷ []
  pub of : IsReceiptFor origin request i index receipt

-- the message is a live request that was committed: one receipt more, of it, whose reply these bytes are
pub record Commits (e : Endpoint) (i : Inputs) (before now : Reads) (had have : List Receipt) (index : ℕ) (bytes : List ℕ) : Type 0 where
  pub message : Incoming
  pub heard : Hears e before now message
  pub origin : Origin
  pub request : Request
  pub is : IsLiveRequest message origin request
  pub one : OneReceipt origin request i index had have
  pub reply : bytes ≡ one.receipt.reply

-- the message is a live request, and its flight wasn't there any more
pub record IsGone (e : Endpoint) (before now : Reads) (notes : Notes) : Type 0 where
  pub message : Incoming
  pub heard : Hears e before now message
  pub origin : Origin
  pub request : Request
  pub is : IsLiveRequest message origin request
  pub turn : notes.turn ≡ Some turns.Gone

-- the reply tells how the event was turned away; NoFlight and Foreign are told to no client
abbrev pub TellsTurn : Turn → Outgoing → Type 0
TellsTurn (turns.Refused word n) reply = reply ≡ replies.Refused (word_text word) n
TellsTurn turns.Gone reply = ⊥

abbrev pub arrived_reply : {E : Type 0} → Result Arrived E → Option Outgoing
arrived_reply (Ok (arrived.Known a)) = Some (known_reply a)
arrived_reply result = None

abbrev pub taken_reply : {E : Type 0} → Result Taken E → Option Outgoing
taken_reply (Ok taken) = Some (replies.Ack taken.ack)
taken_reply (Err why) = None

abbrev pub heard_reply : {E : Type 0} → Result Heard E → Option Outgoing
heard_reply (Ok heard) = Some (replies.Confirm heard.confirm)
heard_reply (Err why) = None

-- an answer that is fetched is told as one that a call was answered before
abbrev pub given_reply : {E : Type 0} → Result AnswerMessage E → Option Outgoing
given_reply (Ok a) = Some (known_reply a)
given_reply (Err why) = None

-- what an event's answer is replied as, where it refuses nothing
abbrev pub answer_reply : NodeDone → Option Outgoing
answer_reply (done.Arrive result) = arrived_reply result
answer_reply (done.Take result) = taken_reply result
answer_reply (done.TakeToken result) = heard_reply result
answer_reply (done.Give result) = given_reply result
answer_reply other = None

-- who isn't a service is refused for want of room or of memory alone
abbrev pub IsPlainly : Incoming → Outgoing → Type 0
IsPlainly (said.Outside q) (replies.Refused word n) = (word ≡ codes "full") ⊎ (word ≡ codes "nomemory")
IsPlainly message reply = Unit {0}

-- The reply is what came of the message's own event, as the worker's notes have it: how that was turned away, or what was answered.
pub record IsToldOf (i : Inputs) (message : Incoming) (notes : Notes) (reply : Outgoing) : Type 0 where
  pub gave : Gave
  pub noted : notes.gave ≡ Some gave
  pub of : AsksFor message i gave.asked
  pub so : ((turn : Turn) × (turn_of gave.done ≡ Some turn) × TellsTurn turn reply) ⊎ (answer_reply gave.done ≡ Some reply)
  pub plainly : IsPlainly message reply

-- the notes have no event of a version of a call, of a token or of a fetch, and so none was made; what was made of a live request is told of its flight
abbrev pub IsUntaken : Incoming → Notes → Type 0
IsUntaken (said.Set set) notes = notes.gave ≡ None
IsUntaken (said.Token t) notes = notes.gave ≡ None
IsUntaken (said.Fetch f) notes = notes.gave ≡ None
IsUntaken message notes = Unit {0}

-- memory was wanting, and nothing that a peer sent was taken, nor given to it
abbrev pub WantsMemory : Incoming → Notes → Outgoing → Type 0
WantsMemory message notes reply = IsUntaken message notes × (reply ≡ replies.Refused (codes "nomemory") 0)

-- the word is one of the run, which isn't answered at a desk
abbrev pub IsForWorkers : ConsoleWord → Type 0
IsForWorkers word = is_of_the_run word ≡ true

-- the response, without a commit, to the message of a client read
pub record Tells (e : Endpoint) (i : Inputs) (before now : Reads) (notes : Notes) (response : WireResponse) : Type 0 where
  pub message : Incoming
  pub heard : Hears e before now message
  pub reply : Outgoing
  pub spelled : response ≡ written e.me (sender message) reply e.secret
  pub so : IsToldOf i message notes reply ⊎ WantsMemory message notes reply

-- ---- what an operator is told

-- The order is the message's own event: the worker's notes have it with its answer, and how it was turned away, where it was.
-- That answer is what is told.
pub record IsOrderTold (name : List ℕ) (command : Command) (token who : List ℕ) (i : Inputs) (notes : Notes) (response : WireResponse) : Type 0 where
  pub answer : Result Ordered OrderRefused
  pub so : IsOrderedSo command token who i notes answer
  pub told : response ≡ order_reply name answer

-- a report of a service of this name, and of why a fold of its own waits, if one does; that it is the one that the lock lends is said where the lock is held
pub record IsReportOf (name : List ℕ) (report : Report) (response : WireResponse) : Type 0 where
  pub service : Kept
  pub of : IsServiceOf name service
  pub waits : Option Refusal
  pub told : response ≡ report_reply (report_of report waits service)

-- what was asked is done and told; of a body that was ill it is told that it was, and of a text that is none, where
abbrev pub IsDoneSo : Endpoint → Inputs → Notes → List ℕ → Option Asked → WireResponse → Type 0
IsDoneSo e i notes who None response = response ≡ bad
IsDoneSo e i notes who (Some (asks.Order token command)) response = IsOrderTold e.me command token who i notes response
IsDoneSo e i notes who (Some (asks.Report report)) response = IsReportOf e.me report response
IsDoneSo e i notes who (Some (asks.IllText fault)) response = response ≡ fault_reply fault

-- memory was wanting, and the notes have no order: none was made
abbrev pub IsWantTold : Notes → WireResponse → Type 0
IsWantTold notes response = (notes.gave ≡ None) × (response ≡ console_refusal (codes "nomemory") 0)

abbrev pub IsOperatorTold : Endpoint → Inputs → ConsoleRequest → Notes → WireResponse → Type 0
IsOperatorTold e i asked notes response = IsDoneSo e i notes asked.who (asked_in asked) response ⊎ IsWantTold notes response

-- what is shown of this order of this user, of a service of this name; that it is the one that the lock lends is said where the lock is held
pub record ShowsTrial (name : List ℕ) (trial : Trial) (who : List ℕ) (response : WireResponse) : Type 0 where
  pub service : Kept
  pub of : IsServiceOf name service
  pub told : TellsShown trial who service response

-- by what was read of a request: of a body that was ill it is told that it was, and of a text that is no program, where
abbrev pub IsTriedTold : List ℕ → List ℕ → Option Tried → WireResponse → Type 0
IsTriedTold name who None response = response ≡ bad
IsTriedTold name who (Some (Err at)) response = response ≡ fault_reply (Program at)
IsTriedTold name who (Some (Ok trial)) response = ShowsTrial name trial who response

-- what an operator is told who asks for a preview or a rehearsal
abbrev pub IsPreviewTold : List ℕ → ConsoleRequest → WireResponse → Type 0
IsPreviewTold name request response = IsTriedTold name request.who (tried_in request) response

-- the response to an operator's request read, whose word isn't one that workers answer
pub record TellsOperator (e : Endpoint) (i : Inputs) (before now : Reads) (notes : Notes) (response : WireResponse) : Type 0 where
  pub asked : ConsoleRequest
  pub heard : Hears e before now (said.Console asked)
  pub here : ¬ IsForWorkers asked.word
  pub so : IsOperatorTold e i asked notes response

-- a fault is said to be one only where the source counted it
abbrev pub IsCounted : FrontRefused → Reads → Reads → Type 0
IsCounted front.ReadFault before now = ReadFails before now
IsCounted why before now = Unit {0}

-- ---- a connection

-- what is to be written on it, by the answer
abbrev pub Owes : Endpoint → Inputs → Reads → Reads → Notes → List Receipt → List Receipt → Served → List ℕ → Type 0
Owes e i before now notes had have (served.Committed index) bytes = Commits e i before now had have index bytes
Owes e i before now notes had have (served.Said response) bytes =
    (Tells e i before now notes response ⊎ TellsOperator e i before now notes response) × (have ≡ had) × (bytes ≡ response_bytes response)
Owes e i before now notes had have (served.Console asked) bytes =
    Hears e before now (said.Console asked) × IsForWorkers asked.word × (have ≡ had) × (bytes ≡ [])
Owes e i before now notes had have (served.FrontRefused why) bytes =
    IsHeardFrom e.me e.secrets e.console before now (Err (unheard.Front why)) × IsCounted why before now × (have ≡ had)
    × (bytes ≡ refusal_bytes (front_word why))
Owes e i before now notes had have (served.WireRefused why) bytes =
    IsHeardFrom e.me e.secrets e.console before now (Err (unheard.Wire why)) × (have ≡ had) × (bytes ≡ refusal_bytes (Some (wire_word why)))
Owes e i before now notes had have served.Gone bytes = IsGone e before now notes × (have ≡ had) × (bytes ≡ [])
Owes e i before now notes had have served.WriteFault bytes = ⊥
Owes e i before now notes had have served.NoMemory bytes = ⊥

-- it was written
pub record Serves (e : Endpoint) (i : Inputs) (before now : Reads) (written written_now : Writes) (notes : Notes) (had have : List Receipt) (answer : Served) : Type 0 where
  pub bytes : List ℕ
  pub owed : Owes e i before now notes had have answer bytes
  pub wrote : Wrote written written_now bytes

-- a write of it failed: a front of it was written, and not all
pub record FallsShort (e : Endpoint) (i : Inputs) (before now : Reads) (written written_now : Writes) (notes : Notes) (had have : List Receipt) : Type 0 where
  pub answer : Served
  pub bytes : List ℕ
  pub owed : Owes e i before now notes had have answer bytes
  pub short : WroteShort written written_now bytes
  pub fails : WriteFails written written_now

-- how a connection was served, by the answer
abbrev pub IsServed : Endpoint → Inputs → Reads → Reads → Writes → Writes → Notes → List Receipt → List Receipt → Served → Type 0
IsServed e i before now written written_now notes had have served.WriteFault = FallsShort e i before now written written_now notes had have
IsServed e i before now written written_now notes had have served.NoMemory = (have ≡ had) × (written_now ≡ written)
IsServed e i before now written written_now notes had have answer = Serves e i before now written written_now notes had have answer

-- ---- once the message is read, up to here

-- the message, wherever it began, is served so
abbrev pub ServesMessage : Endpoint → Inputs → Incoming → Reads → Writes → Writes → Notes → List Receipt → List Receipt → Served → Type 0
ServesMessage e i message now written written_now notes had have answer =
    (before : Reads) → Hears e before now message → IsServed e i before now written written_now notes had have answer

-- likewise each message that is this live request
abbrev pub ServesRequest : Endpoint → Inputs → Origin → Request → Reads → Writes → Writes → Notes → List Receipt → List Receipt → Served → Type 0
ServesRequest e i origin request now written written_now notes had have answer =
    (message : Incoming) → IsLiveRequest message origin request → ServesMessage e i message now written written_now notes had have answer

-- the client of a request of this origin, where it is a service
abbrev pub client : Origin → Option (List ℕ)
client origins.Outside = None
client (origins.Call caller number) = Some caller
