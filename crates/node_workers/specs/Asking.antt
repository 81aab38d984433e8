-- What a worker asks of its service for one connection.
use Rattle.std.specs.Prelude.{ℕ, ◌≡◌, ◌⊎◌, ◌++◌, ◌∷◌, [], List, Option, Some}
use Rattle.lang_core.specs.declared.ids.Origin.{Origin}
use Rattle.lang_core.specs.declared.ids.Origin.TheVariants as origins
use Rattle.lang_core.specs.declared.inputs.Inputs.{Inputs}
use Rattle.lang_core.specs.declared.request.Request.{Request}
use Rattle.journal_rows.specs.declared.orders.Command.{Command}
use Rattle.service_events.specs.declared.event.Event.TheVariants as events
use Rattle.io_edge.specs.Edge.{Reads}
use Rattle.io_links.specs.Exchanges.{Exchanges}
use Rattle.wire_fields.specs.declared.console.ConsoleRequest.{ConsoleRequest}
use Rattle.aire_wire.specs.declared.incoming.Incoming.{Incoming}
use Rattle.aire_wire.specs.declared.incoming.Incoming.TheVariants as said
use Rattle.admin_console.specs.Asking.{asked_in}
use Rattle.admin_console.specs.declared.asking.Asked.{Asked}
use Rattle.admin_console.specs.declared.asking.Asked.TheVariants as asks
use Rattle.node_core.specs.declared.notes.Notes.{Notes}
use Rattle.node_core.specs.declared.orders.OrderNote.{OrderNote}
use Rattle.node_core.specs.declared.receipt.Receipt.{Receipt}
use Rattle.node_exchanges.specs.Endpoints.{Endpoint}
use Rattle.node_workers.specs.Flying.{Lives}
use Rattle.node_workers.specs.Serving.{Hears}
use Rattle.node_workers.specs.Turns.{IsUntouched, MakesOnce}
use Rattle.node_workers.specs.declared.live.Ending.{Ending}

-- a live request was made, and ended, by these exchanges and events
abbrev pub MakesLive : Endpoint → Origin → Request → Inputs → Notes → Notes → List Receipt → List Receipt → Exchanges → Exchanges → Type 0
MakesLive e o q i before now had have was is = (ending : Ending) × Lives e o q i before now had have was is ending

-- What an operator asked is, where it was read as an order, the one event of that order in this operator's name, made once, or none; a report and a
-- body that is ill ask for none.
abbrev pub MakesAsked : List ℕ → Inputs → List ℕ → Option Asked → Notes → Notes → List Receipt → List Receipt → Type 0
MakesAsked name i who (Some (asks.Order token command)) before now had have = MakesOnce name (events.Order command token who i) before now had have
MakesAsked name i who asked before now had have = IsUntouched before now had have

-- The event that was made for a message that is no live request: the one that it asks for, or none. What is given to the workers is no order.
abbrev pub MakesOne : List ℕ → Inputs → Incoming → Notes → Notes → List Receipt → List Receipt → Type 0
MakesOne name i (said.Set set) before now had have = MakesOnce name (events.Take set i) before now had have
MakesOne name i (said.Token t) before now had have = MakesOnce name (events.TakeToken t) before now had have
MakesOne name i (said.Fetch f) before now had have = MakesOnce name (events.Give f) before now had have
MakesOne name i (said.Console request) before now had have = MakesAsked name i request.who (asked_in request) before now had have
MakesOne name i message before now had have = IsUntouched before now had have

-- no event was made, and no exchange
abbrev pub MakesNothing : Notes → Notes → List Receipt → List Receipt → Exchanges → Exchanges → Type 0
MakesNothing before now had have was is = IsUntouched before now had have × (is ≡ was)

-- the exchanges and events that were made for a message: those of a live request; for another one no exchange
abbrev pub MakesFor : Endpoint → Inputs → Incoming → Notes → Notes → List Receipt → List Receipt → Exchanges → Exchanges → Type 0
MakesFor e i (said.Outside q) before now had have was is = MakesLive e origins.Outside q i before now had have was is
MakesFor e i (said.Live set) before now had have was is =
    MakesNothing before now had have was is
    ⊎ ((q : Request) × (set.desired ≡ Some q) × MakesLive e (origins.Call set.caller set.number) q i before now had have was is)
MakesFor e i message before now had have was is = MakesOne e.me i message before now had have × (is ≡ was)

-- no event and no exchange was made but for the message that was read from the connection
abbrev pub MakesOnly : Endpoint → Inputs → Reads → Reads → Notes → Notes → List Receipt → List Receipt → Exchanges → Exchanges → Type 0
MakesOnly e i reads reads_now before now had have was is =
    MakesNothing before now had have was is ⊎ ((message : Incoming) × Hears e reads reads_now message × MakesFor e i message before now had have was is)

-- ---- orders that are noted

-- of an operator's request, which was read under the console's seal, an order was read; that was written in the service's journal, with its command, its
-- token and the operator who asked, and is noted last
pub record NotesRead (e : Endpoint) (reads reads_now : Reads) (before behind : List OrderNote) : Type 0 where
  pub request : ConsoleRequest
  pub heard : Hears e reads reads_now (said.Console request)
  pub token : List ℕ
  pub command : Command
  pub read : asked_in request ≡ Some (asks.Order token command)
  pub note : OrderNote
  pub service : note.service ≡ e.me
  pub commands : note.row.command ≡ command
  pub named : note.row.token ≡ token
  pub given : note.row.who ≡ request.who
  pub last : behind ≡ before ++ note ∷ []

-- no order more is noted but such a one
abbrev pub NotesOnlyRead : Endpoint → Reads → Reads → List OrderNote → List OrderNote → Type 0
NotesOnlyRead e reads reads_now before behind = (behind ≡ before) ⊎ NotesRead e reads reads_now before behind
