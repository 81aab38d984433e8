-- Of which orders a worker's notes tell.
use Rattle.std.proofs.Common.{◌≡◌, ◌⊎◌, ◌∙◌, ℕ, [], ◌∷◌, List, Option, Some, None, Result, Ok, Err, IfOk, MatchOption, OnErr, ap, inl, inr, length, refl}
use Rattle.lang_base.specs.declared.memory.NoMemory.{NoMemory as LacksMemory}
use Rattle.lang_core.specs.declared.ids.Origin.{Origin}
use Rattle.lang_core.specs.declared.ids.Origin.TheVariants as origins
use Rattle.lang_core.specs.declared.inputs.Inputs.{Inputs}
use Rattle.lang_core.specs.declared.request.Request.{Request}
use Rattle.repair_messages.specs.declared.messages.AnswerMessage.{AnswerMessage}
use Rattle.repair_messages.specs.declared.messages.SetMessage.{SetMessage}
use Rattle.call_registers.specs.declared.register.Why.{Why}
use Rattle.journal_rows.specs.Words.{ordered}
use Rattle.journal_rows.specs.declared.orders.Command.{Command}
use Rattle.journal_rows.specs.declared.orders.OrderedRow.{OrderedRow}
use Rattle.service_events.specs.State.{Kept, me}
use Rattle.service_events.specs.declared.event.Done.{Done as NodeDone}
use Rattle.service_events.specs.declared.event.Done.TheVariants as done
use Rattle.service_events.specs.declared.event.Event.{Event as NodeEvent}
use Rattle.service_events.specs.declared.event.Event.TheVariants as events
use Rattle.io_edge.specs.Edge.{Reads}
use Rattle.io_links.specs.Exchanges.{Exchanges}
use Rattle.io_links.specs.declared.links.Exchanged.{Exchanged}
use Rattle.wire_fields.specs.declared.console.ConsoleRequest.{ConsoleRequest}
use Rattle.aire_wire.specs.declared.incoming.Incoming.{Incoming}
use Rattle.aire_wire.specs.declared.incoming.Incoming.TheVariants as said
use Rattle.admin_console.specs.Asking.{asked_in}
use Rattle.admin_console.specs.declared.asking.Asked.{Asked}
use Rattle.admin_console.specs.declared.asking.Asked.TheVariants as asks
use Rattle.node_core.specs.Doings.{IsDone}
use Rattle.node_core.specs.Orders.{order_note, NotesOrder, WritesOrder}
use Rattle.node_core.specs.declared.notes.Begun.{Begun}
use Rattle.node_core.specs.declared.notes.Notes.{Notes}
use Rattle.node_core.specs.declared.orders.OrderNote.{OrderNote}
use Rattle.node_core.specs.declared.receipt.Receipt.{Receipt}
use Rattle.node_core.proofs.OrderLemmas.{orders_so}
use Rattle.node_core.proofs.OrderRowLaws.{IsNoOrder}
use Rattle.node_exchanges.specs.Endpoints.{Endpoint}
use Rattle.node_workers.specs.Asking.{MakesAsked, MakesFor, MakesLive, MakesOnly, NotesOnlyRead}
use Rattle.node_workers.specs.Flying.{EndsBy, FliesSo, GivesUp, IsTold, IsToldInVain, LivesSo, MakesCalls, StopsAt, end_of_call}
use Rattle.node_workers.specs.Serving.{Hears}
use Rattle.node_workers.specs.Turns.{Made, MakesOnce}
use Rattle.node_workers.specs.declared.flying.Went.{Went}
use Rattle.node_workers.specs.declared.flying.Went.TheVariants as went
use Rattle.node_workers.specs.declared.live.Began.{Began}
use Rattle.node_workers.specs.declared.live.Began.TheVariants as begins
use Rattle.node_workers.specs.declared.live.Ending.{Ending}
use Rattle.node_workers.specs.declared.live.Ending.TheVariants as ends
use Rattle.node_workers.proofs.HeldLemmas.{order_named}

-- the notes tell of the same orders
abbrev SameOrders : Notes → Notes → Type 0
SameOrders before now = now.orders ≡ before.orders

as_before : (before now : Notes) → now ≡ before → SameOrders before now
as_before before now same = ap (λ (n : Notes). n.orders) same

-- ---- events that are no orders

made_none : (name : List ℕ) (before now : Notes) (had have : List Receipt) (e : NodeEvent) (d : NodeDone) → IsNoOrder e → Made name before now had have e d → SameOrders before now
made_none name before now had have (events.Order command token who i) d none m = absurd none
made_none name before now had have e d none m = ap (λ (n : Notes). n.orders) m.notes

once_none : (name : List ℕ) (before now : Notes) (had have : List Receipt) (e : NodeEvent) → IsNoOrder e → MakesOnce name e before now had have → SameOrders before now
once_none name before now had have e none (inl nothing) = as_before before now nothing.0
once_none name before now had have e none (inr made) = made_none name before now had have e made.0 none made.1

if_made : (name : List ℕ) (before now : Notes) (had have : List Receipt) (e : NodeEvent) (answer : Result NodeDone LacksMemory) → IsNoOrder e
    → IfOk answer (Made name before now had have e) → OnErr answer ((now ≡ before) × (have ≡ had)) → SameOrders before now
if_made name before now had have e (Ok d) none made nothing = made_none name before now had have e d none made
if_made name before now had have e (Err why) none made nothing = as_before before now nothing.0

-- ---- what came of a call

end_none : (flight number : ℕ) (came : Result AnswerMessage Why) → IsNoOrder (end_of_call flight number came)
end_none flight number (Ok a) = tt
end_none flight number (Err why) = tt

module _ (e : Endpoint) where
  first_none : (flight number : ℕ) (came : Result AnswerMessage Why) (before since : Notes) (had : List Receipt)
      → (since ≡ before) ⊎ IsToldInVain e flight number came before since had → SameOrders before since
  first_none flight number came before since had (inl same) = as_before before since same
  first_none flight number came before since had (inr vain) =
      made_none e.me before since had had (end_of_call flight number came) vain.0 (end_none flight number came) vain.1

  told_none : (flight number : ℕ) (came : Result AnswerMessage Why) (before now : Notes) (had have : List Receipt) (way : Went)
      → IsTold e flight number came before now had have way → SameOrders before now
  told_none flight number came before now had have way told =
      if_made e.me told.since now had have (end_of_call flight number came) (told.last).answer (end_none flight number came) (told.last).made (told.last).nothing
      ∙ first_none flight number came before told.since had told.first

  calls_none : (made : List Exchanged) (before now : Notes) (had have : List Receipt) (from way : Went) → MakesCalls e made before now had have from way
      → SameOrders before now
  calls_none [] before now had have from way h = as_before before now h.0
  calls_none (x ∷ made) before now had have (went.Call flight set) way h =
      let call = h.3 in
      calls_none made h.0 now h.1 have h.2 way h.4 ∙ told_none flight set.number call.came before h.0 had h.1 h.2 call.told
  calls_none (x ∷ made) before now had have from way h = absurd h

  stops_none : (flight : ℕ) (set : SetMessage) (made : List Exchanged) (before now : Notes) (had have : List Receipt)
      → StopsAt e flight set made before now had have → SameOrders before now
  stops_none flight set made before now had have (inl h) = as_before before now h.1.0
  stops_none flight set made before now had have (inr h) =
      let call = h.2 in told_none flight set.number call.came before now had have went.NoMemory call.told

  gives_none : (flight : ℕ) (before now : Notes) (had have : List Receipt) → GivesUp flight before now had have → SameOrders before now
  gives_none flight before now had have h = made_none h.0 before now had have (events.Abandon flight) h.1 tt h.2

  -- ---- a live request

  flies_none : (flight : ℕ) (set : SetMessage) (made : List Exchanged) (before now : Notes) (had have : List Receipt) (ending : Ending)
      → FliesSo e flight set made before now had have ending → SameOrders before now
  flies_none flight set made before now had have (ends.Committed index) h = calls_none made before now had have (went.Call flight set) (went.Committed index) h
  flies_none flight set made before now had have ends.Gone h = calls_none made before now had have (went.Call flight set) went.Gone h
  flies_none flight set made before now had have ends.NoMemory h =
      gives_none h.last h.stopped now h.kept have h.up ∙ stops_none h.last h.call h.rest h.named h.stopped h.held h.kept h.stops
      ∙ calls_none h.front before h.named had h.held (went.Call flight set) (went.Call h.last h.call) h.calls
  flies_none flight set made before now had have (ends.Known a) h = absurd h
  flies_none flight set made before now had have (ends.Refused why) h = absurd h

  ends_none : (began : Began) (made : List Exchanged) (before now : Notes) (had have : List Receipt) (ending : Ending)
      → EndsBy e began made before now had have ending → SameOrders before now
  ends_none (begins.Ended at) made before now had have ending h = as_before before now h.2.0
  ends_none (begins.Call flight set) made before now had have ending h = flies_none flight set made before now had have ending h

  lives_none : (o : Origin) (q : Request) (i : Inputs) (made : List Exchanged) (before now : Notes) (had have : List Receipt) (ending : Ending)
      → LivesSo e o q i made before now had have ending → SameOrders before now
  lives_none o q i made before now had have ending l =
      let a = l.arrival in
      ends_none l.began made l.notes now l.receipts have ending l.goes
      ∙ if_made e.me before l.notes had l.receipts (events.Arrive o q i) a.answer tt a.made a.nothing

  live_none : (o : Origin) (q : Request) (i : Inputs) (before now : Notes) (had have : List Receipt) (was is : Exchanges)
      → MakesLive e o q i before now had have was is → SameOrders before now
  live_none o q i before now had have was is h = lives_none o q i h.1.0 before now had have h.0 h.1.2

  -- ---- an operator's request

  -- the order that was read is noted, where it was written
  module _ (reads reads_now : Reads) (request : ConsoleRequest) (i : Inputs) (heard : Hears e reads reads_now (said.Console request)) (token : List ℕ) (command : Command)
      (read : asked_in request ≡ Some (asks.Order token command))
    where
      abbrev OnlyRead : List OrderNote → List OrderNote → Type 0
      OnlyRead before behind = NotesOnlyRead e reads reads_now before behind

      written_by : (s t : Kept) (before behind : List OrderNote) (known : Option OrderedRow) → me t ≡ e.me
          → MatchOption known (WritesOrder s t command token request.who before behind) (λ (o : OrderedRow). behind ≡ before) → OnlyRead before behind
      written_by s t before behind (Some o) named same = inl same
      written_by s t before behind None named w =
          inr (record {
            request = request;
            heard = heard;
            token = token;
            command = command;
            read = read;
            note = order_note (me t) (length s.journal) w.row;
            service = named;
            commands = w.commands;
            named = w.named;
            given = w.given;
            last = w.last;
          })

      answered_by : (s t : Kept) (before behind : List OrderNote) (d : NodeDone) → me t ≡ e.me
          → NotesOrder s (events.Order command token request.who i) d t before behind → OnlyRead before behind
      answered_by s t before behind (done.Order (Ok answer)) named h = written_by s t before behind (ordered token s.journal) named h
      answered_by s t before behind (done.Order (Err why)) named h = inl h
      answered_by s t before behind d named h = inl h

      name_kept : (s t : Kept) (begun : Option Begun) (d : NodeDone) → IsDone s begun (events.Order command token request.who i) d t → me t ≡ me s
      name_kept s t begun (done.Order answer) is = order_named command token request.who i s t answer is
      name_kept s t begun d is = absurd is

      order_once : (before now : Notes) (had have : List Receipt) → MakesOnce e.me (events.Order command token request.who i) before now had have
          → OnlyRead before.orders now.orders
      order_once before now had have (inl nothing) = inl (as_before before now nothing.0)
      order_once before now had have (inr made) =
          let d = made.0 in
          let m = made.1 in
          answered_by m.service m.left before.orders now.orders d (name_kept m.service m.left before.begun d m.made ∙ m.is)
          (orders_so m.service m.left (events.Order command token request.who i) d before.orders now.orders m.made (ap (λ (n : Notes). n.orders) m.notes))

  asked_so : (reads reads_now : Reads) (request : ConsoleRequest) (i : Inputs) → Hears e reads reads_now (said.Console request) → (asked : Option Asked)
      → asked_in request ≡ asked → (before now : Notes) (had have : List Receipt) → MakesAsked e.me i request.who asked before now had have
      → NotesOnlyRead e reads reads_now before.orders now.orders
  asked_so reads reads_now request i heard (Some (asks.Order token command)) read before now had have makes =
      order_once reads reads_now request i heard token command read before now had have makes
  asked_so reads reads_now request i heard asked read before now had have nothing = inl (as_before before now nothing.0)

  -- ---- all of it

  message_so : (reads reads_now : Reads) (i : Inputs) (message : Incoming) → Hears e reads reads_now message → (before now : Notes) (had have : List Receipt) (was is : Exchanges)
      → MakesFor e i message before now had have was is → NotesOnlyRead e reads reads_now before.orders now.orders
  message_so reads reads_now i (said.Outside q) heard before now had have was is makes = inl (live_none origins.Outside q i before now had have was is makes)
  message_so reads reads_now i (said.Live set) heard before now had have was is (inl nothing) = inl (as_before before now nothing.0.0)
  message_so reads reads_now i (said.Live set) heard before now had have was is (inr live) =
      inl (live_none (origins.Call set.caller set.number) live.0 i before now had have was is live.2)
  message_so reads reads_now i (said.Set set) heard before now had have was is makes = inl (once_none e.me before now had have (events.Take set i) tt makes.0)
  message_so reads reads_now i (said.Token t) heard before now had have was is makes = inl (once_none e.me before now had have (events.TakeToken t) tt makes.0)
  message_so reads reads_now i (said.Fetch f) heard before now had have was is makes = inl (once_none e.me before now had have (events.Give f) tt makes.0)
  message_so reads reads_now i (said.Console request) heard before now had have was is makes =
      asked_so reads reads_now request i heard (asked_in request) refl before now had have makes.0

  -- no order is noted but the one that was read from the connection
  pub only_read : (reads reads_now : Reads) (i : Inputs) (before now : Notes) (had have : List Receipt) (was is : Exchanges)
      → MakesOnly e i reads reads_now before now had have was is → NotesOnlyRead e reads reads_now before.orders now.orders
  only_read reads reads_now i before now had have was is (inl nothing) = inl (as_before before now nothing.0.0)
  only_read reads reads_now i before now had have was is (inr makes) = message_so reads reads_now i makes.0 makes.1 before now had have was is makes.2
