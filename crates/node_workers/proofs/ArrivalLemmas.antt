-- How a live request begins as it arrives.
use Rattle.std.proofs.Common.{◌≡◌, ℕ, inl, inr, List, Option, Some, None, Result, Ok, Err, IfErr, IfOk, OnErr, IsSomeAnd, refl, sym, ap, ◌∙◌, subst}
use Rattle.lang_base.specs.declared.memory.NoMemory.{NoMemory as LacksMemory}
use Rattle.lang_core.specs.declared.ids.Origin.{Origin}
use Rattle.lang_core.specs.declared.ids.Origin.TheVariants.{Outside, Call}
use Rattle.lang_core.specs.declared.inputs.Inputs.{Inputs}
use Rattle.lang_core.specs.declared.request.Request.{Request}
use Rattle.repair_messages.specs.declared.messages.SetMessage.{SetMessage}
use Rattle.service_events.specs.Arriving.{admitted, arrive_event}
use Rattle.service_events.specs.Doing.{Does, arrive_memory}
use Rattle.service_events.specs.State.{After, Kept, after, is_crowded, is_heavy, me, or_else}
use Rattle.service_events.specs.declared.answers.Arrived.{Arrived}
use Rattle.service_events.specs.declared.answers.Arrived.TheVariants as arrived
use Rattle.service_events.specs.declared.event.Done.{Done as NodeDone}
use Rattle.service_events.specs.declared.event.Done.TheVariants as done
use Rattle.service_events.specs.declared.event.Event.TheVariants as events
use Rattle.service_events.specs.declared.refusals.ArriveRefused.{ArriveRefused}
use Rattle.service_events.specs.declared.refusals.ArriveRefused.TheVariants as refusals
use Rattle.node_core.specs.declared.notes.Begun.{Begun}
use Rattle.node_core.specs.declared.notes.Notes.{Notes}
use Rattle.node_core.specs.declared.receipt.Receipt.{Receipt}
use Rattle.node_workers.specs.Desks.{Endpoint}
use Rattle.node_workers.specs.Flying.{ArrivesAs, BeginsSo, EndsSo, IfAccepted, IsWaiting, RefusesAs, began_of}
use Rattle.node_workers.specs.Turns.{Made}
use Rattle.node_workers.specs.declared.live.Ending.{Ending}
use Rattle.node_workers.proofs.SentLemmas.{arrival_as}
use Rattle.node_workers.proofs.FlightLemmas.{accepted_by, at_open, received}

-- it is for what there is too much of
abbrev IsFull : ArriveRefused → Type 0
IsFull why = (n : ℕ) × (why ≡ refusals.Full n)

admitted_full : (s : Kept) (o : Origin) (q : Request) (i : Inputs) (much : Option ℕ) → IfErr (admitted s o q i much).answer IsFull
admitted_full s o q i (Some n) = (n, refl)
admitted_full s o q i None = tt

by_event : (s t : Kept) (q : Request) (i : Inputs) (why : ArriveRefused) → after {A = Result Arrived ArriveRefused} t (Err why) ≡ arrive_event s Outside q i → IsFull why
by_event s t q i why is =
    subst (λ (a : After (Result Arrived ArriveRefused)). IfErr a.answer IsFull) (sym is) (admitted_full s Outside q i (or_else (is_crowded s) (is_heavy s)))

refuses : (s t : Kept) (o : Origin) (q : Request) (i : Inputs) (why : ArriveRefused) → Does arrive_memory (arrive_event s o q i) s (Err why) t → RefusesAs o why
refuses s t (Call caller number) q i why does = tt
refuses s t Outside q i refusals.NoMemory does = inr refl
refuses s t Outside q i (refusals.Full n) does = inl (n, refl)
refuses s t Outside q i (refusals.NotYet n) does = inl (by_event s t q i (refusals.NotYet n) does)
refuses s t Outside q i (refusals.Gone n) does = inl (by_event s t q i (refusals.Gone n) does)

module _ (e : Endpoint) (o : Origin) (q : Request) (i : Inputs) (before now : Notes) (had have : List Receipt) (none : before.begun ≡ None) where
  abbrev Begins : Result NodeDone LacksMemory → Type 0
  Begins answer = BeginsSo e o q i now had have (began_of answer)

  abbrev ArrivedSo : NodeDone → Type 0
  ArrivedSo answer = Made e.me before now had have (events.Arrive o q i) answer

  abbrev begun_here : Kept → ℕ → SetMessage → Begun
  begun_here t flight set =
      record { service = me t; flight = flight; dest = set.dest; number = set.number; origin = o; request = q; inputs = i }

  begun_so : (answer : Result Arrived ArriveRefused) → ArrivedSo (done.Arrive answer) → IfAccepted (ArrivesAs e.me o) answer → Begins (Ok (done.Arrive answer))
  begun_so (Ok (arrived.Done index id answer)) m how =
      (received ArriveRefused m.left m.secret o q i index id answer had have m.receipts, ap (λ (n : Notes). n.begun) m.notes ∙ none)
  begun_so (Ok (arrived.Call flight set)) m how =
      (record { waiting = begun_here m.left flight set; is = ap (λ (n : Notes). n.begun) m.notes; flight_so = refl; number = refl; dest = refl; of = refl; asked = refl; inputs = refl; from = how }, m.receipts)
  begun_so (Ok (arrived.Known a)) m how =
      ((ap (λ (n : Notes). n.gave) m.notes, how.0, how.1, m.receipts), ap (λ (n : Notes). n.begun) m.notes ∙ none)
  begun_so (Err why) m how =
      ((ap (λ (n : Notes). n.gave) m.notes, ap (λ (n : Notes). n.turn) m.notes, refuses m.service m.left o q i why m.made.0, m.receipts), ap (λ (n : Notes). n.begun) m.notes ∙ none)

  arrived_so : (answer : NodeDone) → ArrivedSo answer → Begins (Ok answer)
  arrived_so (done.Arrive result) m =
      begun_so result m
      (subst (λ (name : List ℕ). IfAccepted (ArrivesAs name o) result) m.is
      (accepted_by arrive_memory (ArrivesAs (me m.service) o) (arrive_event m.service o q i) m.service m.left result m.made.0 (arrival_as m.service o q i)))
  arrived_so (done.CallAnswered result) m = absurd m.made
  arrived_so (done.CallFailed result) m = absurd m.made
  arrived_so (done.Abandon found) m = absurd m.made
  arrived_so (done.Take result) m = absurd m.made
  arrived_so (done.TakeToken result) m = absurd m.made
  arrived_so (done.Give result) m = absurd m.made
  arrived_so (done.NextPost name) m = absurd m.made
  arrived_so (done.WritePost result) m = absurd m.made
  arrived_so (done.Posted result) m = absurd m.made
  arrived_so (done.Step result) m = absurd m.made
  arrived_so (done.Order result) m = absurd m.made
  arrived_so done.Gone m = absurd m.made

  -- how a live request begins
  pub begins : (answer : Result NodeDone LacksMemory) → IfOk answer ArrivedSo → OnErr answer ((now ≡ before) × (have ≡ had)) → Begins answer
  begins (Ok answer) m same = arrived_so answer m
  begins (Err why) m same = (same.1, ap (λ (n : Notes). n.begun) same.0 ∙ none)

-- an arrival counts nothing as lost or as refused
pub arrival_keeps : (name : List ℕ) (o : Origin) (q : Request) (i : Inputs) (before now : Notes) (had have : List Receipt) (answer : Result NodeDone LacksMemory)
    → IfOk answer (Made name before now had have (events.Arrive o q i)) → OnErr answer ((now ≡ before) × (have ≡ had))
    → (now.lost ≡ before.lost) × (now.refused ≡ before.refused)
arrival_keeps name o q i before now had have (Ok answer) m same = (ap (λ (n : Notes). n.lost) m.notes, ap (λ (n : Notes). n.refused) m.notes)
arrival_keeps name o q i before now had have (Err why) m same = (ap (λ (n : Notes). n.lost) same.0, ap (λ (n : Notes). n.refused) same.0)

-- the flight of an arrival ends as the arrival does
pub arrival_ends : (e : Endpoint) (o : Origin) (q : Request) (i : Inputs) (begun : Option Begun) (flight : ℕ) (set : SetMessage) (now : Notes) (had mid have : List Receipt)
    (ending : Ending) → IsWaiting e o q i begun flight set → mid ≡ had → IsSomeAnd begun (λ (b : Begun). EndsSo e b.origin b.request b.inputs now mid have ending)
    → EndsSo e o q i now had have ending
arrival_ends e o q i begun flight set now had mid have ending waits same ended =
    at_open e o q i begun flight set (λ o q i. EndsSo e o q i now had have ending) waits
    (subst (λ (h : List Receipt). IsSomeAnd begun (λ (b : Begun). EndsSo e b.origin b.request b.inputs now h have ending)) same ended)
