-- What an operator is told.
use Rattle.std.proofs.Common.{◌≡◌, ◌⊎◌, ℕ, List, Option, Some, None, Result, Ok, Err, IfOk, OnErr, codes, refl, sym, ap, ◌∙◌, subst, inl, inr}
use Rattle.lang_base.specs.declared.memory.NoMemory.{NoMemory as LacksMemory}
use Rattle.lang_core.specs.declared.inputs.Inputs.{Inputs}
use Rattle.journal_rows.specs.declared.orders.Command.{Command}
use Rattle.order_texts.specs.declared.refused.TextFault.TheVariants.{Program}
use Rattle.service_events.specs.State.{Kept, me}
use Rattle.service_events.specs.declared.answers.Ordered.{Ordered}
use Rattle.service_events.specs.declared.event.Done.{Done as NodeDone}
use Rattle.service_events.specs.declared.event.Done.TheVariants as done
use Rattle.service_events.specs.declared.event.Event.TheVariants as events
use Rattle.service_events.specs.declared.refusals.OrderRefused.{OrderRefused}
use Rattle.http_front.specs.declared.message.WireResponse.{WireResponse}
use Rattle.wire_fields.specs.declared.console.ConsoleRequest.{ConsoleRequest}
use Rattle.wire_bytes.specs.Console.{console_refusal}
use Rattle.io_edge.specs.Edge.{Writes}
use Rattle.admin_console.specs.Answers.{IsDone, IsLeft}
use Rattle.admin_console.specs.Asking.{asked_in}
use Rattle.admin_console.specs.HandedOn.{Trial}
use Rattle.admin_console.specs.Previews.{TellsShown, Tried, tried_in}
use Rattle.admin_console.specs.Replies.{bad, fault_reply, order_reply}
use Rattle.admin_console.specs.declared.asking.Asked.{Asked}
use Rattle.admin_console.specs.declared.asking.Asked.TheVariants.{IllText, Order, Report}
use Rattle.node_core.specs.declared.notes.Notes.{Notes}
use Rattle.node_core.specs.declared.receipt.Receipt.{Receipt}
use Rattle.node_exchanges.specs.Endpoints.{Endpoint}
use Rattle.node_exchanges.specs.Replies.{IsSaid}
use Rattle.node_exchanges.specs.declared.served.Served.{Served}
use Rattle.node_exchanges.specs.declared.served.Served.TheVariants as served
use Rattle.node_workers.specs.Desks.{IsServiceOf}
use Rattle.node_workers.specs.Held.{IsUnmade, OrdersThere, service_at, waits_at}
use Rattle.node_workers.specs.Operators.{TellsReport}
use Rattle.node_workers.specs.Posting.{Keeps}
use Rattle.node_workers.specs.Serving.{IsDoneSo, IsOperatorTold, IsPreviewTold, IsTriedTold, IsWantTold, ShowsTrial}
use Rattle.node_workers.specs.Asking.{MakesAsked}
use Rattle.node_workers.specs.Turns.{IsUntouched, Made, MakesOnce}
use Rattle.node_workers.specs.Written.{IsPreviewSo}
use Rattle.node_workers.specs.declared.held.HeldNode.{HeldNode}
use Rattle.node_workers.proofs.MessageLemmas.{ordered_so}

-- the reply, or that memory was wanting
abbrev pub Reply : Type 0
Reply = Result WireResponse LacksMemory

-- done as asked and told, or that memory was wanting
abbrev pub IsToldSo : Endpoint → Inputs → Notes → List ℕ → Option Asked → WireResponse → Type 0
IsToldSo e i notes who asked response = IsDoneSo e i notes who asked response ⊎ IsWantTold notes response

-- where no event was made, that is as it should be, whatever was asked
pub asks_nothing : (name : List ℕ) (i : Inputs) (who : List ℕ) (asked : Option Asked) (notes : Notes) (receipts : List Receipt)
    → MakesAsked name i who asked notes notes receipts receipts
asks_nothing name i who None notes receipts = (refl, refl)
asks_nothing name i who (Some (Order token command)) notes receipts = inl (refl, refl)
asks_nothing name i who (Some (Report report)) notes receipts = (refl, refl)
asks_nothing name i who (Some (IllText fault)) notes receipts = (refl, refl)

-- ---- at the service behind the lock

order_once : (name : List ℕ) (before now : Notes) (had have : List Receipt) (command : Command) (token who : List ℕ) (i : Inputs) (answer : Result Ordered OrderRefused)
    → Made name before now had have (events.Order command token who i) (done.Order answer) ⊎ IsUnmade before now had have answer
    → MakesOnce name (events.Order command token who i) before now had have
order_once name before now had have command token who i answer (inl made) = inr (done.Order answer, made)
order_once name before now had have command token who i answer (inr unmade) = inl (unmade.notes, unmade.receipts)

kept_by : (name : List ℕ) (before now : Notes) (had have : List Receipt) (command : Command) (token who : List ℕ) (i : Inputs) (answer : Result Ordered OrderRefused)
    → Made name before now had have (events.Order command token who i) (done.Order answer) ⊎ IsUnmade before now had have answer → Keeps before now had have
kept_by name before now had have command token who i answer (inl made) =
    (made.receipts, ap (λ (n : Notes). n.begun) made.notes, ap (λ (n : Notes). n.lost) made.notes, ap (λ (n : Notes). n.refused) made.notes)
kept_by name before now had have command token who i answer (inr unmade) =
    (unmade.receipts, ap (λ (n : Notes). n.begun) unmade.notes, ap (λ (n : Notes). n.lost) unmade.notes, ap (λ (n : Notes). n.refused) unmade.notes)

untouched_keeps : (before now : Notes) (had have : List Receipt) → IsUntouched before now had have → Keeps before now had have
untouched_keeps before now had have none =
    (none.1, ap (λ (n : Notes). n.begun) none.0, ap (λ (n : Notes). n.lost) none.0, ap (λ (n : Notes). n.refused) none.0)

event_keeps : (name : List ℕ) (before now : Notes) (had have : List Receipt) (command : Command) (token who : List ℕ) (i : Inputs) (d : NodeDone)
    → Made name before now had have (events.Order command token who i) d → Keeps before now had have
event_keeps name before now had have command token who i (done.Order answer) made = kept_by name before now had have command token who i answer (inl made)
event_keeps name before now had have command token who i d made = absurd made.made

-- whatever was asked, receipts, the open flight and the counts stay
pub asked_keeps : (name : List ℕ) (i : Inputs) (who : List ℕ) (asked : Option Asked) (before now : Notes) (had have : List Receipt)
    → MakesAsked name i who asked before now had have → Keeps before now had have
asked_keeps name i who None before now had have makes = untouched_keeps before now had have makes
asked_keeps name i who (Some (Order token command)) before now had have (inl none) = untouched_keeps before now had have none
asked_keeps name i who (Some (Order token command)) before now had have (inr made) = event_keeps name before now had have command token who i made.0 made.1
asked_keeps name i who (Some (Report report)) before now had have makes = untouched_keeps before now had have makes
asked_keeps name i who (Some (IllText fault)) before now had have makes = untouched_keeps before now had have makes

module _ {R Q W : Type 0} (before now : HeldNode R Q W) (i : Inputs) where
  -- what is lent to it
  abbrev IsLent : Type 0
  IsLent = before.pass.ghost_name ≡ now.pass.ghost_name

  order_lent : (command : Command) (token who : List ℕ) (answer : Result Ordered OrderRefused) → OrdersThere before command token who i answer now → IsLent
  order_lent command token who answer there = sym there.same_pass

  same_lent : now ≡ before → IsLent
  same_lent same = ap (λ (h : HeldNode R Q W). h.pass.ghost_name) (sym same)

  -- where it was replied, and where memory was wanting
  done_lent : (asked : Option Asked) (who : List ℕ) (response : WireResponse) → IsDone service_at waits_at OrdersThere before asked who i response now → IsLent
  done_lent None who response is = same_lent is.0
  done_lent (Some (Order token command)) who response is = order_lent command token who is.answer is.made
  done_lent (Some (Report report)) who response is = same_lent is.0
  done_lent (Some (IllText fault)) who response is = same_lent is.0

  left_lent : (asked : Option Asked) (who : List ℕ) → IsLeft OrdersThere before asked who i now → IsLent
  left_lent None who is = same_lent is
  left_lent (Some (Order token command)) who (inl same) = same_lent same
  left_lent (Some (Order token command)) who (inr is) = order_lent command token who is.0 is.1
  left_lent (Some (Report report)) who is = same_lent is
  left_lent (Some (IllText fault)) who is = same_lent is

  lent : (asked : Option Asked) (who : List ℕ) (reply : Reply) → IfOk reply (λ (response : WireResponse). IsDone service_at waits_at OrdersThere before asked who i response now)
      → OnErr reply (IsLeft OrdersThere before asked who i now) → IsLent
  lent asked who (Ok response) is left = done_lent asked who response is
  lent asked who (Err lacks) is left = left_lent asked who left

  -- the events that were made of what was asked, in the name of the service behind the lock
  abbrev Makes : List ℕ → Option Asked → List ℕ → Type 0
  Makes name asked who = MakesAsked name i who asked before.pass.now.notes now.pass.now.notes before.pass.now.receipts.items now.pass.now.receipts.items

  order_makes : (command : Command) (token who : List ℕ) (answer : Result Ordered OrderRefused) → OrdersThere before command token who i answer now
      → Makes (me (service_at before)) (Some (Order token command)) who
  order_makes command token who answer there =
      order_once (me (service_at before)) before.pass.now.notes now.pass.now.notes before.pass.now.receipts.items now.pass.now.receipts.items command token who i answer there.made

  same_makes : (name : List ℕ) (asked : Option Asked) (who : List ℕ) → now ≡ before → Makes name asked who
  same_makes name asked who same =
      let K : HeldNode R Q W → Type 0 = λ h. MakesAsked name i who asked before.pass.now.notes h.pass.now.notes before.pass.now.receipts.items h.pass.now.receipts.items in
      subst K (sym same) (asks_nothing name i who asked before.pass.now.notes before.pass.now.receipts.items)

  done_makes : (asked : Option Asked) (who : List ℕ) (response : WireResponse) → IsDone service_at waits_at OrdersThere before asked who i response now
      → Makes (me (service_at before)) asked who
  done_makes None who response is = same_makes (me (service_at before)) None who is.0
  done_makes (Some (Order token command)) who response is = order_makes command token who is.answer is.made
  done_makes (Some (Report report)) who response is = same_makes (me (service_at before)) (Some (Report report)) who is.0
  done_makes (Some (IllText fault)) who response is = same_makes (me (service_at before)) (Some (IllText fault)) who is.0

  left_makes : (asked : Option Asked) (who : List ℕ) → IsLeft OrdersThere before asked who i now → Makes (me (service_at before)) asked who
  left_makes None who is = same_makes (me (service_at before)) None who is
  left_makes (Some (Order token command)) who (inl same) = same_makes (me (service_at before)) (Some (Order token command)) who same
  left_makes (Some (Order token command)) who (inr is) = order_makes command token who is.0 is.1
  left_makes (Some (Report report)) who is = same_makes (me (service_at before)) (Some (Report report)) who is
  left_makes (Some (IllText fault)) who is = same_makes (me (service_at before)) (Some (IllText fault)) who is

  makes_by : (asked : Option Asked) (who : List ℕ) (reply : Reply)
      → IfOk reply (λ (response : WireResponse). IsDone service_at waits_at OrdersThere before asked who i response now)
      → OnErr reply (IsLeft OrdersThere before asked who i now) → Makes (me (service_at before)) asked who
  makes_by asked who (Ok response) is left = done_makes asked who response is
  makes_by asked who (Err lacks) is left = left_makes asked who left

  -- by the pass that was lent, with these notes and receipts
  pub reply_makes : (name : List ℕ) → me (service_at before) ≡ name → (asked : Option Asked) (who : List ℕ) (reply : Reply) (notes : Notes) (receipts : List Receipt)
      → IfOk reply (λ (response : WireResponse). IsDone service_at waits_at OrdersThere before asked who i response now)
      → OnErr reply (IsLeft OrdersThere before asked who i now) → (IsLent → notes ≡ now.pass.now.notes) → (IsLent → receipts ≡ now.pass.now.receipts.items)
      → MakesAsked name i who asked before.pass.now.notes notes before.pass.now.receipts.items receipts
  reply_makes name named asked who reply notes receipts is left noted received =
      let back = lent asked who reply is left in
      let K : List Receipt → Type 0 = λ r. MakesAsked name i who asked before.pass.now.notes now.pass.now.notes before.pass.now.receipts.items r in
      let N : Notes → Type 0 = λ n. MakesAsked name i who asked before.pass.now.notes n before.pass.now.receipts.items receipts in
      subst N (sym (noted back)) (subst K (sym (received back)) (subst (λ (n : List ℕ). Makes n asked who) named (makes_by asked who reply is left)))

  -- a report is one of the service behind the lock
  pub report_told : (asked : Option Asked) (who : List ℕ) (reply : Reply)
      → IfOk reply (λ (response : WireResponse). IsDone service_at waits_at OrdersThere before asked who i response now) → IfOk reply (TellsReport asked (waits_at before) (service_at before))
  report_told None who (Ok response) is = tt
  report_told (Some (Order token command)) who (Ok response) is = tt
  report_told (Some (Report report)) who (Ok response) is = is.1
  report_told (Some (IllText fault)) who (Ok response) is = tt
  report_told asked who (Err lacks) is = tt

  module _ (e : Endpoint) (of : IsServiceOf e.me (service_at before)) (fresh : before.pass.now.notes.gave ≡ None) where
    order_told : (command : Command) (token who : List ℕ) (response : WireResponse) (answer : Result Ordered OrderRefused) → me (service_at now) ≡ me (service_at before)
        → response ≡ order_reply (me (service_at now)) answer
        → Made (me (service_at before)) before.pass.now.notes now.pass.now.notes before.pass.now.receipts.items now.pass.now.receipts.items (events.Order command token who i) (done.Order answer)
        ⊎ IsUnmade before.pass.now.notes now.pass.now.notes before.pass.now.receipts.items now.pass.now.receipts.items answer
        → IsToldSo e i now.pass.now.notes who (Some (Order token command)) response
    order_told command token who response answer named told (inl made) = inl (record {
      answer = answer;
      so = ordered_so (me (service_at before)) before.pass.now.notes now.pass.now.notes before.pass.now.receipts.items now.pass.now.receipts.items command token who i answer made;
      told = told ∙ ap (λ (n : List ℕ). order_reply n answer) (named ∙ of.is);
    })
    order_told command token who response answer named told (inr unmade) =
        inr (ap (λ (n : Notes). n.gave) unmade.notes ∙ fresh, told ∙ ap (λ (a : Result Ordered OrderRefused). order_reply (me (service_at now)) a) unmade.lacks)

    done_told : (asked : Option Asked) (who : List ℕ) (response : WireResponse) → IsDone service_at waits_at OrdersThere before asked who i response now
        → IsToldSo e i now.pass.now.notes who asked response
    done_told None who response is = inl is.1
    done_told (Some (Order token command)) who response is = order_told command token who response is.answer is.made.named is.told is.made.made
    done_told (Some (Report report)) who response is = inl (record { service = service_at before; of = of; waits = waits_at before; told = is.1 })
    done_told (Some (IllText fault)) who response is = inl is.1

    pub reply_told : (asked : Option Asked) (who : List ℕ) (reply : Reply) (notes : Notes)
        → IfOk reply (λ (response : WireResponse). IsDone service_at waits_at OrdersThere before asked who i response now) → (IsLent → notes ≡ now.pass.now.notes)
        → IfOk reply (λ (response : WireResponse). IsToldSo e i notes who asked response)
    reply_told asked who (Ok response) notes is noted =
        let told = done_told asked who response is in
        subst (λ (n : Notes). IsToldSo e i n who asked response) (sym (noted (done_lent asked who response is))) told
    reply_told asked who (Err lacks) notes is noted = tt

-- ---- a request

module _ (e : Endpoint) (i : Inputs) (notes : Notes) where
  -- of what was read of a request, and of its user
  pub request_told : (asked : Option Asked) (who : List ℕ) (request : ConsoleRequest) (reply : Reply) → asked ≡ asked_in request → who ≡ request.who
      → IfOk reply (λ (response : WireResponse). IsToldSo e i notes who asked response)
      → IfOk reply (λ (response : WireResponse). IsOperatorTold e i request notes response)
  request_told asked who request reply read by told =
      let A : Option Asked → Type 0 = λ asked. IfOk reply (λ (response : WireResponse). IsToldSo e i notes who asked response) in
      let B : List ℕ → Type 0 = λ who. IfOk reply (λ (response : WireResponse). IsToldSo e i notes who (asked_in request) response) in
      subst B by (subst A read told)

  pub want_told : (request : ConsoleRequest) (reply : Reply) → IfOk reply (IsWantTold notes)
      → IfOk reply (λ (response : WireResponse). IsOperatorTold e i request notes response)
  want_told request (Ok response) told = inr told
  want_told request (Err lacks) told = tt

pub request_makes : (name : List ℕ) (i : Inputs) (before now : Notes) (had have : List Receipt) (asked : Option Asked) (who : List ℕ) (request : ConsoleRequest)
    → asked ≡ asked_in request → who ≡ request.who → MakesAsked name i who asked before now had have
    → MakesAsked name i request.who (asked_in request) before now had have
request_makes name i before now had have asked who request read by makes =
    let A : Option Asked → Type 0 = λ asked. MakesAsked name i who asked before now had have in
    let B : List ℕ → Type 0 = λ who. MakesAsked name i who (asked_in request) before now had have in
    subst B by (subst A read makes)

-- where the notes have no order, memory may be told to be wanting
pub want_so : (notes : Notes) (reply : Reply) → notes.gave ≡ None → IfOk reply (λ (response : WireResponse). response ≡ console_refusal (codes "nomemory") 0)
    → IfOk reply (IsWantTold notes)
want_so notes (Ok response) none told = (none, told)
want_so notes (Err lacks) none told = tt

-- ---- previews

-- what is known of the service that is lent, whether it was copied or not
pub copied_of : (name : List ℕ) (s : Kept) (copied : Result Kept LacksMemory) → IsServiceOf name s → IfOk copied (λ (copy : Kept). IsServiceOf name s)
copied_of name s (Ok copy) of = of
copied_of name s (Err lacks) of = tt

-- a copy is the service that was lent
pub copy_so : (name : List ℕ) (s : Kept) (copied : Result Kept LacksMemory) → IfOk copied (λ (copy : Kept). copy ≡ s) → IfOk copied (λ (copy : Kept). IsServiceOf name s)
    → IfOk copied (IsServiceOf name)
copy_so name s (Ok copy) same of = subst (IsServiceOf name) (sym same) of
copy_so name s (Err lacks) same of = tt

pub shows_trial : (name : List ℕ) (trial : Trial) (who : List ℕ) (s : Kept) (reply : Reply) → IsServiceOf name s → IfOk reply (TellsShown trial who s)
    → IfOk reply (ShowsTrial name trial who)
shows_trial name trial who s (Ok response) of told = record { service = s; of = of; told = told }
shows_trial name trial who s (Err lacks) of told = tt

module _ (name : List ℕ) (request : ConsoleRequest) (reply : Reply) where
  by_read : (tried : Option Tried) → tried ≡ tried_in request → IfOk reply (IsTriedTold name request.who tried) → IfOk reply (IsPreviewTold name request)
  by_read tried read told = subst (λ (o : Option Tried). IfOk reply (IsTriedTold name request.who o)) read told

  -- by what was read of the request
  pub trial_so : (trial : Trial) → Some (Ok trial) ≡ tried_in request → IfOk reply (ShowsTrial name trial request.who) → IfOk reply (IsPreviewTold name request)
  trial_so trial read told = by_read (Some (Ok trial)) read told

  pub ill_text_so : (at : ℕ) → Some (Err at) ≡ tried_in request → IfOk reply (λ (response : WireResponse). response ≡ fault_reply (Program at)) → IfOk reply (IsPreviewTold name request)
  ill_text_so at read told = by_read (Some (Err at)) read told

  pub ill_body_so : None ≡ tried_in request → IfOk reply (λ (response : WireResponse). response ≡ bad) → IfOk reply (IsPreviewTold name request)
  ill_body_so read told = by_read None read told

-- what is told is written, or its write fails, or memory is wanting for that
pub preview_said : (name : List ℕ) (request : ConsoleRequest) (before now : Writes) (response : WireResponse) (answer : Served) → IsPreviewTold name request response
    → IsSaid response before now answer → IsPreviewSo name request before now answer
preview_said name request before now response (served.Said said) told says = (response, told, says)
preview_said name request before now response served.WriteFault told says = (response, told, says)
preview_said name request before now response served.NoMemory told says = says
preview_said name request before now response (served.Committed index) told says = absurd says
preview_said name request before now response (served.Console given) told says = absurd says
preview_said name request before now response (served.FrontRefused why) told says = absurd says
preview_said name request before now response (served.WireRefused why) told says = absurd says
preview_said name request before now response served.Gone told says = absurd says
