-- Orders that are made at a node whose lock is held.
use Rattle.std.proofs.Common.{◌≡◌, ◌⊎◌, ℕ, Bool, true, false, List, Option, Result, Ok, Err, IfOk, OnErr, refl, sym, ap, ◌∙◌, subst, inl, inr}
use Rattle.lang_base.specs.Memory.{Unless, lacks}
use Rattle.lang_base.specs.declared.memory.NoMemory.{NoMemory as LacksMemory}
use Rattle.lang_core.specs.declared.inputs.Inputs.{Inputs}
use Rattle.lang_core.specs.declared.setting.Setting.{Setting}
use Rattle.journal_rows.specs.declared.orders.Command.{Command}
use Rattle.service_events.specs.Commits.{live_rows}
use Rattle.service_events.specs.Doing.{order_memory}
use Rattle.service_events.specs.Orders.{order_event}
use Rattle.service_events.specs.Fits.{Fits}
use Rattle.service_events.specs.State.{After, Kept, after, me}
use Rattle.service_events.specs.declared.answers.Ordered.{Ordered}
use Rattle.service_events.specs.declared.event.Done.{Done as NodeDone}
use Rattle.service_events.specs.declared.event.Done.TheVariants as done
use Rattle.service_events.specs.declared.event.Event.{Event as NodeEvent}
use Rattle.service_events.specs.declared.event.Event.TheVariants as events
use Rattle.service_events.specs.declared.refusals.OrderRefused.{OrderRefused}
use Rattle.service_events.proofs.OrderSettings.{order_setting}
use Rattle.admin_console.specs.Answers.{MakesOrder}
use Rattle.node_core.specs.Doings.{HasReceipts, IsDone}
use Rattle.node_core.specs.Notes.{noted_at}
use Rattle.node_core.specs.declared.notes.Begun.{Begun}
use Rattle.node_core.specs.declared.notes.Notes.{Notes}
use Rattle.node_core.specs.declared.receipt.Receipt.{Receipt}
use Rattle.node_core.proofs.HandedOn.{event_answers_none}
use Rattle.node_workers.specs.Held.{AnswersAs, IsOrderAnswer, IsUnmade}
use Rattle.node_workers.specs.Turns.{Made}

module _ (command : Command) (token who : List ℕ) (i : Inputs) where
  abbrev Order : NodeEvent
  Order = events.Order command token who i

  -- ---- the event of an order

  pub order_answered : (s t : Kept) (begun : Option Begun) (answered : Result NodeDone LacksMemory) → IfOk answered (λ (d : NodeDone). IsDone s begun Order d t)
      → IfOk answered IsOrderAnswer
  order_answered s t begun (Ok (done.Order answer)) is = tt
  order_answered s t begun (Ok d) is = absurd is
  order_answered s t begun (Err why) is = tt

  -- it is the order of that service, unless memory was wanting
  pub order_made : (Beside : Type 0) (s t : Kept) (begun : Option Begun) (answered : Result NodeDone LacksMemory) (answer : Result Ordered OrderRefused)
      → AnswersAs answered answer → IfOk answered (λ (d : NodeDone). IsDone s begun Order d t) → OnErr answered ((t ≡ s) × Beside)
      → MakesOrder s command token who i answer t
  order_made Beside s t begun (Ok d) answer told is same = subst (λ (d : NodeDone). IsDone s begun Order d t) told is
  order_made Beside s t begun (Err why) answer told is same = subst (λ (r : Result Ordered OrderRefused). MakesOrder s command token who i r t) (sym told) same.0

  -- what it is to the worker
  pub order_noted : (Beside : Type 0) (s t : Kept) (secret : List ℕ) (before now : Notes) (had have : List Receipt) (answered : Result NodeDone LacksMemory) (answer : Result Ordered OrderRefused)
      → AnswersAs answered answer → IfOk answered (λ (d : NodeDone). IsDone s before.begun Order d t)
      → IfOk answered (λ (d : NodeDone). now ≡ noted_at s t before Order d)
      → IfOk answered (λ (d : NodeDone). HasReceipts t secret before.begun Order d had have)
      → OnErr answered ((have ≡ had) × Beside × (now ≡ before)) → Fits s
      → Made (me s) before now had have Order (done.Order answer) ⊎ IsUnmade before now had have answer
  order_noted Beside s t secret before now had have (Ok d) answer told is notes receipts same fits =
      let made : Made (me s) before now had have Order d = record { service = s; left = t; secret = secret; is = refl; fits = fits; made = is; notes = notes; receipts = receipts } in
      inl (subst (λ (d : NodeDone). Made (me s) before now had have Order d) told made)
  order_noted Beside s t secret before now had have (Err why) answer told is notes receipts same fits =
      inr (record { lacks = told; notes = same.2; receipts = same.0 })

  -- ---- what an order leaves of the service

  module _ (s t : Kept) (answer : Result Ordered OrderRefused) (makes : MakesOrder s command token who i answer t) where
    -- it answers no live request
    pub order_silent : live_rows t.journal ≡ live_rows s.journal
    order_silent = by (lacks order_memory answer) makes
      where
        by : (lacking : Bool) → Unless lacking (after t answer ≡ order_event s command token who i) (t ≡ s) → live_rows t.journal ≡ live_rows s.journal
        by true same = ap (λ (k : Kept). live_rows k.journal) same
        by false is = ap (λ (a : After (Result Ordered OrderRefused)). live_rows a.service.journal) is ∙ event_answers_none s Order tt

    -- it keeps its name
    pub order_named : me t ≡ me s
    order_named = by (lacks order_memory answer) makes
      where
        by : (lacking : Bool) → Unless lacking (after t answer ≡ order_event s command token who i) (t ≡ s) → me t ≡ me s
        by true same = ap (λ (k : Kept). me k) same
        by false is =
            ap (λ (a : After (Result Ordered OrderRefused)). me a.service) is ∙ ap (λ (x : Setting). x.me) (order_setting s command token who i)
