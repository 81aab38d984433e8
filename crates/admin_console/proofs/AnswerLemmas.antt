-- What came of a request at a desk, by what was asked.
use Rattle.std.proofs.Common.{◌≡◌, ℕ, List, Option, Some, None, Result, Ok, Err, IfOk, OnErr, refl, ap, ap₂, ◌∙◌, subst, inl, inr}
use Rattle.lang_base.specs.declared.memory.NoMemory.{NoMemory as LacksMemory}
use Rattle.lang_core.specs.declared.inputs.Inputs.{Inputs}
use Rattle.journal_rows.specs.declared.orders.Command.{Command}
use Rattle.order_texts.specs.declared.refused.TextFault.{TextFault}
use Rattle.repair_messages.specs.declared.refusals.Refusal.{Refusal}
use Rattle.service_events.specs.State.{Kept, me}
use Rattle.service_events.specs.declared.answers.Ordered.{Ordered}
use Rattle.service_events.specs.declared.refusals.OrderRefused.{OrderRefused}
use Rattle.http_front.specs.declared.message.WireResponse.{WireResponse}
use Rattle.wire_fields.specs.declared.console.ConsoleRequest.{ConsoleRequest}
use Rattle.admin_console.specs.Answers.{IsAnswered, IsDone, IsLeft, IsUnanswered, Makes, Waits}
use Rattle.admin_console.specs.Asking.{asked_in}
use Rattle.admin_console.specs.Replies.{bad, fault_reply, order_reply, report_reply}
use Rattle.admin_console.specs.Reports.{report_of}
use Rattle.admin_console.specs.declared.asking.Asked.{Asked}
use Rattle.admin_console.specs.declared.asking.Asked.TheVariants as asked
use Rattle.admin_console.specs.declared.asking.Report.{Report}

-- the reply, or that memory was wanting
abbrev pub Reply : Type 0
Reply = Result WireResponse LacksMemory

-- ---- what is replied

module _ {Desk : Type 0} (kept : Desk → Kept) (waits : Waits Desk) (Made : Makes Desk) (desk : Desk) (i : Inputs) where
  pub told_order : (after : Desk) (command : Command) (token who : List ℕ) (answer : Result Ordered OrderRefused) (reply : Reply) (name : List ℕ)
      → Made desk command token who i answer after → name ≡ me (kept after) → IfOk reply (λ (response : WireResponse). response ≡ order_reply name answer)
      → IfOk reply (λ (response : WireResponse). IsDone kept waits Made desk (Some (asked.Order token command)) who i response after)
  told_order after command token who answer (Ok response) name made named told =
      record { answer = answer; made = made; told = told ∙ ap (λ (n : List ℕ). order_reply n answer) named }
  told_order after command token who answer (Err lacks) name made named told = tt

  -- what is no order changes nothing
  pub told_report : (report : Report) (who : List ℕ) (s : Kept) (why : Option Refusal) (reply : Reply) → s ≡ kept desk → why ≡ waits desk
      → IfOk reply (λ (response : WireResponse). response ≡ report_reply (report_of report why s))
      → IfOk reply (λ (response : WireResponse). IsDone kept waits Made desk (Some (asked.Report report)) who i response desk)
  told_report report who s why (Ok response) lent says told = (refl, told ∙ ap₂ (λ (w : Option Refusal) (k : Kept). report_reply (report_of report w k)) says lent)
  told_report report who s why (Err lacks) lent says told = tt

  pub told_fault : (fault : TextFault) (who : List ℕ) (reply : Reply) → IfOk reply (λ (response : WireResponse). response ≡ fault_reply fault)
      → IfOk reply (λ (response : WireResponse). IsDone kept waits Made desk (Some (asked.IllText fault)) who i response desk)
  told_fault fault who (Ok response) told = (refl, told)
  told_fault fault who (Err lacks) told = tt

  pub told_ill : (who : List ℕ) (reply : Reply) → IfOk reply (λ (response : WireResponse). response ≡ bad)
      → IfOk reply (λ (response : WireResponse). IsDone kept waits Made desk None who i response desk)
  told_ill who (Ok response) told = (refl, told)
  told_ill who (Err lacks) told = tt

  pub answered : (after : Desk) (what : Option Asked) (who : List ℕ) (request : ConsoleRequest) (reply : Reply) → what ≡ asked_in request → who ≡ request.who
      → IfOk reply (λ (response : WireResponse). IsDone kept waits Made desk what who i response after)
      → IfOk reply (λ (response : WireResponse). IsAnswered kept waits Made desk request i response after)
  answered after what who request reply asks by done =
      let W : Option Asked → Type 0 = λ what. IfOk reply (λ (response : WireResponse). IsDone kept waits Made desk what who i response after) in
      let B : List ℕ → Type 0 = λ who. IfOk reply (λ (response : WireResponse). IsDone kept waits Made desk (asked_in request) who i response after) in
      subst B by (subst W asks done)

-- ---- what is left without a reply

module _ {Desk : Type 0} (Made : Makes Desk) (desk : Desk) (i : Inputs) where
  pub untold_order : (after : Desk) (command : Command) (token who : List ℕ) (answer : Result Ordered OrderRefused) (reply : Reply) → Made desk command token who i answer after
      → OnErr reply (IsLeft Made desk (Some (asked.Order token command)) who i after)
  untold_order after command token who answer (Ok response) made = tt
  untold_order after command token who answer (Err lacks) made = inr (answer, made)

  -- whatever was asked
  pub left_as_it_was : (what : Option Asked) (who : List ℕ) → IsLeft Made desk what who i desk
  left_as_it_was None who = refl
  left_as_it_was (Some (asked.Order token command)) who = inl refl
  left_as_it_was (Some (asked.Report report)) who = refl
  left_as_it_was (Some (asked.IllText fault)) who = refl

  pub unanswered : (after : Desk) (what : Option Asked) (who : List ℕ) (request : ConsoleRequest) (reply : Reply) → what ≡ asked_in request → who ≡ request.who
      → OnErr reply (IsLeft Made desk what who i after)
      → OnErr reply (IsUnanswered Made desk request i after)
  unanswered after what who request reply asks by left =
      let W : Option Asked → Type 0 = λ what. OnErr reply (IsLeft Made desk what who i after) in
      let B : List ℕ → Type 0 = λ who. OnErr reply (IsLeft Made desk (asked_in request) who i after) in
      subst B by (subst W asks left)
