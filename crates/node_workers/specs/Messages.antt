-- What became of a version of a call, a token or a fetch that a peer sent.
use Rattle.std.specs.Prelude.{ℕ, ◌≡◌, List, Some, Result, IfOk}
use Rattle.lang_core.specs.declared.inputs.Inputs.{Inputs}
use Rattle.repair_messages.specs.declared.messages.AnswerMessage.{AnswerMessage}
use Rattle.repair_messages.specs.declared.messages.Fetch.{Fetch}
use Rattle.repair_messages.specs.declared.messages.SetMessage.{SetMessage}
use Rattle.repair_messages.specs.declared.messages.TokenMessage.{TokenMessage}
use Rattle.journal_rows.specs.declared.orders.Command.{Command}
use Rattle.service_events.specs.Messages.{ack_of, confirm_of}
use Rattle.service_events.specs.Refusals.{answer_refusal, give_refusal, order_refusal, take_refusal}
use Rattle.service_events.specs.declared.answers.Heard.{Heard}
use Rattle.service_events.specs.declared.answers.Ordered.{Ordered}
use Rattle.service_events.specs.declared.answers.Taken.{Taken}
use Rattle.service_events.specs.declared.event.Done.TheVariants as done
use Rattle.service_events.specs.declared.event.Event.TheVariants as events
use Rattle.service_events.specs.declared.refusals.AnswerRefused.{AnswerRefused}
use Rattle.service_events.specs.declared.refusals.GiveRefused.{GiveRefused}
use Rattle.service_events.specs.declared.refusals.OrderRefused.{OrderRefused}
use Rattle.service_events.specs.declared.refusals.TakeRefused.{TakeRefused}
use Rattle.node_core.specs.Notes.{turn_if}
use Rattle.node_core.specs.declared.notes.Notes.{Notes}

-- the notes have what the service answered to the version; where it took it, it acknowledges that version
pub record IsTakenSo (set : SetMessage) (i : Inputs) (now : Notes) (taken : Result Taken TakeRefused) : Type 0 where
  pub noted : now.gave ≡ Some (record { asked = events.Take set i; done = done.Take taken })
  pub turn : now.turn ≡ turn_if take_refusal taken
  pub ack : IfOk taken (λ t. t.ack ≡ ack_of set)

-- likewise of an operator's order
pub record IsOrderedSo (command : Command) (token who : List ℕ) (i : Inputs) (now : Notes) (ordered : Result Ordered OrderRefused) : Type 0 where
  pub noted : now.gave ≡ Some (record { asked = events.Order command token who i; done = done.Order ordered })
  pub turn : now.turn ≡ turn_if order_refusal ordered

-- likewise of a token, which it confirms
pub record IsHeardSo (t : TokenMessage) (now : Notes) (heard : Result Heard AnswerRefused) : Type 0 where
  pub noted : now.gave ≡ Some (record { asked = events.TakeToken t; done = done.TakeToken heard })
  pub turn : now.turn ≡ turn_if answer_refusal heard
  pub confirm : IfOk heard (λ h. h.confirm ≡ confirm_of t)

-- the service of this name gives it to who fetches, as an answer to that call
pub record IsGivenBy (name : List ℕ) (f : Fetch) (a : AnswerMessage) : Type 0 where
  pub from : a.callee ≡ name
  pub to : a.caller ≡ f.caller
  pub number : a.number ≡ f.number

-- likewise of a fetch, to which the service of this name gives an answer
pub record IsGivenSo (name : List ℕ) (f : Fetch) (now : Notes) (given : Result AnswerMessage GiveRefused) : Type 0 where
  pub noted : now.gave ≡ Some (record { asked = events.Give f; done = done.Give given })
  pub turn : now.turn ≡ turn_if give_refusal given
  pub answer : IfOk given (IsGivenBy name f)
