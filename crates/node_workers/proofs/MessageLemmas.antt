-- What a service answers to a version of a call, a token and a fetch that a peer sent.
use Rattle.std.proofs.Common.{◌≡◌, ℕ, Bool, true, false, not, List, [], ◌∷◌, Option, Some, None, Result, Ok, Err, IfOk, if◌then◌else◌, refl, sym, ap, subst}
use Rattle.lang_base.specs.Texts.{same_text}
use Rattle.lang_core.specs.declared.inputs.Inputs.{Inputs}
use Rattle.repair_messages.specs.declared.messages.AnswerMessage.{AnswerMessage}
use Rattle.repair_messages.specs.declared.messages.Fetch.{Fetch}
use Rattle.repair_messages.specs.declared.messages.SetMessage.{SetMessage}
use Rattle.repair_messages.specs.declared.messages.TokenMessage.{TokenMessage}
use Rattle.journal_rows.specs.Words.{given_at}
use Rattle.journal_rows.specs.declared.callee.AnsweredRow.{AnsweredRow}
use Rattle.request_log.specs.Entries.{find_call}
use Rattle.request_log.specs.declared.entry.Entry.{Entry}
use Rattle.journal_rows.specs.declared.orders.Command.{Command}
use Rattle.call_registers.specs.Registers.{is_news, register}
use Rattle.call_registers.specs.declared.register.Register.{Register}
use Rattle.service_events.specs.Calls.{noted}
use Rattle.service_events.specs.Messages.{ack_of, acked_again, confirm_of, confirmed_row, give_event, given_where, hear_allowed, hear_decision, hear_denied, hear_new, heard, is_known, is_past_call, is_too_much, origin_of, take_admitted, take_allowed, take_decision, take_denied, take_event, take_new, take_token_event, take_unless_past, taken, token_taken_where}
use Rattle.service_events.specs.Questions.{is_denied}
use Rattle.service_events.specs.State.{After, Kept, after, folded, is_in_flight, me}
use Rattle.service_events.specs.declared.answers.Heard.{Heard}
use Rattle.service_events.specs.declared.answers.Ordered.{Ordered}
use Rattle.service_events.specs.declared.answers.Taken.{Taken}
use Rattle.service_events.specs.declared.event.Done.TheVariants as done
use Rattle.service_events.specs.declared.event.Event.TheVariants as events
use Rattle.service_events.specs.declared.refusals.AnswerRefused.{AnswerRefused}
use Rattle.service_events.specs.declared.refusals.AnswerRefused.TheVariants.{Unknown, TooOld}
use Rattle.service_events.specs.declared.refusals.GiveRefused.{GiveRefused}
use Rattle.service_events.specs.declared.refusals.OrderRefused.{OrderRefused}
use Rattle.service_events.specs.declared.refusals.TakeRefused.{TakeRefused}
use Rattle.service_events.specs.declared.refusals.TakeRefused.TheVariants.{NotYet}
use Rattle.node_core.specs.declared.notes.Notes.{Notes}
use Rattle.node_core.specs.declared.receipt.Receipt.{Receipt}
use Rattle.node_workers.specs.Messages.{IsGivenBy, IsGivenSo, IsHeardSo, IsOrderedSo, IsTakenSo}
use Rattle.node_workers.specs.Turns.{Made}

-- ---- a version of a call

module _ (s : Kept) (set : SetMessage) (i : Inputs) where
  -- where it was taken, that version is acknowledged
  abbrev Acks : After (Result Taken TakeRefused) → Type 0
  Acks a = IfOk a.answer (λ (t : Taken). t.ack ≡ ack_of set)

  asked_acks : (b : Bool) → Acks (if b then take_denied s set else take_allowed s set i)
  asked_acks true = tt
  asked_acks false = refl

  new_acks : (past : Option Entry) → Acks (take_unless_past s set i past)
  new_acks (Some e) = tt
  new_acks None = asked_acks (is_denied (take_decision s set))

  known_acks : (b : Bool) → Acks (if b then after (acked_again s set) (Ok (taken set None)) else take_new s set i)
  known_acks true = refl
  known_acks false = new_acks (find_call (origin_of set) (folded s))

  admitted_acks : (much : Option ℕ) → Acks (take_admitted s set i much)
  admitted_acks (Some n) = tt
  admitted_acks None = known_acks (is_known s set)

  flying_acks : (b : Bool) → Acks (if b then after s (Err (NotYet set.number)) else take_admitted s set i (is_too_much s set))
  flying_acks true = tt
  flying_acks false = admitted_acks (is_too_much s set)

  take_acks : Acks (take_event s set i)
  take_acks = flying_acks (is_in_flight (origin_of set) s)

-- what a worker was told at its node of a version
pub taken_so : (name : List ℕ) (before now : Notes) (had have : List Receipt) (set : SetMessage) (i : Inputs) (taken : Result Taken TakeRefused)
    → Made name before now had have (events.Take set i) (done.Take taken) → IsTakenSo set i now taken
taken_so name before now had have set i (Ok t) made =
    record {
      noted = ap (λ (n : Notes). n.gave) made.notes;
      turn = ap (λ (n : Notes). n.turn) made.notes;
      ack = subst (λ (a : After (Result Taken TakeRefused)). IfOk a.answer (λ (x : Taken). x.ack ≡ ack_of set)) (sym made.made) (take_acks made.service set i);
    }
taken_so name before now had have set i (Err why) made =
    record { noted = ap (λ (n : Notes). n.gave) made.notes; turn = ap (λ (n : Notes). n.turn) made.notes; ack = tt }

-- what a worker was told at its node of an order
pub ordered_so : (name : List ℕ) (before now : Notes) (had have : List Receipt) (command : Command) (token who : List ℕ) (i : Inputs) (ordered : Result Ordered OrderRefused)
    → Made name before now had have (events.Order command token who i) (done.Order ordered) → IsOrderedSo command token who i now ordered
ordered_so name before now had have command token who i ordered made =
    record { noted = ap (λ (n : Notes). n.gave) made.notes; turn = ap (λ (n : Notes). n.turn) made.notes }

-- ---- a token

module _ (s : Kept) (a : TokenMessage) where
  -- where it was heard, it is confirmed
  abbrev Confirms : After (Result Heard AnswerRefused) → Type 0
  Confirms x = IfOk x.answer (λ (h : Heard). h.confirm ≡ confirm_of a)

  module _ (r : Register) where
    asked_confirms : (b : Bool) → Confirms (if b then hear_denied s a r else hear_allowed s a r)
    asked_confirms true = tt
    asked_confirms false = refl

    new_confirms : (b : Bool) → Confirms (if b then after s (Err (TooOld a.number)) else (if is_denied (hear_decision s a r) then hear_denied s a r else hear_allowed s a r))
    new_confirms true = tt
    new_confirms false = asked_confirms (is_denied (hear_decision s a r))

    newer_confirms : (b : Bool) → Confirms (if b then hear_new s a r else after (noted (confirmed_row a ∷ []) s) (Ok (heard a None)))
    newer_confirms true = new_confirms (is_past_call a.number s)
    newer_confirms false = refl

    other_confirms : (b : Bool)
        → Confirms (if b then after s (Err (Unknown a.number)) else (if is_news r a.answer_version then hear_new s a r else after (noted (confirmed_row a ∷ []) s) (Ok (heard a None))))
    other_confirms true = tt
    other_confirms false = newer_confirms (is_news r a.answer_version)

  where_confirms : (o : Option Register) → Confirms (token_taken_where s a o)
  where_confirms None = tt
  where_confirms (Some r) = other_confirms r (not (same_text r.dest a.callee))

  hear_confirms : Confirms (take_token_event s a)
  hear_confirms = where_confirms (register a.number s.registers)

-- what a worker was told at its node of a token
pub heard_so : (name : List ℕ) (before now : Notes) (had have : List Receipt) (a : TokenMessage) (heard : Result Heard AnswerRefused)
    → Made name before now had have (events.TakeToken a) (done.TakeToken heard) → IsHeardSo a now heard
heard_so name before now had have a (Ok h) made =
    record {
      noted = ap (λ (n : Notes). n.gave) made.notes;
      turn = ap (λ (n : Notes). n.turn) made.notes;
      confirm = subst (λ (x : After (Result Heard AnswerRefused)). IfOk x.answer (λ (y : Heard). y.confirm ≡ confirm_of a)) (sym made.made) (hear_confirms made.service a);
    }
heard_so name before now had have a (Err why) made =
    record { noted = ap (λ (n : Notes). n.gave) made.notes; turn = ap (λ (n : Notes). n.turn) made.notes; confirm = tt }

-- ---- a fetch

module _ (s : Kept) (f : Fetch) where
  -- where an answer is given, it is the service's own to that call
  abbrev Gives : After (Result AnswerMessage GiveRefused) → Type 0
  Gives x = IfOk x.answer (IsGivenBy (me s) f)

  where_gives : (o : Option AnsweredRow) → Gives (after s (given_where s f o))
  where_gives None = tt
  where_gives (Some row) = record { from = refl; to = refl; number = refl }

  fetch_gives : Gives (give_event s f)
  fetch_gives = where_gives (given_at f.caller f.number f.answer_version s.journal)

-- what a worker was told at its node of a fetch
pub given_so : (name : List ℕ) (before now : Notes) (had have : List Receipt) (f : Fetch) (given : Result AnswerMessage GiveRefused)
    → Made name before now had have (events.Give f) (done.Give given) → IsGivenSo name f now given
given_so name before now had have f (Ok a) made =
    record {
      noted = ap (λ (n : Notes). n.gave) made.notes;
      turn = ap (λ (n : Notes). n.turn) made.notes;
      answer = subst (λ (who : List ℕ). IsGivenBy who f a) made.is
          (subst (λ (x : After (Result AnswerMessage GiveRefused)). IfOk x.answer (IsGivenBy (me made.service) f)) (sym made.made.0) (fetch_gives made.service f));
    }
given_so name before now had have f (Err why) made =
    record { noted = ap (λ (n : Notes). n.gave) made.notes; turn = ap (λ (n : Notes). n.turn) made.notes; answer = tt }
