-- The words and numbers with which a service tells why it did nothing.
use Rattle.std.specs.Prelude.{◌≡◌, ℕ, List}
use Rattle.repair_messages.specs.Refusals.{word_text}
use Rattle.repair_messages.specs.declared.refusals.Refusal.{Refusal}
use Rattle.service_events.specs.Refusals.{answer_refusal, arrive_refusal, give_refusal, order_refusal, take_refusal}
use Rattle.service_events.specs.declared.refusals.AnswerRefused.{AnswerRefused}
use Rattle.service_events.specs.declared.refusals.ArriveRefused.{ArriveRefused}
use Rattle.service_events.specs.declared.refusals.GiveRefused.{GiveRefused}
use Rattle.service_events.specs.declared.refusals.OrderRefused.{OrderRefused}
use Rattle.service_events.specs.declared.refusals.TakeRefused.{TakeRefused}
use Rattle.wire_replies.specs.Writing.{IsSpelt}
use Rattle.wire_replies.specs.declared.replies.Outgoing.TheVariants as replies

-- a word, and its number, 0 where the word has none
abbrev pub Told : Type 0
Told = List ℕ × ℕ

abbrev pub refusal_told : Refusal → Told
refusal_told refusal = (word_text refusal.word, refusal.number)

-- of a live request
abbrev pub arrive_told : ArriveRefused → Told
arrive_told why = refusal_told (arrive_refusal why)

-- of a version of a call
abbrev pub take_told : TakeRefused → Told
take_told why = refusal_told (take_refusal why)

-- of a token
abbrev pub answer_told : AnswerRefused → Told
answer_told why = refusal_told (answer_refusal why)

-- of a fetch
abbrev pub give_told : GiveRefused → Told
give_told why = refusal_told (give_refusal why)

-- of an order
abbrev pub order_told : OrderRefused → Told
order_told why = refusal_told (order_refusal why)

-- ---- laws

-- it has a spelling of its own: the word is of the table, with number 0 where it has none
abbrev pub IsTold : Told → Type 0
IsTold told = IsSpelt (replies.Refused told.0 told.1)

-- another refusal of an order is told so only where it is the same one
abbrev pub IsOrderTold : OrderRefused → Type 0
IsOrderTold why = (other : OrderRefused) → order_told other ≡ order_told why → other ≡ why
