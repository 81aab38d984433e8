-- An answer that comes of a call is one of version 1 to it, from its callee.
use Rattle.std.proofs.Common.{◌≡◌, ℕ, ◌&&◌, Bool, true, false, List, Option, Some, None, Result, Ok, Err, nat_eq, if◌then◌else◌, refl, sym, subst, eqb-true}
use Rattle.std.proofs.lemmas.Bool.{and_parts}
use Rattle.std.proofs.lemmas.Slice.Eq.{bytes_eq-Decides}
use Rattle.lang_base.specs.Texts.{same_text}
use Rattle.repair_messages.specs.declared.messages.AnswerMessage.{AnswerMessage}
use Rattle.repair_messages.specs.declared.messages.SetMessage.{SetMessage}
use Rattle.call_registers.specs.declared.register.Why.{Why}
use Rattle.io_links.specs.Exchanges.{Exchanges}
use Rattle.io_links.specs.declared.links.Exchange.{Exchange}
use Rattle.io_links.specs.declared.links.Exchange.TheVariants as answers
use Rattle.http_front.specs.declared.header.AireHeader.TheVariants as headers
use Rattle.http_front.specs.declared.message.FrontRefused.{FrontRefused}
use Rattle.http_front.specs.declared.message.WireResponse.{WireResponse}
use Rattle.wire_fields.proofs.FormLemmas.{neither}
use Rattle.wire_fields.specs.Rows.{text_at}
use Rattle.wire_fields.specs.declared.refused.WireRefused.{WireRefused}
use Rattle.wire_fields.specs.declared.refused.WireRefused.TheVariants.{Seal}
use Rattle.wire_replies.specs.Reading.{refusal_or_none, reply_head_refusal, reply_in, reply_refusal, reply_seal_refusal, unless_refused}
use Rattle.wire_replies.specs.declared.kinds.Asking.TheVariants as asked
use Rattle.wire_replies.specs.declared.kinds.ReplyKind.{ReplyKind}
use Rattle.wire_replies.specs.declared.kinds.ReplyKind.TheVariants as kinds
use Rattle.wire_replies.specs.declared.replies.Outgoing.{Outgoing}
use Rattle.wire_replies.specs.declared.replies.Outgoing.TheVariants as replies
use Rattle.wire_bytes.specs.Hearing.{IsReplied}
use Rattle.wire_bytes.specs.declared.hearing.Replied.{Replied}
use Rattle.node_exchanges.proofs.CallLemmas.{spelled_by}
use Rattle.node_exchanges.specs.Calls.{AnswersOnly, CallsIt, CameOf, came_in, came_of, is_answer_to}
use Rattle.node_exchanges.specs.Endpoints.{Endpoint}

-- ---- whose reply it is

unrefused : (from seal : Bool) (why : WireRefused) → (if from && seal then None else Some why) ≡ None → from ≡ true
unrefused true seal why none = refl
unrefused false seal why none = absurd (cc none)

-- an answer in a reply is this peer's
abbrev IsFrom : List ℕ → Result Outgoing WireRefused → Type 0
IsFrom peer (Ok (replies.Answered id (Some a) response)) = a.callee ≡ peer
IsFrom peer reply = Unit {0}

no_answer : (peer : List ℕ) (o : Option (List ℕ × ℕ)) → IsFrom peer (Ok (refusal_or_none o))
no_answer peer None = tt
no_answer peer (Some refusal) = tt

sealed_from : (peer secret : List ℕ) (kind : ReplyKind) (response : WireResponse) → reply_seal_refusal peer secret kind response ≡ None
    → text_at response.head headers.From ≡ peer
sealed_from peer secret kind response none =
    (bytes_eq-Decides (text_at response.head headers.From) peer).0 (unrefused (same_text (text_at response.head headers.From) peer) _ Seal none)

read_from : (peer : List ℕ) (kind : ReplyKind) (response : WireResponse) → text_at response.head headers.From ≡ peer → IsFrom peer (Ok (reply_in kind response))
read_from peer kinds.Live response from = from
read_from peer kinds.Ack response from = tt
read_from peer kinds.Confirm response from = tt
read_from peer kinds.Refusal response from = no_answer peer _

reply_from : (me peer secret : List ℕ) (kind : ReplyKind) (response : WireResponse) (refusal : Option WireRefused) → refusal ≡ reply_refusal me peer secret kind response
    → IsFrom peer (unless_refused refusal (reply_in kind response))
reply_from me peer secret kind response (Some why) is = tt
reply_from me peer secret kind response None is =
    read_from peer kind response (sealed_from peer secret kind response
    (neither (reply_head_refusal me kind response.head) (reply_seal_refusal peer secret kind response) (sym is)).1)

-- ---- what came of it

taken_from : (peer : List ℕ) (b : Bool) (why : Why) (a found : AnswerMessage) → found.callee ≡ peer → Ok a ≡ (if b then Ok found else Err why) → a.callee ≡ peer
taken_from peer true why a found from is = (let same : found ≡ a = cc is in subst (λ (x : AnswerMessage). x.callee ≡ peer) same from)
taken_from peer false why a found from is = absurd (cc is)

came_from : (set : SetMessage) (peer : List ℕ) (status : ℕ) (reply : Result Outgoing WireRefused) (a : AnswerMessage) → IsFrom peer reply
    → Ok a ≡ came_in set status reply → a.callee ≡ peer
came_from set peer status (Ok (replies.Answered id (Some found) response)) a from is = taken_from peer (is_answer_to set found) _ a found from is
came_from set peer status (Ok (replies.Answered id None response)) a from is = absurd (cc is)
came_from set peer status (Ok (replies.Ack ack)) a from is = absurd (cc is)
came_from set peer status (Ok (replies.Confirm confirm)) a from is = absurd (cc is)
came_from set peer status (Ok (replies.Refused word n)) a from is = absurd (cc is)
came_from set peer status (Err why) a from is = absurd (cc is)

spelled_from : (e : Endpoint) (set : SetMessage) (secret bytes left : List ℕ) (a : AnswerMessage) (read : Result Replied FrontRefused)
    → IsReplied e.me set.dest secret asked.Call bytes read left → Ok a ≡ came_of set read → a.callee ≡ set.dest
spelled_from e set secret bytes left a (Err why) of is = absurd (cc is)
spelled_from e set secret bytes left a (Ok replied) of is =
    came_from set set.dest replied.status replied.reply a
    (subst (IsFrom set.dest) (sym of.3) (reply_from e.me set.dest secret _ of.0 _ refl)) is

-- it is such an answer, if any
answers_only : (e : Endpoint) (set : SetMessage) (secret : List ℕ) (answer : Exchange) (came : Result AnswerMessage Why) → CameOf e set secret answer came
    → AnswersOnly set.dest set.number came
answers_only e set secret answer (Err why) of = tt
answers_only e set secret (answers.Reply bytes) (Ok a) of =
    let numbers = and_parts (nat_eq a.number set.number) (nat_eq a.version 1) (spelled_by e set secret bytes (Ok a) of).3 in
    (spelled_from e set secret bytes of.1 a of.0 of.2 of.3, eqb-true a.number set.number numbers.0, eqb-true a.version 1 numbers.1)
answers_only e set secret answers.NoMemory (Ok a) of = absurd of
answers_only e set secret (answers.Failed note) (Ok a) of = absurd (cc of)

pub call_answers : (e : Endpoint) (set : SetMessage) (before now : Exchanges) (came : Result AnswerMessage Why) → CallsIt e set came before now
    → AnswersOnly set.dest set.number came
call_answers e set before now came calls = answers_only e set (calls.2).secret (calls.0).answer came (calls.2).so
