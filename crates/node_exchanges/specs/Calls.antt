-- The calls that a service makes to peers for a live request.
use Rattle.std.specs.Prelude.{ℕ, ◌≡◌, ◌+◌, ◌++◌, ◌⊎◌, ◌&&◌, Bool, false, List, [], ◌∷◌, Option, Some, None, Result, Ok, Err, All, length, nat_eq, if◌then◌else◌}
use Rattle.std.specs.Option.{ForSome}
use Rattle.lang_base.specs.declared.memory.NoMemory.{NoMemory as LacksMemory}
use Rattle.lang_core.specs.declared.request.Request.{Request}
use Rattle.repair_messages.specs.declared.messages.AnswerMessage.{AnswerMessage}
use Rattle.repair_messages.specs.declared.messages.SetMessage.{SetMessage}
use Rattle.call_registers.specs.declared.register.Why.{Why}
use Rattle.call_registers.specs.declared.register.Why.TheVariants as whys
use Rattle.io_links.specs.Exchanges.{Exchanges, IsFailure}
use Rattle.io_links.specs.declared.links.Exchange.{Exchange}
use Rattle.io_links.specs.declared.links.Exchange.TheVariants as answers
use Rattle.io_links.specs.declared.links.Exchanged.{Exchanged}
use Rattle.http_front.specs.declared.message.FrontRefused.{FrontRefused}
use Rattle.wire_fields.specs.Named.{value_of}
use Rattle.wire_fields.specs.declared.refused.WireRefused.{WireRefused}
use Rattle.wire_replies.specs.declared.kinds.Asking.TheVariants as asked
use Rattle.wire_replies.specs.declared.replies.Outgoing.{Outgoing}
use Rattle.wire_replies.specs.declared.replies.Outgoing.TheVariants as replies
use Rattle.wire_words.specs.Failures.{call_reply, why_failed}
use Rattle.wire_bytes.specs.Hearing.{IsReplied}
use Rattle.wire_bytes.specs.Sending.{SendsCall}
use Rattle.wire_bytes.specs.declared.hearing.Replied.{Replied}
use Rattle.node_exchanges.specs.Endpoints.{Endpoint}
use Rattle.node_exchanges.specs.declared.exchanges.Back.{Back}
use Rattle.node_exchanges.specs.declared.exchanges.Back.TheVariants as backs

-- ---- how many

-- so many of the list are so, or more
abbrev pub AtLeast : {X : Type 0} → (X → Type 0) → ℕ → List X → Type 0
AtLeast P n [] = n ≡ 0
AtLeast P n (x ∷ xs) = AtLeast P n xs ⊎ ((m : ℕ) × (n ≡ m + 1) × P x × AtLeast P m xs)

-- ---- one exchange

-- how many services stand in the chain of what is asked; none where nothing is
abbrev pub chain_length : Option Request → ℕ
chain_length None = 0
chain_length (Some request) = length request.chain

-- in this exchange the call was sent to its callee, which has this secret
pub record CallSent (e : Endpoint) (set : SetMessage) (secret : List ℕ) (x : Exchanged) : Type 0 where
  pub door : value_of set.dest e.doors ≡ Some x.address
  pub peer : value_of set.dest e.secrets ≡ Some secret
  pub sends : SendsCall e.me set.dest x.address e.door e.secret set x.bytes

-- a call of this service to a peer
pub record IsCall (e : Endpoint) (x : Exchanged) : Type 0 where
  pub set : SetMessage
  pub secret : List ℕ
  pub sent : CallSent e set secret x

-- its exchange failed
abbrev pub IsLost : Exchanged → Type 0
IsLost x = IsFailure x.answer

-- the answer is one of version 1 to the call
abbrev pub is_answer_to : SetMessage → AnswerMessage → Bool
is_answer_to set a = nat_eq a.number set.number && nat_eq a.version 1

abbrev pub is_answer_if : SetMessage → Option AnswerMessage → Bool
is_answer_if set None = false
is_answer_if set (Some a) = is_answer_to set a

abbrev pub replies_so : SetMessage → Outgoing → Bool
replies_so set (replies.Answered id answer response) = is_answer_if set answer
replies_so set (replies.Ack ack) = false
replies_so set (replies.Confirm confirm) = false
replies_so set (replies.Refused word number) = false

abbrev pub answers_in : SetMessage → Result Outgoing WireRefused → Bool
answers_in set (Ok reply) = replies_so set reply
answers_in set (Err why) = false

-- the response is such an answer
abbrev pub answers_call : SetMessage → Result Replied FrontRefused → Bool
answers_call set (Ok replied) = answers_in set replied.reply
answers_call set (Err why) = false

-- the bytes of this reply spell no answer of version 1 to the call
abbrev pub SpellsNoAnswer : Endpoint → SetMessage → List ℕ → List ℕ → Type 0
SpellsNoAnswer e set secret bytes =
    (read : Result Replied FrontRefused) × (left : List ℕ) × IsReplied e.me set.dest secret asked.Call bytes read left × (answers_call set read ≡ false)

-- a call, and its reply isn't an answer of version 1 to it
pub record IsRefused (e : Endpoint) (x : Exchanged) : Type 0 where
  pub set : SetMessage
  pub secret : List ℕ
  pub sent : CallSent e set secret x
  pub bytes : List ℕ
  pub reply : x.answer ≡ answers.Reply bytes
  pub no : SpellsNoAnswer e set secret bytes

-- ---- the exchanges of a request

-- calls to peers, of which so many were lost, or more, and so many were refused, or more
pub record AreCalls (e : Endpoint) (lost refused : ℕ) (made : List Exchanged) : Type 0 where
  pub calls : All (IsCall e) made
  pub lost_so : AtLeast IsLost lost made
  pub refused_so : AtLeast (IsRefused e) refused made

-- where the link tells its exchanges, these were made
abbrev pub LinkTells : Exchanges → Exchanges → List Exchanged → Type 0
LinkTells before now made = ForSome before.made (λ all. now.made ≡ Some (all ++ made))

-- where the link tells its exchanges, such calls were made
abbrev pub CallsMade : Endpoint → ℕ → ℕ → Exchanges → Exchanges → Type 0
CallsMade e lost refused before now =
    ForSome before.made (λ all. (made : List Exchanged) × (now.made ≡ Some (all ++ made)) × AreCalls e lost refused made)

-- ---- one call

abbrev pub one_if_lost : Why → ℕ
one_if_lost (whys.Lost note) = 1
one_if_lost (whys.Refused word number) = 0
one_if_lost whys.Changes = 0

abbrev pub one_if_refused : Why → ℕ
one_if_refused (whys.Lost note) = 0
one_if_refused (whys.Refused word number) = 1
one_if_refused whys.Changes = 0

abbrev pub lost_in : Result AnswerMessage Why → ℕ
lost_in (Ok answer) = 0
lost_in (Err why) = one_if_lost why

abbrev pub refused_in : Result AnswerMessage Why → ℕ
refused_in (Ok answer) = 0
refused_in (Err why) = one_if_refused why

-- how many calls were lost, and refused, by what came of one
abbrev pub lost_by_one : Result (Result AnswerMessage Why) LacksMemory → ℕ
lost_by_one (Ok came) = lost_in came
lost_by_one (Err why) = 0

abbrev pub refused_by_one : Result (Result AnswerMessage Why) LacksMemory → ℕ
refused_by_one (Ok came) = refused_in came
refused_by_one (Err why) = 0

-- where it failed, it was lost or refused
abbrev pub FailsOnly : Result AnswerMessage Why → Type 0
FailsOnly (Err whys.Changes) = ⊥
FailsOnly came = Unit {0}

-- an answer is one of version 1 to the call of this number, from this service
abbrev pub AnswersOnly : List ℕ → ℕ → Result AnswerMessage Why → Type 0
AnswersOnly dest number (Ok a) = (a.callee ≡ dest) × (a.number ≡ number) × (a.version ≡ 1)
AnswersOnly dest number (Err why) = Unit {0}

-- ---- what comes of it

-- an answer, where it is one of version 1 to the call; another one is as good as unread
abbrev pub if_answer_to : SetMessage → ℕ → AnswerMessage → Result AnswerMessage Why
if_answer_to set status a = if is_answer_to set a then Ok a else Err (why_failed None status)

abbrev pub answer_if : SetMessage → ℕ → Result AnswerMessage Why → Result AnswerMessage Why
answer_if set status (Ok a) = if_answer_to set status a
answer_if set status (Err why) = Err why

-- of a response with this status
abbrev pub came_in : SetMessage → ℕ → Result Outgoing WireRefused → Result AnswerMessage Why
came_in set status (Ok reply) = answer_if set status (call_reply reply status)
came_in set status (Err why) = Err (why_failed None status)

-- what was read of a reply comes to the answer that it spells, or to why there is none
abbrev pub came_of : SetMessage → Result Replied FrontRefused → Result AnswerMessage Why
came_of set (Ok replied) = came_in set replied.status replied.reply
came_of set (Err why) = Err (why_failed None 0)

-- this came of a call whose exchange had this answer: what the bytes of a reply spell, or that the exchange failed
abbrev pub CameOf : Endpoint → SetMessage → List ℕ → Exchange → Result AnswerMessage Why → Type 0
CameOf e set secret (answers.Reply bytes) came =
    (read : Result Replied FrontRefused) × (left : List ℕ) × IsReplied e.me set.dest secret asked.Call bytes read left × (came ≡ came_of set read)
CameOf e set secret answers.NoMemory came = ⊥
CameOf e set secret (answers.Failed note) came = came ≡ Err (whys.Lost note)

-- what is made of what came back
abbrev pub came_by : SetMessage → Back → Result AnswerMessage Why
came_by set (backs.Failed note) = Err (whys.Lost note)
came_by set (backs.Response status None) = Err (why_failed None status)
came_by set (backs.Response status (Some reply)) = came_in set status (Ok reply)

abbrev pub came_with : SetMessage → Result Back LacksMemory → Result (Result AnswerMessage Why) LacksMemory
came_with set (Ok came) = Ok (came_by set came)
came_with set (Err why) = Err why

-- an exchange in which the call was made, and this came of it
pub record IsCallOf (e : Endpoint) (set : SetMessage) (came : Result AnswerMessage Why) (x : Exchanged) : Type 0 where
  pub secret : List ℕ
  pub sent : CallSent e set secret x
  pub so : CameOf e set secret x.answer came

-- one exchange was made, and no other, where the link tells that: in it the call was made, and this came of it
abbrev pub CallsIt : Endpoint → SetMessage → Result AnswerMessage Why → Exchanges → Exchanges → Type 0
CallsIt e set came before now = (x : Exchanged) × LinkTells before now (x ∷ []) × IsCallOf e set came x

-- the call was sent in this exchange
abbrev pub IsSent : Endpoint → SetMessage → Exchanged → Type 0
IsSent e set x = (secret : List ℕ) × CallSent e set secret x

-- no exchange was made, or this one, where the link tells it
abbrev pub SendsAtMost : Endpoint → SetMessage → Exchanges → Exchanges → Type 0
SendsAtMost e set before now = (now ≡ before) ⊎ ((x : Exchanged) × LinkTells before now (x ∷ []) × IsSent e set x)
