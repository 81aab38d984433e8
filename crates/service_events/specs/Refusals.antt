-- Each refusal of an event in a word, with what it carries; 0 where it carries nothing.
use Rattle.std.specs.Prelude.{ℕ, Option, Some, None, Result, Ok, Err}
use Rattle.lang_base.specs.declared.memory.NoMemory.{NoMemory as LacksMemory}
use Rattle.repair_messages.specs.declared.refusals.Refusal.{Refusal}
use Rattle.repair_messages.specs.declared.refusals.RefusalWord.{RefusalWord}
use Rattle.repair_messages.specs.declared.refusals.RefusalWord.TheVariants.{NoMemory, Full, NotYet, Gone, NoFlight, Denied, Unknown, Foreign, NoSuchRequest, NotHeld, NotOutside, TooOld, NotQuiet, NoSuchProgram}
use Rattle.service_events.specs.declared.answers.PostReply.{PostReply}
use Rattle.service_events.specs.declared.answers.PostReply.TheVariants as back
use Rattle.service_events.specs.declared.answers.PostWord.{PostWord}
use Rattle.service_events.specs.declared.answers.PostWord.TheVariants as words
use Rattle.service_events.specs.declared.event.Done.{Done}
use Rattle.service_events.specs.declared.event.Done.TheVariants as done
use Rattle.service_events.specs.declared.refusals.AnswerRefused.{AnswerRefused}
use Rattle.service_events.specs.declared.refusals.AnswerRefused.TheVariants as answer
use Rattle.service_events.specs.declared.refusals.ArriveRefused.{ArriveRefused}
use Rattle.service_events.specs.declared.refusals.ArriveRefused.TheVariants as arrive
use Rattle.service_events.specs.declared.refusals.CallRefused.{CallRefused}
use Rattle.service_events.specs.declared.refusals.CallRefused.TheVariants as call
use Rattle.service_events.specs.declared.refusals.GiveRefused.{GiveRefused}
use Rattle.service_events.specs.declared.refusals.GiveRefused.TheVariants as give
use Rattle.service_events.specs.declared.refusals.OrderRefused.{OrderRefused}
use Rattle.service_events.specs.declared.refusals.OrderRefused.TheVariants as order
use Rattle.service_events.specs.declared.refusals.PostRefused.{PostRefused}
use Rattle.service_events.specs.declared.refusals.PostRefused.TheVariants as post
use Rattle.service_events.specs.declared.refusals.TakeRefused.{TakeRefused}
use Rattle.service_events.specs.declared.refusals.TakeRefused.TheVariants as take

abbrev pub refusal : RefusalWord → ℕ → Refusal
refusal word number = record { word = word; number = number }

abbrev pub arrive_refusal : ArriveRefused → Refusal
arrive_refusal arrive.NoMemory = refusal NoMemory 0
arrive_refusal (arrive.Full n) = refusal Full n
arrive_refusal (arrive.NotYet number) = refusal NotYet number
arrive_refusal (arrive.Gone version) = refusal Gone version

abbrev pub call_refusal : CallRefused → Refusal
call_refusal call.NoMemory = refusal NoMemory 0
call_refusal (call.NoFlight flight) = refusal NoFlight flight

abbrev pub take_refusal : TakeRefused → Refusal
take_refusal take.NoMemory = refusal NoMemory 0
take_refusal (take.Full n) = refusal Full n
take_refusal (take.NotYet number) = refusal NotYet number
take_refusal (take.Denied rule) = refusal Denied rule
take_refusal (take.TooOld id) = refusal TooOld id

abbrev pub answer_refusal : AnswerRefused → Refusal
answer_refusal answer.NoMemory = refusal NoMemory 0
answer_refusal (answer.Unknown number) = refusal Unknown number
answer_refusal (answer.Denied rule) = refusal Denied rule
answer_refusal (answer.TooOld number) = refusal TooOld number

abbrev pub give_refusal : GiveRefused → Refusal
give_refusal give.NoMemory = refusal NoMemory 0
give_refusal (give.Unknown number) = refusal Unknown number

abbrev pub post_refusal : PostRefused → Refusal
post_refusal post.NoMemory = refusal NoMemory 0
post_refusal post.Foreign = refusal Foreign 0

abbrev pub order_refusal : OrderRefused → Refusal
order_refusal order.NoMemory = refusal NoMemory 0
order_refusal (order.NoSuchRequest id) = refusal NoSuchRequest id
order_refusal (order.Denied rule) = refusal Denied rule
order_refusal (order.Full n) = refusal Full n
order_refusal order.NotHeld = refusal NotHeld 0
order_refusal (order.NotOutside id) = refusal NotOutside id
order_refusal (order.TooOld id) = refusal TooOld id
order_refusal (order.NotQuiet id) = refusal NotQuiet id
order_refusal (order.NoSuchProgram k) = refusal NoSuchProgram k

abbrev pub memory_refusal : LacksMemory → Refusal
memory_refusal why = refusal NoMemory 0

-- what an answer refuses by these reasons, if it does
abbrev pub refusal_in : {A E : Type 0} → (E → Refusal) → Result A E → Option Refusal
refusal_in refused (Ok a) = None
refusal_in refused (Err why) = Some (refused why)

-- how an event was refused that was answered so, if it was
abbrev pub refusal_of : Done → Option Refusal
refusal_of (done.Arrive result) = refusal_in arrive_refusal result
refusal_of (done.CallAnswered result) = refusal_in call_refusal result
refusal_of (done.CallFailed result) = refusal_in call_refusal result
refusal_of (done.Take result) = refusal_in take_refusal result
refusal_of (done.TakeToken result) = refusal_in answer_refusal result
refusal_of (done.Give result) = refusal_in give_refusal result
refusal_of (done.WritePost result) = refusal_in memory_refusal result
refusal_of (done.Posted result) = refusal_in post_refusal result
refusal_of (done.Step result) = refusal_in memory_refusal result
refusal_of (done.Order result) = refusal_in order_refusal result
refusal_of answer = None

-- ---- live calls

-- the number under which a caller keeps why its call was refused
abbrev pub call_word : ArriveRefused → ℕ
call_word arrive.NoMemory = 1
call_word (arrive.Full n) = 2
call_word (arrive.NotYet number) = 3
call_word (arrive.Gone version) = 4

-- ---- posts

-- which refusal of a post a receiver's word is, if it refuses one
abbrev pub refusing_post : RefusalWord → Option PostWord
refusing_post NoMemory = Some words.NoMemory
refusing_post Full = Some words.Full
refusing_post NotYet = Some words.NotYet
refusing_post Denied = Some words.Denied
refusing_post Unknown = Some words.Unknown
refusing_post TooOld = Some words.TooOld
refusing_post word = None

-- what comes back of a post that brought a version of a call
abbrev pub set_refused : TakeRefused → PostReply
set_refused take.NoMemory = back.Refused words.NoMemory 0
set_refused (take.Full n) = back.Refused words.Full n
set_refused (take.NotYet number) = back.Refused words.NotYet number
set_refused (take.Denied rule) = back.Refused words.Denied rule
set_refused (take.TooOld id) = back.Refused words.TooOld id

-- of one that brought a token
abbrev pub answer_refused : AnswerRefused → PostReply
answer_refused answer.NoMemory = back.Refused words.NoMemory 0
answer_refused (answer.Unknown number) = back.Refused words.Unknown number
answer_refused (answer.Denied rule) = back.Refused words.Denied rule
answer_refused (answer.TooOld number) = back.Refused words.TooOld number

-- and of a fetch
abbrev pub give_refused : GiveRefused → PostReply
give_refused give.NoMemory = back.Refused words.NoMemory 0
give_refused (give.Unknown number) = back.Refused words.Unknown number
