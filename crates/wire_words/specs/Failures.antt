-- What a reply to a live call comes to for the request that waits for it.
use Rattle.std.specs.Prelude.{◌≡◌, ℕ, ◌<◌, List, Option, Some, None, option_and_then, Result, Ok, Err, nat_eq, if◌then◌else◌}
use Rattle.repair_messages.specs.Refusals.{word_said}
use Rattle.repair_messages.specs.declared.messages.AnswerMessage.{AnswerMessage}
use Rattle.repair_messages.specs.declared.refusals.RefusalWord.{RefusalWord}
use Rattle.repair_messages.specs.declared.refusals.RefusalWord.TheVariants.{NoMemory, Full, NotYet, Gone}
use Rattle.call_registers.specs.declared.register.Why.{Why}
use Rattle.call_registers.specs.declared.register.Why.TheVariants as why
use Rattle.service_events.specs.Refusals.{arrive_refusal, call_word}
use Rattle.service_events.specs.declared.refusals.ArriveRefused.{ArriveRefused}
use Rattle.service_events.specs.declared.refusals.ArriveRefused.TheVariants as arrive
use Rattle.wire_replies.specs.declared.replies.Outgoing.{Outgoing}
use Rattle.wire_replies.specs.declared.replies.Outgoing.TheVariants as replies
use Rattle.wire_words.specs.Refusals.{arrive_told}

-- the refusal of a live call that a word tells with a number; None where it tells none
abbrev pub refused_so : ℕ → RefusalWord → Option ArriveRefused
refused_so n NoMemory = if nat_eq n 0 then Some arrive.NoMemory else None
refused_so n Full = Some (arrive.Full n)
refused_so n NotYet = Some (arrive.NotYet n)
refused_so n Gone = Some (arrive.Gone n)
refused_so n word = None

-- the refusal of a live call that a text and a number tell
unfoldable pub arrive_refused : List ℕ → ℕ → Option ArriveRefused
arrive_refused word n = option_and_then (refused_so n) (word_said word)

-- a call that its callee refused, by the number of that refusal and what it carries
abbrev pub why_refused : ArriveRefused → Why
why_refused refused = why.Refused (call_word refused) (arrive_refusal refused).number

-- a reply that is no refusal of a live call and no answer is number 0, with the status that it came with
abbrev pub why_failed : Option ArriveRefused → ℕ → Why
why_failed None status = why.Refused 0 status
why_failed (Some refused) status = why_refused refused

abbrev pub answer_or_failure : Option AnswerMessage → ℕ → Result AnswerMessage Why
answer_or_failure None status = Err (why_failed None status)
answer_or_failure (Some answer) status = Ok answer

-- the answer that a reply of this status brings, or why the call failed
abbrev pub call_reply : Outgoing → ℕ → Result AnswerMessage Why
call_reply (replies.Answered id answer response) status = answer_or_failure answer status
call_reply (replies.Ack ack) status = Err (why_failed None status)
call_reply (replies.Confirm confirm) status = Err (why_failed None status)
call_reply (replies.Refused word n) status = Err (why_failed (arrive_refused word n) status)

-- ---- laws

-- what tells a refusal tells that one
abbrev pub IsArriveTold : ArriveRefused → Type 0
IsArriveTold refused = arrive_refused (arrive_told refused).0 (arrive_told refused).1 ≡ Some refused

-- the reply is the refusal that a callee tells so
abbrev pub RefusesCall : Outgoing → ArriveRefused → Type 0
RefusesCall reply refused = reply ≡ replies.Refused (arrive_told refused).0 (arrive_told refused).1

-- a callee's refusal is read as that one
abbrev pub ReadsRefusals : Outgoing → ℕ → Type 0
ReadsRefusals reply status = (refused : ArriveRefused) → RefusesCall reply refused → call_reply reply status ≡ Err (why_refused refused)

-- a number above 0 is that of a callee's refusal
abbrev pub ReadsRefusalsAlone : Outgoing → ℕ → Type 0
ReadsRefusalsAlone reply status =
    (word n : ℕ) → call_reply reply status ≡ Err (why.Refused word n) → 0 < word
    → (refused : ArriveRefused) × RefusesCall reply refused × (why_refused refused ≡ why.Refused word n)
