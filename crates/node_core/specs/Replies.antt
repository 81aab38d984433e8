-- The bytes that an answer is written as.
use Rattle.std.specs.Prelude.{ℕ, List, [], Option, Some, None}
use Rattle.lang_core.specs.declared.ids.Origin.{Origin}
use Rattle.lang_core.specs.declared.ids.Origin.TheVariants.{Outside, Call}
use Rattle.repair_messages.specs.declared.messages.AnswerMessage.{AnswerMessage}
use Rattle.journal_rows.specs.declared.callee.AnsweredRow.{AnsweredRow}
use Rattle.journal_rows.specs.declared.row.Row.{Row}
use Rattle.journal_rows.specs.declared.row.Row.TheVariants as rows
use Rattle.http_front.specs.Writing.{response_bytes}
use Rattle.wire_replies.specs.Writing.{written}
use Rattle.wire_replies.specs.declared.replies.Outgoing.{Outgoing}
use Rattle.wire_replies.specs.declared.replies.Outgoing.TheVariants as replies

-- as the caller of a call keeps it; nobody else does
abbrev pub answer_to : List ℕ → AnsweredRow → Origin → Option AnswerMessage
answer_to me a Outside = None
answer_to me a (Call caller number) = Some (record {
  caller = caller;
  callee = me;
  id = a.id;
  number = number;
  answer_version = a.answer_version;
  version = a.version;
  response = a.response;
  who = me;
})

-- the service to which it goes, where it goes to one
abbrev pub receiver : Origin → Option (List ℕ)
receiver Outside = None
receiver (Call caller number) = Some caller

-- what the service of this name says of it
abbrev pub reply_of : List ℕ → AnsweredRow → Outgoing
reply_of me a = replies.Answered (record { service = me; number = a.id }) (answer_to me a a.origin) a.response

-- its bytes; to a service they are sealed with this secret
abbrev pub reply_bytes : List ℕ → List ℕ → AnsweredRow → List ℕ
reply_bytes me secret a = response_bytes (written me (receiver a.origin) (reply_of me a) secret)

-- those of a row that is an answer
abbrev pub row_bytes : List ℕ → List ℕ → Row → List ℕ
row_bytes me secret (rows.Answered a) = reply_bytes me secret a
row_bytes me secret row = []
