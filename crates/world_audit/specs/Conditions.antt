-- Whether a row has its partner, as conditions that are tested.
use Rattle.std.specs.Prelude.{ℕ, Bool, true, false, ◌&&◌, List, Option, Some, None, nat_eq}
use Rattle.std.specs.List.{list_any}
use Rattle.lang_base.specs.Equal.{equal}
use Rattle.lang_base.specs.Texts.{same_text}
use Rattle.lang_core.specs.Origins.{is_call}
use Rattle.lang_core.specs.contracts.request.Response as response
use Rattle.lang_core.specs.declared.request.Response.{Response}
use Rattle.journal_rows.specs.Words.{last_sent}
use Rattle.journal_rows.specs.contracts.caller.SentRow as sent_row
use Rattle.journal_rows.specs.declared.caller.AckHow.{AckHow}
use Rattle.journal_rows.specs.declared.caller.AckHow.TheVariants.{WithAnswer, ToPost}
use Rattle.journal_rows.specs.declared.caller.SentRow.{SentRow}
use Rattle.journal_rows.specs.declared.callee.AnsweredRow.{AnsweredRow}
use Rattle.journal_rows.specs.declared.row.Row.{Row}
use Rattle.journal_rows.specs.declared.row.Row.TheVariants.{Took, Acked, Answered, WasConfirmed, Sent, SawAck, Noted, SawAnswer, Confirmed}
use Rattle.service_events.specs.State.{Kept, me}
use Rattle.world_agreement.specs.Partners.{service_of}

-- ---- a row of the other service

abbrev pub sends : SentRow → Row → Bool
sends wanted (Sent s) = equal sent_row.the_row.coded s wanted
sends wanted row = false

abbrev pub acknowledges : List ℕ → ℕ → ℕ → Row → Bool
acknowledges caller number version (Acked a) = same_text a.caller caller && (nat_eq a.number number && nat_eq a.version version)
acknowledges caller number version row = false

-- an answer of these versions to this call
abbrev pub is_answer : List ℕ → ℕ → ℕ → ℕ → AnsweredRow → Bool
is_answer caller number answer_version version a = is_call caller number a.origin && (nat_eq a.answer_version answer_version && nat_eq a.version version)

abbrev pub answers : List ℕ → ℕ → ℕ → ℕ → Row → Bool
answers caller number answer_version version (Answered a) = is_answer caller number answer_version version a
answers caller number answer_version version row = false

-- the same with this response
abbrev pub gives : List ℕ → ℕ → ℕ → ℕ → Response → Row → Bool
gives caller number answer_version version r (Answered a) =
    is_answer caller number answer_version version a && equal response.the_row.coded a.response r
gives caller number answer_version version r row = false

-- an answer of this version to this call, whatever it says
abbrev pub gives_any : List ℕ → ℕ → ℕ → Row → Bool
gives_any caller number answer_version (Answered a) = is_call caller number a.origin && nat_eq a.answer_version answer_version
gives_any caller number answer_version row = false

abbrev pub confirms : ℕ → ℕ → Row → Bool
confirms number answer_version (Confirmed c) = nat_eq c.number number && nat_eq c.answer_version answer_version
confirms number answer_version row = false

abbrev pub acknowledges_so : List ℕ → ℕ → ℕ → AckHow → Row → Bool
acknowledges_so caller number version (WithAnswer answer_version) row = answers caller number answer_version version row
acknowledges_so caller number version ToPost row = acknowledges caller number version row

-- ---- in the other service's journal

abbrev pub has_row : Option Kept → (Row → Bool) → Bool
has_row None test = false
has_row (Some s) test = list_any test s.journal

abbrev pub named_has : List Kept → List ℕ → (Row → Bool) → Bool
named_has services name test = has_row (service_of name services) test

-- the service to which a call was sent
abbrev pub callee_of : List Kept → Option SentRow → Option Kept
callee_of services None = None
callee_of services (Some sent) = service_of sent.dest services

abbrev pub dest_has : List Kept → Kept → ℕ → (Row → Bool) → Bool
dest_has services s number test = has_row (callee_of services (last_sent number s.journal)) test

-- whether a row of this service has its partner
abbrev pub is_partnered : List Kept → Kept → Row → Bool
is_partnered services s (Took t) =
    named_has services t.caller (sends (record { number = t.number; dest = me s; version = t.version; desired = t.desired }))
is_partnered services s (SawAck a) = dest_has services s a.number (acknowledges_so (me s) a.number a.version a.how)
is_partnered services s (Noted n) = dest_has services s n.number (gives_any (me s) n.number n.answer_version)
is_partnered services s (SawAnswer a) = dest_has services s a.number (gives (me s) a.number a.answer_version a.version a.response)
is_partnered services s (WasConfirmed c) = named_has services c.caller (confirms c.number c.answer_version)
is_partnered services s row = true
