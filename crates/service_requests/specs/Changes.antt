-- What a draft changes of a service when it is put in place, and the room for it.
use Rattle.std.specs.Prelude.{◌≡◌, ◌≤◌, true, List, Option, Some, None, Result, Ok, Err}
use Rattle.lang_lists.specs.Room.{is_made}
use Rattle.request_log.specs.declared.entry.Entry.{Entry}
use Rattle.call_registers.specs.Replies.{add_call, call_code}
use Rattle.call_registers.specs.declared.replies.RepliesCall.{RepliesCall}
use Rattle.call_registers.specs.declared.reply.Reply.{Reply}
use Rattle.service_events.specs.State.{Kept, After, after}
use Rattle.service_events.specs.Arriving.{accepted}
use Rattle.service_events.specs.declared.answers.Arrived.{Arrived}
use Rattle.service_parts.specs.Drafts.{with_draft}
use Rattle.service_requests.specs.Endings.{ends, CanEnd}
use Rattle.service_requests.specs.declared.outcome.DraftedEnd.{DraftedEnd}

-- ---- an outcome

abbrev pub leaves : Kept → DraftedEnd → After Arrived
leaves s o = ends (with_draft o.draft s) o.ending

abbrev pub CanLeave : Kept → DraftedEnd → Type 0
CanLeave s o = CanEnd s o.ending

-- a refusal of the event, or an outcome which is what the event leaves and which can be put in place
abbrev pub Drafts : {E : Type 0} → After (Result Arrived E) → Kept → Result DraftedEnd E → Type 0
Drafts event s (Ok outcome) = (accepted (leaves s outcome) ≡ event) × CanLeave s outcome
Drafts event s (Err why) = after s (Err why) ≡ event

-- ---- step by step

-- room was made for the reply, if there is one
abbrev pub IsReadyFor : Option Reply → List RepliesCall → Type 0
IsReadyFor None room = Unit {0}
IsReadyFor (Some p) room = is_made call_code (add_call p.id) room ≡ true

abbrev pub with_entries : List Entry → Kept → Kept
with_entries entries s = record s { entries = entries }
