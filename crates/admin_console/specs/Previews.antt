-- What an order would come to, as it is replied.
use Rattle.std.specs.Prelude.{ℕ, ◌≡◌, List, Option, Result, Ok, Err, codes, option_and_then, option_map}
use Rattle.std.specs.Option.{option_zip}
use Rattle.lang_tree.specs.declared.program.Route.{Route}
use Rattle.order_texts.specs.Texts.{program_given}
use Rattle.service_events.specs.State.{Kept}
use Rattle.service_reports.specs.HandedOn.{Trial}
use Rattle.service_reports.specs.HandedOn as trial
use Rattle.service_reports.specs.Previews.{IsShownOf, IsShownUntilIdle}
use Rattle.service_reports.specs.declared.previews.Unshown.{Unshown}
use Rattle.service_reports.specs.declared.previews.Unshown.TheVariants.{NotIdle, Order, Untimely}
use Rattle.http_front.specs.declared.message.WireResponse.{WireResponse}
use Rattle.serde_json.specs.Data.{Data}
use Rattle.wire_fields.specs.declared.console.ConsoleRequest.{ConsoleRequest}
use Rattle.wire_fields.specs.declared.console.ConsoleWord.{ConsoleWord}
use Rattle.wire_fields.specs.declared.console.ConsoleWord.TheVariants as word
use Rattle.wire_words.specs.Refusals.{order_told}
use Rattle.admin_console.specs.Fields.{number_at, object_in, short_text_at}
use Rattle.admin_console.specs.Replies.{own_numbered, own_refusal, refused_reply, report_reply}

-- ---- what is tried

-- an order that is tried, or the byte at which its text is no program
abbrev pub Tried : Type 0
Tried = Result Trial ℕ

abbrev pub cancellation : ℕ → Tried
cancellation id = Ok (trial.Cancel id)

-- the cancellation of the request of this number
abbrev pub cancellation_at : Data → Option Tried
cancellation_at json = option_map cancellation (number_at (codes "id") json)

abbrev pub correction_by : ℕ → Result (List Route) ℕ → Tried
correction_by number (Ok program) = Ok (trial.Correct number program)
correction_by number (Err at) = Err at

abbrev pub correction_of : ℕ × List ℕ → Tried
correction_of by = correction_by by.0 (program_given by.1)

-- the correction of the program of this number by another
abbrev pub rehearsal_at : Data → Option Tried
rehearsal_at json = option_map correction_of (option_zip (number_at (codes "number") json) (short_text_at (codes "program") json))

-- a rehearsal is of a correction, and a preview of a cancellation
abbrev pub tried_at : ConsoleWord → Data → Option Tried
tried_at word.Rehearse json = rehearsal_at json
tried_at word json = cancellation_at json

-- none where the body is ill
abbrev pub tried_in : ConsoleRequest → Option Tried
tried_in request = option_and_then (tried_at request.word) (object_in request.body)

-- ---- what is replied

-- what is shown is a report; why nothing is shown is told with its number, and the refusal of the order as that of an order
abbrev pub shown_reply : Result (List ℕ) Unshown → WireResponse
shown_reply (Ok lines) = report_reply lines
shown_reply (Err NotIdle) = own_refusal 409 (codes "notidle") (codes "notidle") 0
shown_reply (Err (Untimely number)) = own_numbered 409 (codes "untimely") number
shown_reply (Err (Order why)) = refused_reply (order_told why)

-- it tells what is shown of this order by this user, of a service as it is, and of steps until one is idle, at most as many as
-- there are entries
abbrev pub TellsShown : Trial → List ℕ → Kept → WireResponse → Type 0
TellsShown order who s response =
    (shown : Result (List ℕ) Unshown) × (IsShownUntilIdle order who s shown × IsShownOf order who s shown) × (response ≡ shown_reply shown)
