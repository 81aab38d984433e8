-- Whom repairs concerned: the requests from outside whose last answer is another one than their clients got, as a text.
use Rattle.std.specs.Prelude.{ℕ, ◌++◌, Bool, true, false, ◌&&◌, List, [], Option, Some, None, if◌then◌else◌, codes, fold, nat_eq}
use Rattle.std.specs.List.{flat_map}
use Rattle.lang_base.specs.Texts.{same_text}
use Rattle.lang_core.specs.declared.ids.Origin.{Origin}
use Rattle.lang_core.specs.declared.ids.Origin.TheVariants.{Outside, Call}
use Rattle.lang_core.specs.declared.request.Request.{Request}
use Rattle.lang_core.specs.declared.request.Response.{Response}
use Rattle.request_names.specs.Ids.{id_text}
use Rattle.request_log.specs.declared.entry.Entry.{Entry}
use Rattle.journal_rows.specs.declared.callee.AnsweredRow.{AnsweredRow}
use Rattle.journal_rows.specs.declared.callee.AskedRow.{AskedRow}
use Rattle.journal_rows.specs.declared.row.Row.{Row}
use Rattle.journal_rows.specs.declared.row.Row.TheVariants.{Asked, Answered}
use Rattle.service_events.specs.State.{Kept, me}
use Rattle.report_text.specs.Reports.{asked_text, origin_text, response_text}
use Rattle.service_reports.specs.Lines.{or_line}
use Rattle.service_reports.specs.declared.changed.Which.{Which}
use Rattle.service_reports.specs.declared.changed.Which.TheVariants.{Told, Last}

-- ---- what a journal says of the request from outside of a number

abbrev pub is_outside : Origin → Bool
is_outside Outside = true
is_outside (Call caller number) = false

-- what is of this number and this origin is of the request from outside that has the sought number
abbrev pub is_of : ℕ → ℕ → Origin → Bool
is_of id number origin = nat_eq number id && is_outside origin

abbrev pub asked_outside_step : ℕ → Option AskedRow → Row → Option AskedRow
asked_outside_step id last (Asked a) = if is_of id a.id a.origin then Some a else last
asked_outside_step id last row = last

-- how it was asked
abbrev pub asked_outside : ℕ → List Row → Option AskedRow
asked_outside id journal = fold (asked_outside_step id) None journal

-- that which its client got was given to a live request
abbrev pub is_which : Which → AnsweredRow → Bool
is_which Told a = a.live
is_which Last a = true

abbrev pub is_answer : Which → ℕ → AnsweredRow → Bool
is_answer which id a = is_of id a.id a.origin && is_which which a

abbrev pub answer_outside_step : Which → ℕ → Option AnsweredRow → Row → Option AnsweredRow
answer_outside_step which id last (Answered a) = if is_answer which id a then Some a else last
answer_outside_step which id last row = last

-- the answer that its client got, or its last one
abbrev pub answer_outside : Which → ℕ → List Row → Option AnsweredRow
answer_outside which id journal = fold (answer_outside_step which id) None journal

-- ---- a line for each whose answer changed

-- they have one status and one body
abbrev pub same_response : Response → Response → Bool
same_response a b = nat_eq a.status b.status && same_text a.body b.body

-- ` told STATUS BODY now STATUS BODY`
abbrev pub answers_text : Response → Response → List ℕ
answers_text told last = codes " told " ++ (response_text told ++ (codes " now " ++ response_text last))

-- `S/N out:WHO METHOD PATH told STATUS BODY now STATUS BODY`, with who asked, and for what, as it was asked first
abbrev pub line_text : List ℕ → ℕ → Request → Response → Response → List ℕ
line_text me id request told last =
    id_text me id ++ (codes " " ++ (origin_text Outside request.who ++ (codes " " ++ (asked_text request ++ (answers_text told last ++ codes "\n")))))

abbrev pub asked_line : List ℕ → ℕ → Option AskedRow → Response → Response → List ℕ
asked_line me id None told last = []
asked_line me id (Some a) told last = line_text me id a.request told last

-- one that told nobody anything, as one that an order created, has no line
abbrev pub answers_line : List ℕ → ℕ → Option AskedRow → Option AnsweredRow → Option AnsweredRow → List ℕ
answers_line me id made None last = []
answers_line me id made (Some told) None = []
answers_line me id made (Some told) (Some last) =
    if same_response told.response last.response then [] else asked_line me id made told.response last.response

abbrev pub number_line : List ℕ → List Row → ℕ → List ℕ
number_line me journal id = answers_line me id (asked_outside id journal) (answer_outside Told id journal) (answer_outside Last id journal)

abbrev pub changed_line : List ℕ → List Row → Entry → List ℕ
changed_line me journal e = number_line me journal e.id

-- in logged order, the folded ones first
abbrev pub changed_of_service : Kept → List ℕ
changed_of_service s = or_line (codes "none\n") (flat_map (changed_line (me s) s.journal) s.entries)
