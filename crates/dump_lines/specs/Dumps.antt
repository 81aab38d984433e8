-- Services written down line by line, with all that a legal execution is made of: whoever reads it needs nothing else to judge them.
use Rattle.std.specs.Prelude.{ℕ, ◌++◌, Bool, true, false, List, [], ◌∷◌, Option, Some, None, codes, decimal, nat_eq, if◌then◌else◌}
use Rattle.std.specs.List.{flat_map, zip}
use Rattle.lang_core.specs.HandedOn.{Route}
use Rattle.lang_core.specs.declared.cells.Cell.{Cell}
use Rattle.lang_core.specs.declared.ids.Origin.{Origin}
use Rattle.lang_core.specs.declared.ids.Origin.TheVariants.{Outside, Call}
use Rattle.lang_core.specs.declared.inputs.Inputs.{Inputs}
use Rattle.lang_core.specs.declared.request.Request.{Request}
use Rattle.lang_core.specs.declared.request.Response.{Response}
use Rattle.lang_core.specs.declared.trace.CallMade.{CallMade}
use Rattle.lang_grammar.specs.Printing.{text_of}
use Rattle.request_names.specs.Ids.{id_text}
use Rattle.request_log.specs.Records.{Record, record_of, recorded_calls}
use Rattle.request_log.specs.declared.entry.Entry.{Entry}
use Rattle.local_repair.specs.Current.{Consumed, rows_after}
use Rattle.journal_rows.specs.Programs.{programs}
use Rattle.report_text.specs.Reports.{asked_text, body_behind, escaped_key, response_text}
use Rattle.service_events.specs.State.{Kept, answers, base, me, unfolded}

-- ---- words

-- names with commas between them, or `-` where there is none
abbrev pub names_text : List (List ℕ) → List ℕ
names_text [] = codes "-"
names_text (name ∷ names) = name ++ flat_map (λ n. codes "," ++ n) names

-- 1 for yes, 0 for no
abbrev pub digit_of : Bool → List ℕ
digit_of true = codes "1"
digit_of false = codes "0"

-- `out`, or the name of the call
abbrev pub origin_text : Origin → List ℕ
origin_text Outside = codes "out"
origin_text (Call caller number) = id_text caller number

-- ---- an entry

-- ` V WANTED STRUCK`
abbrev pub standing_text : Entry → List ℕ
standing_text e =
    codes " " ++ (decimal e.version ++ (codes " " ++ (digit_of e.wanted ++ (codes " " ++ digit_of e.struck))))

-- a number behind a space
abbrev pub number_behind : ℕ → List ℕ
number_behind n = codes " " ++ decimal n

-- ` MOMENT W1 W2 W3 W4 W5 W6 W7 W8`
abbrev pub inputs_text : Inputs → List ℕ
inputs_text i =
    flat_map number_behind (i.moment ∷ i.w1 ∷ i.w2 ∷ i.w3 ∷ i.w4 ∷ i.w5 ∷ i.w6 ∷ i.w7 ∷ i.w8 ∷ [])

-- ` METHOD PATH WHO CHAIN BODY`
abbrev pub request_text : Request → List ℕ
request_text q =
    codes " " ++ (asked_text q ++ (codes " " ++ (q.who ++ (codes " " ++ (names_text q.chain ++ body_behind q.body)))))

-- `entry ID ORIGIN V WANTED STRUCK MOMENT W1 W2 W3 W4 W5 W6 W7 W8 METHOD PATH WHO CHAIN BODY`, of the request as it is now
abbrev pub entry_line : Entry → List ℕ
entry_line e =
    codes "entry " ++ (decimal e.id ++ (codes " " ++ (origin_text e.origin ++ (standing_text e ++ (inputs_text e.inputs
    ++ (request_text e.request ++ codes "\n"))))))

-- `under K`, where that isn't the first program
abbrev pub under_line : ℕ → List ℕ
under_line number = if nat_eq number 1 then [] else codes "under " ++ (decimal number ++ codes "\n")

-- `call NUMBER DEST METHOD PATH BODY`
abbrev pub call_line : ℕ → CallMade → List ℕ
call_line number c =
    codes "call " ++ (decimal number ++ (codes " " ++ (c.dest ++ (codes " " ++ (asked_text c.request
    ++ (body_behind c.request.body ++ codes "\n"))))))

-- `answer STATUS BODY`
abbrev pub answer_line : Response → List ℕ
answer_line r = codes "answer " ++ (response_text r ++ codes "\n")

-- a call with its number, and what it consumes now
abbrev pub call_lines : Consumed → (ℕ × CallMade) → List ℕ
call_lines consumed call = call_line call.0 call.1 ++ answer_line (consumed call.0)

-- `reply STATUS BODY`, or `reply none` of one that never ran
abbrev pub reply_line : Option Record → List ℕ
reply_line None = codes "reply none\n"
reply_line (Some r) = codes "reply " ++ (response_text r.response ++ codes "\n")

-- an entry, the number of its program as it is now, its calls in the order of their slots, and its reply
abbrev pub entry_lines : Consumed → Entry → List ℕ
entry_lines consumed e =
    entry_line e
    ++ (under_line e.under.now.number
    ++ (flat_map (call_lines consumed) (zip e.slots (recorded_calls (record_of e))) ++ reply_line (record_of e)))

-- ---- a service

-- `row TABLE KEY TEXT`
abbrev pub row_line : Cell → List ℕ
row_line c = codes "row " ++ (escaped_key c.table ++ (codes " " ++ (escaped_key c.key ++ (body_behind c.text ++ codes "\n"))))

-- `program TEXT`
abbrev pub program_line : List Route → List ℕ
program_line program = codes "program" ++ (body_behind (text_of program) ++ codes "\n")

-- its programs by their numbers, from 1 on: its setting's, and each that an order brought
abbrev pub program_lines : Kept → List ℕ
program_lines s = flat_map program_line (programs s.setting.program s.journal)

-- `service NAME`, `peers A,B`, and `program TEXT` for each program
abbrev pub head_lines : Kept → List ℕ
head_lines s = codes "service " ++ (me s ++ (codes "\npeers " ++ (names_text s.setting.peers ++ (codes "\n" ++ program_lines s))))

-- what it is set to do, its entries in logged order, the folded ones first and like the others, the rows after them, and `end`
abbrev pub service_lines : Kept → List ℕ
service_lines s =
    head_lines s ++ (flat_map (entry_lines (answers s)) s.entries
    ++ (flat_map row_line (rows_after (base s) (unfolded s)) ++ codes "end\n"))

-- the services, one after the other
abbrev pub dump_text : List Kept → List ℕ
dump_text services = flat_map service_lines services
