-- Rows, logs and verdicts as texts.
use Rattle.std.specs.Prelude.{ℕ, ◌<◌, ◌++◌, Bool, true, false, List, [], ◌∷◌, Option, Some, None, if◌then◌else◌, nat_eq, codes, decimal, slice_index_or}
use Rattle.std.specs.List.{flat_map}
use Rattle.lang_tree.specs.Methods.{method_word}
use Rattle.lang_core.specs.declared.cells.Cell.{Cell}
use Rattle.lang_core.specs.declared.ids.Origin.{Origin}
use Rattle.lang_core.specs.declared.ids.Origin.TheVariants.{Outside, Call}
use Rattle.lang_core.specs.declared.request.Request.{Request}
use Rattle.lang_core.specs.declared.request.Response.{Response}
use Rattle.request_names.specs.Ids.{id_text}
use Rattle.request_log.specs.Entries.{is_alive}
use Rattle.request_log.specs.declared.entry.Entry.{Entry}
use Rattle.request_log.specs.declared.entry.Made.{Made}
use Rattle.journal_rows.specs.declared.verdict.Outstanding.{Outstanding}
use Rattle.journal_rows.specs.declared.verdict.Outstanding.TheVariants.{Flight, Stale, Call as Register, Fetch, Answer}
use Rattle.journal_rows.specs.declared.verdict.Verdict.{Verdict}
use Rattle.journal_rows.specs.declared.verdict.Verdict.TheVariants.{Legal, Forged, Unsettled}

-- a byte of a body: a backslash, a line feed and a carriage return have escapes
abbrev pub body_byte : ℕ → List ℕ
body_byte b =
    if nat_eq b 92 then codes "\\\\" else (if nat_eq b 10 then codes "\\n" else (if nat_eq b 13 then codes "\\r" else b ∷ []))

-- a byte of a key: a space has an escape too
abbrev pub key_byte : ℕ → List ℕ
key_byte b = if nat_eq b 32 then codes "\\s" else body_byte b

abbrev pub escaped_body : List ℕ → List ℕ
escaped_body text = flat_map body_byte text

abbrev pub escaped_key : List ℕ → List ℕ
escaped_key text = flat_map key_byte text

-- a body at the end of a line, behind a space; an empty one leaves out its space
abbrev pub body_behind : List ℕ → List ℕ
body_behind [] = []
body_behind (b ∷ bs) = codes " " ++ escaped_body (b ∷ bs)

-- `TABLE KEY TEXT`
abbrev pub cell_line : Cell → List ℕ
cell_line c = c.table ++ (codes " " ++ (escaped_key c.key ++ (body_behind c.text ++ codes "\n")))

-- the lines, or `none` where there are none
abbrev pub or_none : List ℕ → List ℕ
or_none [] = codes "none\n"
or_none (b ∷ bs) = b ∷ bs

-- a line for each cell
abbrev pub rows_text : List Cell → List ℕ
rows_text cells = or_none (flat_map cell_line cells)

-- `out:WHO` or `call:S/N`
abbrev pub origin_text : Origin → List ℕ → List ℕ
origin_text Outside who = codes "out:" ++ who
origin_text (Call caller number) who = codes "call:" ++ id_text caller number

abbrev pub alive_text : Bool → List ℕ
alive_text true = codes "alive"
alive_text false = codes "dead"

-- `STATUS BODY`
abbrev pub response_text : Response → List ℕ
response_text r = decimal r.status ++ body_behind r.body

-- the response of an entry's record, if it has one
abbrev pub made_text : Option Made → List ℕ
made_text None = codes "none"
made_text (Some m) = response_text m.trace.response

-- `METHOD PATH`
abbrev pub asked_text : Request → List ℕ
asked_text r = method_word r.method ++ (codes " " ++ r.path)

-- ` vV STATE rR `
abbrev pub state_text : ℕ → List ℕ → ℕ → List ℕ
state_text version state runs =
    codes " v" ++ (decimal version ++ (codes " " ++ (state ++ (codes " r" ++ (decimal runs ++ codes " ")))))

-- `S/N vV STATE rR ORIGIN METHOD PATH = STATUS BODY`
abbrev pub line_with : List ℕ → List ℕ → Entry → List ℕ
line_with state me e =
    id_text me e.id ++ (state_text e.version state e.runs ++ (origin_text e.origin e.request.who ++ (codes " " ++ (asked_text e.request
    ++ (codes " = " ++ (made_text e.made ++ codes "\n"))))))

-- of one that isn't folded, its state is `alive` or `dead`
abbrev pub entry_line : List ℕ → Entry → List ℕ
entry_line me e = line_with (alive_text (is_alive e)) me e

-- and `folded` of one that is
abbrev pub folded_line : List ℕ → Entry → List ℕ
folded_line me e = line_with (codes "folded") me e

-- a line for each entry, the folded ones first
abbrev pub log_text : List ℕ → List Entry → List Entry → List ℕ
log_text me folded entries = or_none (flat_map (folded_line me) folded ++ flat_map (entry_line me) entries)

abbrev pub outstanding_text : List ℕ → Outstanding → List ℕ
outstanding_text service (Flight n) = codes "flight " ++ id_text service n
outstanding_text service (Stale n) = codes "stale " ++ id_text service n
outstanding_text service (Register n) = codes "call " ++ id_text service n
outstanding_text service (Fetch n) = codes "fetch " ++ id_text service n
outstanding_text service (Answer n) = codes "answer " ++ id_text service n

-- the name at a position
abbrev pub name_at : List (List ℕ) → ℕ → List ℕ
name_at names at = slice_index_or names at []

-- `legal`, `forged S/I` or `unsettled KIND S/N`
abbrev pub verdict_text : List (List ℕ) → Verdict → List ℕ
verdict_text names Legal = codes "legal\n"
verdict_text names (Forged at index) = codes "forged " ++ (id_text (name_at names at) index ++ codes "\n")
verdict_text names (Unsettled at what) = codes "unsettled " ++ (outstanding_text (name_at names at) what ++ codes "\n")

-- a verdict over so many services: the position of which it speaks, if it does, is that of one of them
abbrev pub IsVerdictOver : ℕ → Verdict → Type 0
IsVerdictOver n Legal = Unit {0}
IsVerdictOver n (Forged at index) = at < n
IsVerdictOver n (Unsettled at what) = at < n
