-- What a line of a dump says.
use Rattle.std.specs.Prelude.{ℕ, Bool, false, not, List, Option, Some, None, Result, Ok, Err, if◌then◌else◌, codes, min}
use Rattle.std.specs.Str.{is_utf8}
use Rattle.std.proofs.Math.Nat.{min-le_right}
use Rattle.lang_base.specs.Texts.{same_text}
use Rattle.lang_tree.specs.Methods.{method_named}
use Rattle.lang_tree.specs.declared.method.Method.{Method}
use Rattle.lang_tree.specs.declared.program.Route.{Route}
use Rattle.lang_core.specs.declared.ids.Origin.{Origin}
use Rattle.lang_core.specs.declared.inputs.Inputs.{Inputs}
use Rattle.lang_core.specs.declared.request.Request.{Request}
use Rattle.lang_core.specs.declared.request.Response.{Response}
use Rattle.request_names.specs.Numbers.{number_of}
use Rattle.handler_lang.specs.Reading.{read_of}
use Rattle.handler_lang.specs.declared.refused.ProgramRefused.{ProgramRefused}
use Rattle.dump_words.specs.Parts.{alone, at_end, body_behind, cut_at, flag_part, from_one, in_u16, key_part, moment_of, name_part, names_part, origin_part, path_part, table_part, text_behind, who_part, with_part, with_word}
use Rattle.dump_words.specs.declared.line.Line.{Line}
use Rattle.dump_words.specs.declared.line.Line.TheVariants.{Service, Peers, Program, Entry, Under, Call, Answer, Reply, Row, End}
use Rattle.dump_words.specs.declared.line.LineFault.{LineFault}
use Rattle.dump_words.specs.declared.line.LineFault.TheVariants as fault

-- ---- parts of several words, with what stands behind them

-- a number and what stands behind it
abbrev pub cut_number : Option (List ℕ) → Option (ℕ × Option (List ℕ))
cut_number rest = with_word rest (λ word rest. with_part (number_of word) (λ n. Some (n, rest)))

-- two numbers
unfoldable pub cut_two : Option (List ℕ) → Option (ℕ × ℕ × Option (List ℕ))
cut_two rest = with_part (cut_number rest) (λ a. with_part (cut_number a.1) (λ b. Some (a.0, b.0, b.1)))

-- four numbers
unfoldable pub cut_four : Option (List ℕ) → Option (ℕ × ℕ × ℕ × ℕ × Option (List ℕ))
cut_four rest = with_part (cut_two rest) (λ a. with_part (cut_two a.2) (λ b. Some (a.0, a.1, b.0, b.1, b.2)))

-- this moment and these words; no clock tells a later moment than the last
abbrev pub inputs_of : ℕ → ℕ → ℕ → ℕ → ℕ → ℕ → ℕ → ℕ → ℕ → Inputs
inputs_of moment w1 w2 w3 w4 w5 w6 w7 w8 = record {
  moment = min moment 9223372036854775807;
  w1 = w1;
  w2 = w2;
  w3 = w3;
  w4 = w4;
  w5 = w5;
  w6 = w6;
  w7 = w7;
  w8 = w8;
  in_range = min-le_right moment 9223372036854775807;
}

-- `MOMENT W1 W2 W3 W4 W5 W6 W7 W8`
unfoldable pub cut_inputs : Option (List ℕ) → Option (Inputs × Option (List ℕ))
cut_inputs rest =
    with_word rest (λ word rest. with_part (moment_of (number_of word)) (λ moment.
    with_part (cut_four rest) (λ a. with_part (cut_four a.4) (λ b.
    Some (inputs_of moment a.0 a.1 a.2 a.3 b.0 b.1 b.2 b.3, b.4)))))

-- `ID ORIGIN V WANTED STRUCK`
unfoldable pub cut_standing : Option (List ℕ) → Option (ℕ × List ℕ × ℕ × Bool × Bool × Option (List ℕ))
cut_standing rest =
    with_word rest (λ word rest. with_part (from_one (number_of word)) (λ id.
    with_word rest (λ origin rest. with_part (cut_number rest) (λ version.
    with_word version.1 (λ word rest. with_part (flag_part word) (λ wanted.
    with_word rest (λ word rest. with_part (flag_part word) (λ struck.
    Some (id, origin, version.0, wanted, struck, rest)))))))))

-- `METHOD PATH`
abbrev pub cut_asked : Option (List ℕ) → Option (Method × List ℕ × Option (List ℕ))
cut_asked rest = with_word rest (λ word rest. with_part (method_named word) (λ method.
    with_word rest (λ path rest. Some (method, path, rest))))

-- `METHOD PATH WHO CHAIN`
unfoldable pub cut_request : Option (List ℕ) → Option (Method × List ℕ × List ℕ × List ℕ × Option (List ℕ))
cut_request rest = with_part (cut_asked rest) (λ asked. with_word asked.2 (λ who rest.
    with_word rest (λ chain rest. Some (asked.0, asked.1, who, chain, rest))))

-- `NUMBER DEST METHOD PATH`
unfoldable pub cut_call : Option (List ℕ) → Option (ℕ × List ℕ × Method × List ℕ × Option (List ℕ))
cut_call rest = with_word rest (λ word rest. with_part (from_one (number_of word)) (λ number.
    with_word rest (λ dest rest. with_part (cut_asked rest) (λ asked.
    Some (number, dest, asked.0, asked.1, asked.2)))))

-- ---- lines, behind their first word

-- `NAME` alone
abbrev pub service_at : Option (List ℕ) → Option Line
service_at rest = with_part (alone rest) (λ word. with_part (name_part word) (λ name. Some (Service name)))

-- `A,B` or `-` alone
abbrev pub peers_at : Option (List ℕ) → Option Line
peers_at rest = with_part (alone rest) (λ word. with_part (names_part word) (λ names. Some (Peers names)))

-- the request of these parts
abbrev pub request_of : Method → Option (List ℕ) → Option (List ℕ) → Option (List (List ℕ)) → Option (List ℕ) → Option Request
request_of method path who chain body =
    with_part path (λ path. with_part who (λ who. with_part chain (λ chain. with_part body (λ body.
    Some (record { method = method; path = path; body = body; who = who; chain = chain })))))

abbrev pub request_at : Option (List ℕ) → Option Request
request_at rest = with_part (cut_request rest) (λ q.
    request_of q.0 (path_part q.1) (who_part q.2) (names_part q.3) (body_behind q.4))

-- the entry of these parts
abbrev pub entry_of : ℕ → ℕ → Bool → Bool → Inputs → Option Origin → Option Request → Option Line
entry_of id version wanted struck inputs origin request =
    with_part origin (λ origin. with_part request (λ request.
    Some (Entry (record { id = id; origin = origin; version = version; wanted = wanted; struck = struck; inputs = inputs; request = request }))))

-- `ID ORIGIN V WANTED STRUCK MOMENT W1 W2 W3 W4 W5 W6 W7 W8 METHOD PATH WHO CHAIN BODY`
unfoldable pub entry_at : Option (List ℕ) → Option Line
entry_at rest = with_part (cut_standing rest) (λ s. with_part (cut_inputs s.5) (λ i.
    entry_of s.0 s.2 s.3 s.4 i.0 (origin_part s.1) (request_at i.1)))

-- `K` alone
abbrev pub under_at : Option (List ℕ) → Option Line
under_at rest = with_part (alone rest) (λ word. with_part (number_of word) (λ number. Some (Under number)))

-- the call of these parts
abbrev pub call_of : ℕ → Method → Option (List ℕ) → Option (List ℕ) → Option (List ℕ) → Option Line
call_of number method dest path body =
    with_part dest (λ dest. with_part path (λ path. with_part body (λ body.
    Some (Call (record { number = number; dest = dest; method = method; path = path; body = body })))))

-- `NUMBER DEST METHOD PATH BODY`
unfoldable pub call_at : Option (List ℕ) → Option Line
call_at rest = with_part (cut_call rest) (λ c. call_of c.0 c.2 (name_part c.1) (path_part c.3) (body_behind c.4))

-- `STATUS BODY`
abbrev pub response_at : Option (List ℕ) → Option Response
response_at rest = with_word rest (λ word rest. with_part (in_u16 (number_of word)) (λ status.
    with_part (body_behind rest) (λ body. Some (record { status = status; body = body }))))

abbrev pub answer_at : Option (List ℕ) → Option Line
answer_at rest = with_part (response_at rest) (λ r. Some (Answer r))

-- `none` alone
abbrev pub is_none : Option (List ℕ) → Bool
is_none None = false
is_none (Some rest) = same_text rest (codes "none")

-- `STATUS BODY`, or `none`
abbrev pub reply_at : Option (List ℕ) → Option Line
reply_at rest = if is_none rest then Some (Reply None) else with_part (response_at rest) (λ r. Some (Reply (Some r)))

-- the row of these parts
abbrev pub row_of : Option (List ℕ) → Option (List ℕ) → Option (List ℕ) → Option Line
row_of table key text =
    with_part table (λ table. with_part key (λ key. with_part text (λ text.
    Some (Row (record { table = table; key = key; text = text })))))

-- `TABLE KEY TEXT`
unfoldable pub row_at : Option (List ℕ) → Option Line
row_at rest = with_word rest (λ table rest. with_word rest (λ key rest. row_of (table_part table) (key_part key) (body_behind rest)))

-- ---- a whole line

-- what a line says, or why it says nothing
abbrev pub Read : Type 0
Read = Result Line LineFault

-- a line of which a part is missing, or isn't of its form, has no shape
abbrev pub shaped : Option Line → Read
shaped None = Err fault.Shape
shaped (Some line) = Ok line

abbrev pub programmed : Result (List Route) ProgramRefused → Read
programmed (Err why) = Err (fault.Program why)
programmed (Ok routes) = Ok (Program routes)

-- `TEXT`, the text of a program
abbrev pub program_of : Option (List ℕ) → Read
program_of None = Err fault.Shape
program_of (Some text) = programmed (read_of text)

abbrev pub program_at : Option (List ℕ) → Read
program_at rest = program_of (text_behind rest)

-- what stands behind the first word
unfoldable pub words_at : List ℕ → Option (List ℕ) → Read
words_at word rest =
    if same_text word (codes "service") then shaped (service_at rest)
    else (if same_text word (codes "peers") then shaped (peers_at rest)
    else (if same_text word (codes "program") then program_at rest
    else (if same_text word (codes "entry") then shaped (entry_at rest)
    else (if same_text word (codes "under") then shaped (under_at rest)
    else (if same_text word (codes "call") then shaped (call_at rest)
    else (if same_text word (codes "answer") then shaped (answer_at rest)
    else (if same_text word (codes "reply") then shaped (reply_at rest)
    else (if same_text word (codes "row") then shaped (row_at rest)
    else (if same_text word (codes "end") then shaped (at_end rest (Some End))
    else Err fault.Shape)))))))))

-- what a line says; its text is tested first
unfoldable pub line_at : List ℕ → Read
line_at bytes = if not (is_utf8 bytes) then Err fault.Text else words_at (cut_at 32 bytes).0 (cut_at 32 bytes).1
