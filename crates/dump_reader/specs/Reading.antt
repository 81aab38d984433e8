-- Which dump a text is read as, or which refusal stands at which line.
use Rattle.std.specs.Prelude.{◌≡◌, ℕ, ◌+◌, Bool, true, false, ◌||◌, not, List, [], ◌∷◌, ◌++◌, length, Option, Some, None, Result, Ok, Err, ◌&&◌, nat_eq, nat_lt, ◌==◌, if◌then◌else◌, refl}
use Rattle.std.specs.List.{list_any, slice_split}
use Rattle.lang_base.specs.Memory.{Unless, lacks}
use Rattle.lang_base.specs.Texts.{same_text}
use Rattle.lang_core.specs.HandedOn.{Route}
use Rattle.lang_core.specs.Origins.{is_call}
use Rattle.lang_core.specs.Places.{by_order, place_order, same_place}
use Rattle.lang_core.specs.Rows.{cell_place}
use Rattle.lang_core.specs.declared.cells.Cell.{Cell}
use Rattle.lang_core.specs.declared.ids.Origin.{Origin}
use Rattle.lang_core.specs.declared.ids.Origin.TheVariants.{Outside, Call as FromCall}
use Rattle.lang_core.specs.declared.request.Response.{Response}
use Rattle.lang_core.specs.declared.trace.CallMade.{CallMade}
use Rattle.dump_tables.specs.Indexed.{has_number}
use Rattle.dump_tables.specs.Programs.{later_at, with_later}
use Rattle.dump_tables.specs.declared.dump.Dump.{Dump}
use Rattle.dump_tables.specs.declared.dump.DumpEntry.{DumpEntry}
use Rattle.dump_tables.specs.declared.dump.DumpService.{DumpService}
use Rattle.dump_words.specs.Lines.{Read, line_at}
use Rattle.dump_words.specs.declared.line.CallLine.{CallLine}
use Rattle.dump_words.specs.declared.line.EntryLine.{EntryLine}
use Rattle.dump_words.specs.declared.line.Line.{Line}
use Rattle.dump_words.specs.declared.line.Line.TheVariants.{Service, Peers, Program, Entry, Under, Call, Answer, Reply, Row, End}
use Rattle.dump_words.specs.declared.line.LineFault.{LineFault}
use Rattle.dump_words.specs.declared.line.LineFault.TheVariants as fault
use Rattle.dump_reader.specs.Alone.{not_among}
use Rattle.dump_reader.specs.declared.refused.DumpRefused.{DumpRefused}
use Rattle.dump_reader.specs.declared.refused.DumpRefused.TheVariants as refusal
use Rattle.dump_reader.specs.declared.stage.Head.{Head}
use Rattle.dump_reader.specs.declared.stage.Running.{Running}
use Rattle.dump_reader.specs.declared.stage.Stage.{Stage}
use Rattle.dump_reader.specs.declared.stage.Stage.TheVariants.{Between, Named, Headed, Within, Runs}

-- ---- lines

-- without a last piece that is empty
abbrev pub ended : List (List ℕ) → List (List ℕ)
ended [] = []
ended ([] ∷ []) = []
ended (line ∷ lines) = line ∷ ended lines

-- the lines of a text, cut at each line feed; what stands behind the last is a line where it isn't empty
abbrev pub lines_of : List ℕ → List (List ℕ)
lines_of text = ended (slice_split (λ b. b == 10) text)

-- ---- what stands twice

-- a service of this name stands among these
abbrev pub is_named : List ℕ → List DumpService → Bool
is_named name services = list_any (λ s. same_text s.setting.me name) services

-- an entry comes from this call; none does from a request from outside
abbrev pub comes_from : Origin → DumpEntry → Bool
comes_from Outside e = false
comes_from (FromCall caller number) e = is_call caller number e.origin

-- an entry with this one's number, or of this one's call, stands among these
abbrev pub is_entered : EntryLine → List DumpEntry → Bool
is_entered line entries = list_any (λ e. nat_eq e.id line.id || comes_from line.origin e) entries

-- a row at this one's table and key stands among these
abbrev pub is_kept : Cell → List Cell → Bool
is_kept c rows = list_any (λ r. same_place (cell_place r) (cell_place c)) rows

-- the row stands behind this one
abbrev pub is_behind_row : Option Cell → Cell → Bool
is_behind_row None c = true
is_behind_row (Some r) c = by_order (place_order (cell_place r) (cell_place c)) true false false

-- the last of these, if there is one
abbrev pub last_of : List Cell → Option Cell
last_of [] = None
last_of (r ∷ []) = Some r
last_of (r ∷ s ∷ rows) = last_of (s ∷ rows)

-- the row stands behind the last of these, if there is one
abbrev pub is_behind : List Cell → Cell → Bool
is_behind rows c = is_behind_row (last_of rows) c

-- ---- what a line adds, by where the lines before it leave off

-- where it goes on, or why it doesn't
abbrev pub Next : Type 0
Next = Result Stage DumpRefused

-- between services
abbrev pub begun : List DumpService → ℕ → Line → Next
begun services n (Service name) = if is_named name services then Err (refusal.Twice n) else Ok (Named name)
begun services n line = Err (refusal.Shape n)

-- a service, and its peers, none of which it is
abbrev pub head_of : (me : List ℕ) (peers : List (List ℕ)) → list_any (same_text me) peers ≡ false → Head
head_of me peers free = record { me = me; peers = peers; alone = not_among me peers free }

abbrev pub head_by : (me : List ℕ) (peers : List (List ℕ)) (n : ℕ) (b : Bool) → list_any (same_text me) peers ≡ b → Next
head_by me peers n true among = Err (refusal.Shape n)
head_by me peers n false free = Ok (Headed (head_of me peers free))

-- behind `service`: the peers, none of which is the service itself
abbrev pub headed : List ℕ → ℕ → Line → Next
headed me n (Peers peers) = head_by me peers n (list_any (same_text me) peers) refl
headed me n line = Err (refusal.Shape n)

-- a service with this program alone
abbrev pub service_of : Head → List Route → DumpService
service_of h program = record {
  setting = record { me = h.me; peers = h.peers; program = program; weight = 0; alone = h.alone };
  programs = record { first = program; later = [] };
  entries = [];
  rows = [];
}

-- behind `peers`
abbrev pub prepared : Head → ℕ → Line → Next
prepared h n (Program program) = Ok (Within (service_of h program))
prepared h n line = Err (refusal.Shape n)

-- neither an entry nor a row is told yet
abbrev pub is_empty : DumpService → Bool
is_empty s = nat_eq (length s.entries) 0 && nat_eq (length s.rows) 0

-- a program more stands before the entries
abbrev pub with_next_program : DumpService → ℕ → List Route → Next
with_next_program s n program =
    if is_empty s then Ok (Within (record { setting = s.setting; programs = with_later s.programs program; entries = s.entries; rows = s.rows }))
    else Err (refusal.Shape n)

-- an entry under its service's first program, of which no call is told yet
abbrev pub entry_of : List Route → EntryLine → DumpEntry
entry_of first line = record {
  id = line.id;
  origin = line.origin;
  version = line.version;
  wanted = line.wanted;
  struck = line.struck;
  inputs = line.inputs;
  request = line.request;
  under = 1;
  program = first;
  numbers = [];
  calls = [];
  answers = [];
  reply = None;
}

-- an entry stands before the rows
abbrev pub with_entry : DumpService → ℕ → EntryLine → Next
with_entry s n line =
    if not (nat_eq (length s.rows) 0) then Err (refusal.Shape n)
    else (if is_entered line s.entries then Err (refusal.Twice n)
    else Ok (Runs (record { setting = s.setting; programs = s.programs; entries = s.entries; entry = entry_of s.programs.first line })))

abbrev pub with_row : DumpService → ℕ → Cell → Next
with_row s n c =
    if is_behind s.rows c then Ok (Within (record { setting = s.setting; programs = s.programs; entries = s.entries; rows = s.rows ++ c ∷ [] }))
    else (if is_kept c s.rows then Err (refusal.Twice n) else Err (refusal.Rows n))

-- neither a program nor a call is told of it yet
abbrev pub is_bare : DumpEntry → Bool
is_bare e = nat_eq e.under 1 && nat_eq (length e.numbers) 0

-- under the program of this number
abbrev pub put_under : DumpEntry → ℕ → List Route → DumpEntry
put_under e number program = record {
  id = e.id;
  origin = e.origin;
  version = e.version;
  wanted = e.wanted;
  struck = e.struck;
  inputs = e.inputs;
  request = e.request;
  under = number;
  program = program;
  numbers = e.numbers;
  calls = e.calls;
  answers = e.answers;
  reply = e.reply;
}

-- each call has its answer
abbrev pub all_answered : DumpEntry → Bool
all_answered e = nat_eq (length e.numbers) (length e.answers)

-- a call of an entry of this service: for the service itself, and with the service behind the entry's chain
abbrev pub call_of : List ℕ → List (List ℕ) → CallLine → CallMade
call_of me chain c =
    record { dest = c.dest; request = record { method = c.method; path = c.path; body = c.body; who = me; chain = chain ++ me ∷ [] } }

-- with a call more, which has no answer yet
abbrev pub with_made : DumpEntry → ℕ → CallMade → DumpEntry
with_made e number call = record {
  id = e.id;
  origin = e.origin;
  version = e.version;
  wanted = e.wanted;
  struck = e.struck;
  inputs = e.inputs;
  request = e.request;
  under = e.under;
  program = e.program;
  numbers = e.numbers ++ number ∷ [];
  calls = e.calls ++ call ∷ [];
  answers = e.answers;
  reply = e.reply;
}

-- with what its last call consumed
abbrev pub consuming : DumpEntry → Response → DumpEntry
consuming e r = record {
  id = e.id;
  origin = e.origin;
  version = e.version;
  wanted = e.wanted;
  struck = e.struck;
  inputs = e.inputs;
  request = e.request;
  under = e.under;
  program = e.program;
  numbers = e.numbers;
  calls = e.calls;
  answers = e.answers ++ r ∷ [];
  reply = e.reply;
}

-- with what it answered
abbrev pub replying : DumpEntry → Option Response → DumpEntry
replying e reply = record {
  id = e.id;
  origin = e.origin;
  version = e.version;
  wanted = e.wanted;
  struck = e.struck;
  inputs = e.inputs;
  request = e.request;
  under = e.under;
  program = e.program;
  numbers = e.numbers;
  calls = e.calls;
  answers = e.answers;
  reply = reply;
}

-- the same service, of which another entry runs
abbrev pub running_as : Running → DumpEntry → Stage
running_as r e = Runs (record { setting = r.setting; programs = r.programs; entries = r.entries; entry = e })

abbrev pub under_it : Running → ℕ → ℕ → Option (List Route) → Next
under_it r n number None = Err (refusal.Shape n)
under_it r n number (Some program) = Ok (running_as r (put_under r.entry number program))

-- directly behind an entry: one of its service's programs behind the first
abbrev pub with_under : Running → ℕ → ℕ → Next
with_under r n number = if is_bare r.entry then under_it r n number (later_at number r.programs.later) else Err (refusal.Shape n)

abbrev pub with_call : Running → ℕ → CallLine → Next
with_call r n c =
    if not (all_answered r.entry) then Err (refusal.Shape n)
    else (if list_any (has_number c.number) r.entries || has_number c.number r.entry then Err (refusal.Twice n)
    else Ok (running_as r (with_made r.entry c.number (call_of r.setting.me r.entry.request.chain c))))

abbrev pub with_answer : Running → ℕ → Response → Next
with_answer r n answer =
    if all_answered r.entry then Err (refusal.Shape n) else Ok (running_as r (consuming r.entry answer))

abbrev pub with_reply : Running → ℕ → Option Response → Next
with_reply r n reply =
    if not (all_answered r.entry) then Err (refusal.Shape n)
    else Ok (Within (record { setting = r.setting; programs = r.programs; entries = r.entries ++ replying r.entry reply ∷ []; rows = [] }))

-- behind `entry`, `under`, `call` or `answer`
abbrev pub run_on : Running → ℕ → Line → Next
run_on r n (Under number) = with_under r n number
run_on r n (Call c) = with_call r n c
run_on r n (Answer answer) = with_answer r n answer
run_on r n (Reply reply) = with_reply r n reply
run_on r n line = Err (refusal.Shape n)

-- ---- whole texts

-- the services that have ended, and where the lines so far leave off
abbrev pub Stepped : Type 0
Stepped = Result (List DumpService × Stage) DumpRefused

abbrev pub staying : List DumpService → Next → Stepped
staying services (Ok stage) = Ok (services, stage)
staying services (Err why) = Err why

-- the services then, and where it goes on
abbrev pub stepped : {X : Type 0} → Result X DumpRefused → List DumpService → Stage → Stepped
stepped (Ok done) services stage = Ok (services, stage)
stepped (Err why) services stage = Err why

-- the same of a line that is taken, or refused for this reason
abbrev pub taken : Bool → DumpRefused → List DumpService → Stage → Stepped
taken true why services stage = Ok (services, stage)
taken false why services stage = Err why

-- behind `program`, `reply` or `row`, where the service may end
abbrev pub kept : List DumpService → DumpService → ℕ → Line → Stepped
kept services s n (Program program) = staying services (with_next_program s n program)
kept services s n (Entry line) = staying services (with_entry s n line)
kept services s n (Row c) = staying services (with_row s n c)
kept services s n End = Ok (services ++ s ∷ [], Between)
kept services s n line = Err (refusal.Shape n)

-- what a line adds
abbrev pub step : List DumpService → Stage → ℕ → Line → Stepped
step services Between n line = staying services (begun services n line)
step services (Named me) n line = staying services (headed me n line)
step services (Headed h) n line = staying services (prepared h n line)
step services (Within s) n line = kept services s n line
step services (Runs r) n line = staying services (run_on r n line)

-- a program stands behind `peers` or another program
abbrev pub may_have_program : Stage → Bool
may_have_program Between = false
may_have_program (Named me) = false
may_have_program (Headed h) = true
may_have_program (Within s) = is_empty s
may_have_program (Runs r) = false

-- where a program may stand it can't be read; anywhere else it has no place
abbrev pub misread : Bool → ℕ → LineFault → DumpRefused
misread expected n fault.Text = refusal.Text n
misread expected n fault.Shape = refusal.Shape n
misread expected n (fault.Program why) = if expected then refusal.Program n why else refusal.Shape n

abbrev pub step_read : List DumpService → Stage → ℕ → Read → Stepped
step_read services stage n (Ok line) = step services stage n line
step_read services stage n (Err why) = Err (misread (may_have_program stage) n why)

-- goes on with what was read
abbrev pub and_then : {X Y : Type 0} → Result X DumpRefused → (X → Result Y DumpRefused) → Result Y DumpRefused
and_then (Err why) next = Err why
and_then (Ok x) next = next x

abbrev pub is_between : Stage → Bool
is_between Between = true
is_between (Named me) = false
is_between (Headed h) = false
is_between (Within s) = false
is_between (Runs r) = false

-- a text ends between services; else the line behind it, which has this number, lacks
abbrev pub at_end : List DumpService → Stage → ℕ → Result (List DumpService) DumpRefused
at_end services stage n = if is_between stage then Ok services else Err (refusal.Shape n)

-- the services with these lines, of which the first has this number
abbrev pub with_lines : List DumpService → Stage → ℕ → List (List ℕ) → Result (List DumpService) DumpRefused
with_lines services stage n [] = at_end services stage n
with_lines services stage n (line ∷ lines) =
    and_then (step_read services stage n (line_at line)) (λ next. with_lines next.0 next.1 (n + 1) lines)

-- the services that a text of at most 67,108,864 bytes writes down, or why it writes none down and at which line, counted
-- from 1
abbrev pub read_of : List ℕ → Result (List DumpService) DumpRefused
read_of text = if nat_lt 67108864 (length text) then Err refusal.TooLong else with_lines [] Between 1 (lines_of text)

-- ---- answers

-- the services then, unless a line is refused
abbrev pub all_read : Bool → DumpRefused → List DumpService → Result (List DumpService) DumpRefused
all_read true why services = Ok services
all_read false why services = Err why

abbrev pub is_memory : DumpRefused → Bool
is_memory refusal.NoMemory = true
is_memory refused = false

-- what a function answered is this, unless memory is wanting
abbrev pub Answers : {X : Type 0} → Result X DumpRefused → Result X DumpRefused → Type 0
Answers answer read = Unless (lacks is_memory answer) (read ≡ answer) (Unit {0})

-- what was read, as the services of it
abbrev pub services_of : Result Dump DumpRefused → Result (List DumpService) DumpRefused
services_of (Ok dump) = Ok dump.services
services_of (Err why) = Err why
