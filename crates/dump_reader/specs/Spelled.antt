-- Which text writes which services down.
use Rattle.std.specs.Prelude.{◌≡◌, ℕ, List, [], ◌∷◌, ◌++◌, Ok, nat_eq, map, if◌then◌else◌}
use Rattle.std.specs.List.{flat_map}
use Rattle.lang_core.specs.declared.request.Response.{Response}
use Rattle.lang_core.specs.declared.setting.Setting.{Setting}
use Rattle.lang_core.specs.declared.trace.CallMade.{CallMade}
use Rattle.dump_tables.specs.declared.dump.DumpEntry.{DumpEntry}
use Rattle.dump_tables.specs.declared.dump.DumpService.{DumpService}
use Rattle.dump_tables.specs.declared.programs.DumpPrograms.{DumpPrograms}
use Rattle.dump_words.specs.Lines.{Read, line_at}
use Rattle.dump_words.specs.declared.line.CallLine.{CallLine}
use Rattle.dump_words.specs.declared.line.EntryLine.{EntryLine}
use Rattle.dump_words.specs.declared.line.Line.{Line}
use Rattle.dump_words.specs.declared.line.Line.TheVariants.{Service, Peers, Program, Entry, Under, Call, Answer, Reply, Row, End}
use Rattle.dump_reader.specs.Reading.{lines_of}

-- what the line of an entry says of it
abbrev pub entry_line : DumpEntry → EntryLine
entry_line e = record {
  id = e.id;
  origin = e.origin;
  version = e.version;
  wanted = e.wanted;
  struck = e.struck;
  inputs = e.inputs;
  request = e.request;
}

-- what the line of a call says of it
abbrev pub call_line : ℕ → CallMade → CallLine
call_line number c =
    record { number = number; dest = c.dest; method = c.request.method; path = c.request.path; body = c.request.body }

-- each call with what it consumed, as far as that is told
abbrev pub call_lines : List ℕ → List CallMade → List Response → List Line
call_lines (n ∷ ns) (c ∷ cs) (r ∷ rs) = Call (call_line n c) ∷ Answer r ∷ call_lines ns cs rs
call_lines (n ∷ ns) (c ∷ cs) [] = Call (call_line n c) ∷ call_lines ns cs []
call_lines ns cs rs = []

-- under which of its service's programs an entry runs, where that isn't the first
abbrev pub under_lines : ℕ → List Line
under_lines number = if nat_eq number 1 then [] else Under number ∷ []

-- an entry, its program, and its calls
abbrev pub begun_lines : DumpEntry → List Line
begun_lines e = Entry (entry_line e) ∷ (under_lines e.under ++ call_lines e.numbers e.calls e.answers)

-- an entry, its program, its calls in the order of their slots, and its reply
abbrev pub entry_lines : DumpEntry → List Line
entry_lines e = begun_lines e ++ Reply e.reply ∷ []

-- `service`, `peers`, and `program` for each program: the setting's, and those behind it
abbrev pub head_lines : Setting → DumpPrograms → List Line
head_lines s programs = Service s.me ∷ Peers s.peers ∷ Program s.program ∷ map Program programs.later

-- a service up to its last row
abbrev pub inner_lines : DumpService → List Line
inner_lines s = head_lines s.setting s.programs ++ (flat_map entry_lines s.entries ++ map Row s.rows)

abbrev pub service_lines : DumpService → List Line
service_lines s = inner_lines s ++ End ∷ []

-- the services, one after the other
abbrev pub dump_lines : List DumpService → List Line
dump_lines services = flat_map service_lines services

-- a line that says this
abbrev pub says : Line → Read
says line = Ok line

-- the lines of the text say these services, and nothing else
abbrev pub Spells : List ℕ → List DumpService → Type 0
Spells text services = map line_at (lines_of text) ≡ map says (dump_lines services)
