-- The forms of what is written of a service: what the types of names, texts and numbers keep, and the limits of requests.
use Rattle.std.specs.Prelude.{◌≡◌, ℕ, ◌<◌, ◌≤◌, ◌^◌, true, List, length, IfSome}
use Rattle.std.specs.List.{AllByRecursion, list_all}
use Rattle.lang_tree.specs.Depths.{routes_fit}
use Rattle.lang_tree.specs.Forms.{is_path, is_word}
use Rattle.lang_core.specs.HandedOn.{Route}
use Rattle.lang_core.specs.Names.{is_name, is_who}
use Rattle.lang_core.specs.declared.cells.Cell.{Cell}
use Rattle.lang_core.specs.declared.ids.Origin.{Origin}
use Rattle.lang_core.specs.declared.ids.Origin.TheVariants.{Outside, Call}
use Rattle.lang_core.specs.declared.inputs.Inputs.{Inputs}
use Rattle.lang_core.specs.declared.request.Request.{Request}
use Rattle.lang_core.specs.declared.request.Response.{Response}
use Rattle.lang_core.specs.declared.setting.Setting.{Setting}
use Rattle.lang_core.specs.declared.trace.CallMade.{CallMade}
use Rattle.lang_tokens.specs.Spelling.{is_held}
use Rattle.lang_grammar.specs.Grammar.{program_tokens}
use Rattle.lang_grammar.specs.Printing.{text_of}
use Rattle.request_log.specs.declared.entry.Entry.{Entry}
use Rattle.journal_rows.specs.Programs.{programs}
use Rattle.service_events.specs.State.{Kept}
use Rattle.dump_tables.specs.declared.dump.DumpEntry.{DumpEntry}
use Rattle.dump_tables.specs.declared.dump.DumpService.{DumpService}

-- a number of 64 bits, and one from 1
abbrev pub IsNumber : ℕ → Type 0
IsNumber n = n < 2 ^ 64

abbrev pub IsFromOne : ℕ → Type 0
IsFromOne n = (0 < n) × IsNumber n

-- a text of at most 65,536 bytes
abbrev pub IsBody : List ℕ → Type 0
IsBody text = length text ≤ 65536

pub record IsRequest (q : Request) : Type 0 where
  pub path : is_path q.path ≡ true
  pub who : is_who q.who ≡ true
  pub chain : list_all is_name q.chain ≡ true
  pub body : IsBody q.body

pub record IsResponse (r : Response) : Type 0 where
  pub status : r.status < 2 ^ 16
  pub body : IsBody r.body

pub record IsCallMade (c : CallMade) : Type 0 where
  pub dest : is_name c.dest ≡ true
  pub path : is_path c.request.path ≡ true
  pub body : IsBody c.request.body

pub record IsCell (c : Cell) : Type 0 where
  pub table : is_word c.table ≡ true
  pub some : 0 < length c.key
  pub key : length c.key ≤ 256
  pub text : IsBody c.text

pub record AreInputs (i : Inputs) : Type 0 where
  pub w1 : IsNumber i.w1
  pub w2 : IsNumber i.w2
  pub w3 : IsNumber i.w3
  pub w4 : IsNumber i.w4
  pub w5 : IsNumber i.w5
  pub w6 : IsNumber i.w6
  pub w7 : IsNumber i.w7
  pub w8 : IsNumber i.w8

abbrev pub IsOrigin : Origin → Type 0
IsOrigin Outside = Unit {0}
IsOrigin (Call caller number) = (is_name caller ≡ true) × IsFromOne number

-- what a dump says of an entry
pub record IsDumpEntry (e : DumpEntry) : Type 0 where
  pub id : IsFromOne e.id
  pub origin : IsOrigin e.origin
  pub version : IsNumber e.version
  pub inputs : AreInputs e.inputs
  pub request : IsRequest e.request
  pub under : IsNumber e.under
  pub numbers : AllByRecursion IsFromOne e.numbers
  pub calls : AllByRecursion IsCallMade e.calls
  pub answers : AllByRecursion IsResponse e.answers
  pub reply : IfSome e.reply IsResponse

-- a program: what its type keeps of it, and that what is printed of it isn't too long to be read
pub record IsProgram (p : List Route) : Type 0 where
  pub formed : routes_fit p ≡ true
  pub held : list_all is_held (program_tokens p) ≡ true
  pub short : length (text_of p) ≤ 65536

-- a service's name, those of its peers, and its first program
pub record IsSetting (s : Setting) : Type 0 where
  pub me : is_name s.me ≡ true
  pub peers : list_all is_name s.peers ≡ true
  pub program : IsProgram s.program

-- what a dump says of a service
pub record IsDumpService (s : DumpService) : Type 0 where
  pub setting : IsSetting s.setting
  pub later : AllByRecursion IsProgram s.programs.later
  pub entries : AllByRecursion IsDumpEntry s.entries
  pub rows : AllByRecursion IsCell s.rows

-- ---- what a service is made of, whatever its runs did

-- an origin as its type keeps it
abbrev pub IsWrittenOrigin : Origin → Type 0
IsWrittenOrigin Outside = Unit {0}
IsWrittenOrigin (Call caller number) = (is_name caller ≡ true) × IsNumber number

pub record IsWrittenEntry (e : Entry) : Type 0 where
  pub id : IsNumber e.id
  pub origin : IsWrittenOrigin e.origin
  pub version : IsNumber e.version
  pub inputs : AreInputs e.inputs
  pub request : IsRequest e.request
  pub under : IsNumber e.under.now.number
  pub slots : AllByRecursion IsNumber e.slots

pub record IsWritten (s : Kept) : Type 0 where
  pub setting : IsSetting s.setting
  pub programs : AllByRecursion IsProgram (programs s.setting.program s.journal)
  pub entries : AllByRecursion IsWrittenEntry s.entries
