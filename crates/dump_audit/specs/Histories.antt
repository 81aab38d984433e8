-- What a dump says, as histories.
use Rattle.std.specs.Prelude.{List, map}
use Rattle.std.specs.Option.{option_map}
use Rattle.lang_core.specs.declared.request.Response.{Response}
use Rattle.lang_core.specs.declared.trace.CallMade.{CallMade}
use Rattle.execution.specs.Executions.{Act, Deed, History}
use Rattle.dump_tables.specs.declared.dump.DumpEntry.{DumpEntry}
use Rattle.dump_tables.specs.declared.dump.DumpService.{DumpService}

abbrev pub deed : List CallMade → Response → Deed
deed calls response = record { calls = calls; response = response }

-- an entry, as a request of a history
abbrev pub act_of : DumpEntry → Act
act_of e = record {
  id = e.id;
  origin = e.origin;
  wanted = e.wanted;
  struck = e.struck;
  request = e.request;
  inputs = e.inputs;
  program = e.program;
  numbers = e.numbers;
  answers = e.answers;
  did = option_map (deed e.calls) e.reply;
}

-- a service's entries in logged order, and its last rows
abbrev pub history_of : DumpService → History
history_of s = record { setting = s.setting; acts = map act_of s.entries; rows = s.rows }

abbrev pub histories_of : List DumpService → List History
histories_of world = map history_of world
