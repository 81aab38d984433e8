-- What a dump of services says of them.
use Rattle.std.specs.Prelude.{List, [], Option, fold, map}
use Rattle.std.specs.Option.{option_map}
use Rattle.lang_core.specs.HandedOn.{Route}
use Rattle.lang_core.specs.declared.request.Response.{Response}
use Rattle.lang_core.specs.declared.setting.Setting.{Setting}
use Rattle.request_log.specs.Records.{Record, record_of, recorded_calls}
use Rattle.request_log.specs.declared.entry.Entry.{Entry}
use Rattle.local_repair.specs.Current.{Consumed, rows_after}
use Rattle.journal_rows.specs.Programs.{brought_step}
use Rattle.service_events.specs.State.{Kept, answers, base, unfolded}
use Rattle.dump_tables.specs.declared.dump.DumpEntry.{DumpEntry}
use Rattle.dump_tables.specs.declared.dump.DumpService.{DumpService}

-- what a record's entry answered
abbrev pub reply_in : Option Record → Option Response
reply_in made = option_map (λ (r : Record). r.response) made

-- an entry with its request and its program as they are now, its calls, what each of them consumes now, and its reply
abbrev pub dumped_entry : Consumed → Entry → DumpEntry
dumped_entry consumed e = record {
  id = e.id;
  origin = e.origin;
  version = e.version;
  wanted = e.wanted;
  struck = e.struck;
  inputs = e.inputs;
  request = e.request;
  under = e.under.now.number;
  program = e.under.now.program;
  numbers = e.slots;
  calls = recorded_calls (record_of e);
  answers = map consumed e.slots;
  reply = reply_in (record_of e);
}

-- the same setting, but for how heavy the journal may grow, which a dump doesn't tell
abbrev pub weightless : Setting → Setting
weightless s = record { me = s.me; peers = s.peers; program = s.program; weight = 0; alone = s.alone }

-- the programs that orders brought, which have the numbers from 2 on
abbrev pub brought_programs : Kept → List (List Route)
brought_programs s = fold brought_step [] s.journal

-- a service's programs, its entries in logged order, the folded ones first, and the rows after them
abbrev pub dumped : Kept → DumpService
dumped s = record {
  setting = weightless s.setting;
  programs = record { first = s.setting.program; later = brought_programs s };
  entries = map (dumped_entry (answers s)) s.entries;
  rows = rows_after (base s) (unfolded s);
}

abbrev pub dumped_all : List Kept → List DumpService
dumped_all services = map dumped services
