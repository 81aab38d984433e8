-- Parts of a log, as requests of a history.
use Rattle.std.specs.Prelude.{List, map}
use Rattle.execution.specs.Executions.{Act}
use Rattle.dump_tables.specs.declared.dump.DumpEntry.{DumpEntry}
use Rattle.dump_audit.specs.Histories.{act_of, history_of}
use Rattle.lang_core.specs.declared.ids.RequestId.{RequestId}
use Rattle.one_order.specs.declared.logs.Log.{Log as LogLeft}
use Rattle.one_order.specs.declared.logs.Taken.{Taken}
use Rattle.one_world.specs.Searches.{Log}

abbrev pub acts_of : List DumpEntry → List Act
acts_of entries = map act_of entries

-- what is left of a service's log, as that of a history
abbrev pub log_of : LogLeft → Log
log_of l = record { history = history_of l.service.now; left = acts_of l.left.now }

-- a root, and what is left of the histories' logs behind it
abbrev pub taken_of : Taken → RequestId × List Log
taken_of t = (t.id, map log_of t.logs.items)
