-- What the parts of a service keep together: all entries of its log, the folded ones first.
use Rattle.std.specs.Prelude.{List, length}
use Rattle.request_log.specs.Folded.{whole}
use Rattle.request_log.specs.declared.entry.Entry.{Entry}
use Rattle.local_repair.specs.Repairs.{KeptRepairer}
use Rattle.service_events.specs.State.{Kept}
use Rattle.service_parts.specs.declared.parts.Parts.{Parts}

-- all entries of a log under repair, the folded ones first
abbrev pub whole_log : KeptRepairer → List Entry
whole_log r = whole r.folded r.entries

abbrev pub kept : Parts → Kept
kept p =
    record {
      setting = p.setting;
      began = p.began;
      rules = p.rules;
      newest = p.newest;
      entries = whole_log p.repairer;
      horizon = length p.repairer.folded;
      base = p.repairer.base;
      flights = p.flights.list;
      journal = p.journal.rows;
      registers = p.registers.list;
      replies = p.replies.list;
    }
