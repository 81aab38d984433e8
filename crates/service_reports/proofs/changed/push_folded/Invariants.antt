use Rattle.std.proofs.Common.{◌≡◌, ◌++◌, flat_map, map, string_bytes, take}
use Rattle.request_log.specs.Folded.{as_entry}
use Rattle.service_reports.specs.Changed.{changed_line}
use Rattle.service_reports.proofs.changed.push_folded.Given as goal

abbrev pub invariant-loop-kept : goal.invariant-loop-kept
invariant-loop-kept l = string_bytes l.text ≡ string_bytes l.initial.text ++ flat_map (changed_line l.me l.rows.rows) (map as_entry (take l.kept-index l.folded))
