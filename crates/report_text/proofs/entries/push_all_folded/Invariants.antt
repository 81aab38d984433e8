use Rattle.std.proofs.Common.{◌≡◌, ◌++◌, flat_map, map, string_bytes, take}
use Rattle.request_log.specs.Folded.{as_entry}
use Rattle.report_text.specs.Reports.{folded_line}
use Rattle.report_text.proofs.entries.push_all_folded.Given as goal

abbrev pub invariant-loop-kept : goal.invariant-loop-kept
invariant-loop-kept l = string_bytes l.text ≡ string_bytes l.initial.text ++ flat_map (folded_line l.me) (map as_entry (take l.kept-index l.list))
