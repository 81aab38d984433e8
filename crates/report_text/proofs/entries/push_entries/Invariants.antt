use Rattle.std.proofs.Common.{◌≡◌, ◌++◌, flat_map, string_bytes, take}
use Rattle.report_text.specs.Reports.{entry_line}
use Rattle.report_text.proofs.entries.push_entries.Given as goal

abbrev pub invariant-loop-kept : goal.invariant-loop-kept
invariant-loop-kept l = string_bytes l.text ≡ string_bytes l.initial.text ++ flat_map (entry_line l.me) (take l.kept-index l.entries)
