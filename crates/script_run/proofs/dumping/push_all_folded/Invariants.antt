use Rattle.std.proofs.Common.{◌≡◌, ◌++◌, flat_map, map, string_bytes, take}
use Rattle.request_log.specs.Folded.{as_entry}
use Rattle.service_events.specs.State.{answers}
use Rattle.dump_lines.specs.Dumps.{entry_lines}
use Rattle.script_run.proofs.dumping.push_all_folded.Given as goal

abbrev pub invariant-loop-kept : goal.invariant-loop-kept
invariant-loop-kept l =
    string_bytes l.text ≡ string_bytes l.initial.text ++ flat_map (entry_lines (answers l.service)) (map as_entry (take l.kept-index l.kept-items))
