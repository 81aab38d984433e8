use Rattle.std.proofs.Common.{◌≡◌, ◌++◌, flat_map, string_bytes, take}
use Rattle.service_events.specs.State.{answers}
use Rattle.dump_lines.specs.Dumps.{entry_lines}
use Rattle.script_run.proofs.dumping.push_unfolded.Given as goal

abbrev pub invariant-loop-kept : goal.invariant-loop-kept
invariant-loop-kept l =
    string_bytes l.text ≡ string_bytes l.initial.text ++ flat_map (entry_lines (answers l.service)) (take l.kept-index l.kept-items)
