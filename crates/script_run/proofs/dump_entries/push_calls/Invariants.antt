use Rattle.std.proofs.Common.{◌≡◌, ◌++◌, flat_map, string_bytes}
use Rattle.std.specs.List.{zip}
use Rattle.std.specs.Slice.Iter.{iter_rest}
use Rattle.std.specs.Iterator.Adapters.{zip_first, zip_second}
use Rattle.local_repair.specs.Steps.{answer_or_tentative}
use Rattle.call_registers.specs.Registers.{consumed}
use Rattle.dump_lines.specs.Dumps.{call_lines}
use Rattle.script_run.proofs.dump_entries.push_calls.Given as goal

abbrev pub invariant-loop-number : goal.invariant-loop-number
invariant-loop-number l =
    string_bytes l.initial.text ++ flat_map (call_lines (λ n. answer_or_tentative (consumed n l.registers.list))) (zip l.numbers l.calls)
    ≡ string_bytes l.text ++ flat_map (call_lines (λ n. answer_or_tentative (consumed n l.registers.list)))
    (zip (iter_rest (zip_first l.number-iterator)) (iter_rest (zip_second l.number-iterator)))
