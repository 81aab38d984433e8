use Rattle.std.proofs.Common.{ℕ, List, ◌++◌, string_bytes, flat_map}
use Rattle.std.specs.List.{zip}
use Rattle.std.proofs.lemmas.Slice.Zip.{either_empty_from_Zip}
use Rattle.lang_core.specs.declared.trace.CallMade.{CallMade}
use Rattle.local_repair.specs.Steps.{answer_or_tentative}
use Rattle.call_registers.specs.Registers.{consumed}
use Rattle.dump_lines.specs.Dumps.{call_lines}
use Rattle.script_run.proofs.DumpLemmas.{pair_end}
use Rattle.script_run.proofs.dump_entries.push_calls.Goals as goal

pub returns : goal.returns
returns c =
    let f : (ℕ × CallMade) → List ℕ = call_lines (λ n. answer_or_tentative (consumed n c.args.registers.now.list)) in
    let over = either_empty_from_Zip c.loop-number.number-iterator c.next.new.self c.next.result c.in-None.is c.next.ensures.steps in
    pair_end f (string_bytes c.args.text.now ++ flat_map f (zip c.args.numbers.now c.args.calls.now)) (string_bytes c.loop-number.text) _ _ c.loop-number.invariant over
