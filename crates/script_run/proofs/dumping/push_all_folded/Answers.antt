use Rattle.std.proofs.Common.{◌≡◌, ◌++◌, ◌∙◌, List, string_bytes, subst}
use Rattle.request_log.specs.Folded.{as_entry}
use Rattle.local_repair.specs.Steps.{answer_or_tentative}
use Rattle.call_registers.specs.Registers.{consumed}
use Rattle.call_registers.specs.declared.register.Register.{Register}
use Rattle.service_events.specs.State.{answers}
use Rattle.dump_lines.specs.Dumps.{entry_lines}
use Rattle.script_run.proofs.DumpLemmas.{one_folded}
use Rattle.script_run.proofs.dumping.push_all_folded.Goals as goal

pub loop-kept-preserved : goal.loop-kept-preserved
loop-kept-preserved c =
    let mid = string_bytes c.loop-kept.text in
    let now = string_bytes c.push_folded.new.text in
    let e = c.folded-in-loop-kept.result.now in
    let P : List Register → Type 0 = λ rs. now ≡ mid ++ entry_lines (λ n. answer_or_tentative (consumed n rs)) (as_entry e) in
    one_folded (entry_lines (answers c.args.service.now)) (string_bytes c.args.text.now) mid now c.as_slice-kept-items.result.now c.loop-kept.kept-index e c.kept-item.result
    c.loop-kept-test.true (c.folded-in-loop-kept.ensures ∙ c.kept-item.is) c.loop-kept.invariant (subst P c.registers.ensures c.in_ok-push_folded.ensures)
