use Rattle.std.proofs.Common.{◌∙◌, ◌++◌, List, ℕ, ap, codes, string_bytes}
use Rattle.report_text.specs.Reports.{body_behind}
use Rattle.script_run.proofs.DumpLemmas.{all_programs}
use Rattle.script_run.proofs.dump_programs.push_programs.Goals as goal

pub returns : goal.returns
returns c =
    let s = c.args.service.now in
    let before = string_bytes c.args.text.now in
    let rows = c.as_slice.ensures ∙ c.journal.ensures.rows in
    let printed = rw c.setting.ensures at c.in_ok-first.ensures.text in
    all_programs s.setting.program s.journal before (string_bytes c.push_program.new.text) (string_bytes c.push_all_brought.new.text) c.push_all_brought.result
    (c.in_ok-push_program.ensures ∙ ap (λ (t : List ℕ). before ++ (codes "program" ++ (body_behind t ++ codes "\n"))) printed)
    (rw rows at c.push_all_brought.ensures)
