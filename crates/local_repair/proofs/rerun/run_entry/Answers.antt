use Rattle.std.proofs.Common.{◌∙◌, ap}
use Rattle.std.proofs.lemmas.Result.{IfOk-weaker}
use Rattle.lang_core.specs.declared.inputs.Inputs.{Inputs}
use Rattle.lang_core.specs.declared.request.Request.{Request}
use Rattle.request_log.specs.HandedOn.{with_program}
use Rattle.execution.specs.HandedOn.{run_of}
use Rattle.local_repair.specs.Programs.{setting_of}
use Rattle.local_repair.proofs.rerun.run_entry.Goals as goal

pub returns : goal.returns
returns g c =
    let e = c.args.entry.now in
    let setting = c.args.setting.now in
    let xs = c.args.answers.now in
    let rows = g.V.View.rows c.args.view.now in
    IfOk-weaker c.run.result _ _
    (λ ran h. h ∙ ap (λ p. run_of (with_program p setting) c.get-request.result.now c.get-inputs.result.now xs rows) c.program_of-program.ensures
    ∙ ap (λ (q : Request). run_of (setting_of setting e) q c.get-inputs.result.now xs rows) c.get-request.ensures
    ∙ ap (λ (i : Inputs). run_of (setting_of setting e) e.request i xs rows) c.get-inputs.ensures)
    c.run.ensures.meaning
