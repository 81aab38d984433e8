use Rattle.std.proofs.Common.{◌≡◌, ◌∙◌, ap, map, sym, ℕ}
use Rattle.std.proofs.lemmas.Result.{IfOk-weaker}
use Rattle.lang_core.specs.declared.request.Response.{Response}
use Rattle.service_events.specs.HandedOn.{Numbered}
use Rattle.service_events.specs.HandedOn.{with_program}
use Rattle.handler_run.specs.Handlers.{run_of}
use Rattle.local_repair.specs.Current.{rows_after}
use Rattle.local_repair.specs.Steps.{answer_or_tentative}
use Rattle.local_repair.specs.Written.{rows_seen}
use Rattle.call_registers.specs.Registers.{consumed}
use Rattle.service_events.specs.Flying.{flight_run}
use Rattle.service_events.specs.State.{unfolded}
use Rattle.service_parts.specs.Drafts.{with_draft}
use Rattle.service_parts.specs.Parts.{kept}
use Rattle.service_parts.proofs.WholeLemmas.{unfolded_kept}
use Rattle.service_requests.proofs.runs.run_flight.Goals as goal

pub returns : goal.returns
returns c =
    let p = c.args.parts.now in
    let f = c.args.flight.now in
    let drafted = with_draft c.args.draft.now (kept p) in
    let consumes : ℕ → Response = λ n. answer_or_tentative (consumed n drafted.registers) in
    let program = c.program-program.ensures ∙ ap (λ (n : Numbered). n.program) c.get.ensures in
    let request = c.get-request.ensures in
    let inputs = c.get-inputs.ensures in
    let given : c.in_ok-answers.answers ≡ map consumes f.numbers = c.in_ok-answers.ensures ∙ ap (map consumes) c.as_slice.ensures in
    let rows : rows_seen c.end-rows.result ≡ rows_after p.repairer.base (unfolded (kept p)) =
    c.end-rows.ensures ∙ ap (rows_after p.repairer.base) (sym (unfolded_kept p)) in
    let same
    : run_of (with_program c.program-program.result.now p.setting) c.get-request.result.now c.get-inputs.result.now c.in_ok-answers.answers (rows_seen c.end-rows.result)
    ≡ flight_run drafted f =
    (λ i. run_of (with_program (program i) p.setting) (request i) (inputs i) (given i) (rows i)) in
    IfOk-weaker c.run.result _ _ (λ ran h. h ∙ same) c.run.ensures.meaning
