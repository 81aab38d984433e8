use Rattle.std.proofs.Common.{ap, length, sym, subst, ◌∙◌}
use Rattle.std.proofs.lemmas.List.{length-map}
use Rattle.report_text.specs.Reports.{IsVerdictOver}
use Rattle.service_events.specs.State.{me}
use Rattle.script_run.proofs.reports.verdict_line.Goals as goal

pub verdict_text-requires : goal.verdict_text-requires
verdict_text-requires c =
    let same = ap length c.in_ok-names.ensures ∙ length-map c.services.result.now me ∙ ap length c.services.ensures.services in
    subst (λ n. IsVerdictOver n c.judge.result) (sym same) c.judge.ensures.over
