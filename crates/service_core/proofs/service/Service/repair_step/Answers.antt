use Rattle.std.proofs.Common.{false, IfOk, OnOk, subst, ap, ◌∙◌}
use Rattle.call_registers.specs.Registers.{IsTimely}
use Rattle.service_events.specs.State.{Kept}
use Rattle.service_events.specs.Causes.{causes, AddsCauses}
use Rattle.service_events.specs.Commits.{live_rows}
use Rattle.service_events.specs.Progress.{Counts, GoesFurther, IsLocalStep}
use Rattle.service_events.specs.RunsOn.{IsStep}
use Rattle.service_parts.specs.Parts.{kept}
use Rattle.service_parts.proofs.ServiceLaws.{rows_few}
use Rattle.service_repairs.proofs.DoneLemmas.{step_local, step_runs, step_further, step_silent, step_tells_none, step_through}
use Rattle.service_core.proofs.service.Service.repair_step.Goals as goal

pub returns-clause-local : goal.returns-clause-local
returns-clause-local c =
    let t = kept c.repair_step.new.parts in
    subst (λ s. IfOk c.repair_step.result (λ stepped. IsLocalStep s stepped t)) c.self.view_is
    (step_local (kept c.self.inside.parts) t c.repair_step.result c.self.invariant.0.fits (rows_few c.repair_step.new.parts) c.repair_step.ensures.steps)

pub returns-clause-once : goal.returns-clause-once
returns-clause-once c =
    let t = kept c.repair_step.new.parts in
    subst (λ s. IfOk c.repair_step.result (λ stepped. Counts s stepped t)) c.self.view_is
    (step_runs (kept c.self.inside.parts) t c.repair_step.result c.self.invariant.0.fits (rows_few c.repair_step.new.parts) c.repair_step.ensures.steps)

pub returns-clause-further : goal.returns-clause-further
returns-clause-further c =
    let t = kept c.repair_step.new.parts in
    subst (λ (s : Kept). OnOk c.repair_step.result (IsTimely s.registers → GoesFurther s t)) c.self.view_is
    (step_further (kept c.self.inside.parts) t c.repair_step.result c.self.invariant.0.fits (rows_few c.repair_step.new.parts) c.repair_step.ensures.steps)

pub returns-clause-silent : goal.returns-clause-silent
returns-clause-silent c =
    step_silent (kept c.self.inside.parts) (kept c.repair_step.new.parts) c.repair_step.result c.repair_step.ensures.steps
    ∙ ap (λ (s : Kept). live_rows s.journal) c.self.view_is

pub returns-clause-again : goal.returns-clause-again
returns-clause-again c =
    let t = kept c.repair_step.new.parts in
    subst (λ s. IfOk c.repair_step.result (λ stepped. IsStep s stepped t)) c.self.view_is
    (step_through (kept c.self.inside.parts) t c.repair_step.result c.repair_step.ensures.steps)

pub returns-clause-told : goal.returns-clause-told
returns-clause-told c =
    let t = kept c.repair_step.new.parts in
    subst (λ (s : Kept). AddsCauses (causes s) false t) c.self.view_is
    (step_tells_none (kept c.self.inside.parts) t c.repair_step.result c.repair_step.ensures.steps)
