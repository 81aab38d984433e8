-- What a repair step leaves, said of a call that did it or wanted memory.
use Rattle.std.proofs.Common.{◌≡◌, Result, Ok, Err, IfOk, OnOk, sym, ap, subst, ◌∙◌}
use Rattle.lang_base.specs.declared.memory.NoMemory.{NoMemory}
use Rattle.local_repair.specs.declared.stepped.Stepped.{Stepped}
use Rattle.call_registers.specs.Registers.{IsTimely}
use Rattle.service_events.specs.State.{Kept, After, after}
use Rattle.service_events.specs.Causes.{causes}
use Rattle.service_events.specs.Commits.{live_rows}
use Rattle.service_events.specs.Fits.{Fits}
use Rattle.service_events.specs.Progress.{Counts, GoesFurther, IsLocalStep}
use Rattle.service_events.specs.RunsOn.{IsStep}
use Rattle.service_events.specs.Steps.{step_event}
use Rattle.service_events.specs.declared.event.Event.TheVariants as events
use Rattle.service_events.proofs.CallLaws.{IsFew}
use Rattle.service_parts.proofs.RunsOnLaws.{step_runs_through}
use Rattle.service_parts.proofs.SilentLaws.{event_answers_none}
use Rattle.service_parts.proofs.StepLaws.{step_steps, step_counts, step_goes}
use Rattle.service_parts.proofs.UntoldLaws.{TellsNone, same_tells_none, event_untold}
use Rattle.service_repairs.specs.Answers.{Steps}

few_after : (s t : Kept) (stepped : Stepped) → after t stepped ≡ step_event s → IsFew t → IsFew (step_event s).service
few_after s t stepped is few = (let F : After Stepped → Type 0 = λ a. IsFew a.service in subst F is few)

pub step_local : (s t : Kept) (r : Result Stepped NoMemory) → Fits s → IsFew t → Steps s r t → IfOk r (λ stepped. IsLocalStep s stepped t)
step_local s t (Ok stepped) fits few is =
    let P : After Stepped → Type 0 = λ a. IsLocalStep s a.answer a.service in
    subst P (sym is) (step_steps s fits (few_after s t stepped is few))
step_local s t (Err why) fits few same = tt

pub step_runs : (s t : Kept) (r : Result Stepped NoMemory) → Fits s → IsFew t → Steps s r t → IfOk r (λ stepped. Counts s stepped t)
step_runs s t (Ok stepped) fits few is =
    let P : After Stepped → Type 0 = λ a. Counts s a.answer a.service in
    subst P (sym is) (step_counts s fits (few_after s t stepped is few))
step_runs s t (Err why) fits few same = tt

pub step_further : (s t : Kept) (r : Result Stepped NoMemory) → Fits s → IsFew t → Steps s r t → OnOk r (IsTimely s.registers → GoesFurther s t)
step_further s t (Ok stepped) fits few is =
    let P : After Stepped → Type 0 = λ a. IsTimely s.registers → GoesFurther s a.service in
    subst P (sym is) (step_goes s fits (few_after s t stepped is few))
step_further s t (Err why) fits few same = tt

pub step_silent : (s t : Kept) (r : Result Stepped NoMemory) → Steps s r t → live_rows t.journal ≡ live_rows s.journal
step_silent s t (Ok stepped) is = ap (λ (a : After Stepped). live_rows a.service.journal) is ∙ event_answers_none s events.Step tt
step_silent s t (Err why) same = ap (λ (k : Kept). live_rows k.journal) same

-- the first stale entry ran through
pub step_through : (s t : Kept) (r : Result Stepped NoMemory) → Steps s r t → IfOk r (λ stepped. IsStep s stepped t)
step_through s t (Ok stepped) is =
    let P : After Stepped → Type 0 = λ a. IsStep s a.answer a.service in
    subst P (sym is) (step_runs_through s)
step_through s t (Err why) same = tt

pub step_tells_none : (s t : Kept) (r : Result Stepped NoMemory) → Steps s r t → TellsNone s t
step_tells_none s t (Ok stepped) is = (let P : After Stepped → Type 0 = λ a. TellsNone s a.service in subst P (sym is) (event_untold s events.Step tt))
step_tells_none s t (Err why) same = same_tells_none s t (ap causes same)
