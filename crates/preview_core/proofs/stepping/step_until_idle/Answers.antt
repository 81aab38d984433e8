use Rattle.std.proofs.Common.{◌≡◌, ◌∙◌, ℕ, ◌-◌, Bool, List, cond, length, sym, ap, subst, arith}
use Rattle.service_events.specs.State.{unfolded}
use Rattle.preview_core.proofs.StepLemmas.{Going, going_done, going_none, going_step}
use Rattle.preview_core.proofs.stepping.step_until_idle.Goals.{then-ran, else-ran}
use Rattle.preview_core.proofs.stepping.step_until_idle.Goals as goal

pub loop-left-init : goal.loop-left-init
loop-left-init c =
    let s = c.args.service.now in
    let many : c.len-left.result ≡ length (unfolded s) = c.len-left.ensures ∙ ap length c.entries.ensures.entries in
    subst (λ (n : ℕ). Going s s c.new-ids.result n) (sym many)
    (subst (λ (ids : List ℕ). Going s s ids (length (unfolded s))) (sym c.new-ids.ensures) (going_none s c.requires))

pub loop-left-preserved : goal.loop-left-preserved
loop-left-preserved c =
    let G : ℕ → Type 0 = λ n. Going c.args.service.now c.step.new.service c.step.new.ids n in
    let B : Bool → Type 0 = λ b. G (cond b (c.loop-left.left - 1) 0) in
    let went : G (cond c.in_ok-ran.ran (c.loop-left.left - 1) 0) =
    going_step c.args.service.now c.loop-left.service c.step.new.service c.loop-left.ids c.step.new.ids c.loop-left.left c.loop-left.invariant c.step.ensures.fits c.step.ensures.few
    c.in_ok-ran.ensures.steps c.in_ok-ran.ran c.in_ok-ran.ensures.noted c.loop-left-test.true in
    elim c.if-ran.branch [
      | then-ran w ↦ subst G (sym w.left-is) (subst B w.if-ran.true went)
      | else-ran w ↦ subst G (sym w.left-is) (subst B w.if-ran.false went)
    ]

pub returns : goal.returns
returns c =
    let none : c.loop-left.left ≡ 0 = omega (arith, c.loop-left-test.false) in
    going_done c.args.service.now c.loop-left.service c.loop-left.ids c.loop-left.left none c.loop-left.invariant
