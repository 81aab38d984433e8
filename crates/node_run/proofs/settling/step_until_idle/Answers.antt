use Rattle.std.proofs.Common.{◌≡◌, ◌-◌, Bool, arith, cond, subst}
use Rattle.node_run.proofs.SettlingLemmas.{Going, going_done, going_step}
use Rattle.node_run.proofs.settling.step_until_idle.Goals as goal

pub loop-left-preserved-then-ran : goal.loop-left-preserved-then-ran
loop-left-preserved-then-ran c =
    subst (λ (ran : Bool). Going c.args.service.now c.step.new.service (cond ran (c.loop-left.left - 1) 0)) c.if-ran.true
    (going_step c.args.service.now c.loop-left.service c.step.new.service c.loop-left.left c.in_ok-ran.ran c.loop-left-test.true c.loop-left.invariant c.in_ok-ran.ensures)

pub loop-left-preserved : goal.loop-left-preserved
loop-left-preserved c =
    subst (λ (ran : Bool). Going c.args.service.now c.step.new.service (cond ran (c.loop-left.left - 1) 0)) c.if-ran.false
    (going_step c.args.service.now c.loop-left.service c.step.new.service c.loop-left.left c.in_ok-ran.ran c.loop-left-test.true c.loop-left.invariant c.in_ok-ran.ensures)

pub returns : goal.returns
returns c =
    let none : c.loop-left.left ≡ 0 = omega (arith, c.loop-left-test.false) in
    going_done c.args.service.now c.loop-left.service c.loop-left.left none c.loop-left.invariant
