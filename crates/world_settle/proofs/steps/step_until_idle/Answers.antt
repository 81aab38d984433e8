use Rattle.world_settle.specs.Settles.{entries_of}
use Rattle.std.proofs.Common.{arith}
use Rattle.world_settle.proofs.EventLemmas.{on_err}
use Rattle.world_settle.proofs.Parts.{stepping_done, stepping_first, stepping_idle, stepping_ran}
use Rattle.world_settle.proofs.RestLaws.{does_rest}
use Rattle.world_settle.proofs.steps.step_until_idle.Goals as goal

pub returns-in_err-came-clause-early : goal.returns-in_err-came-clause-early
returns-in_err-came-clause-early c =
    on_err _ (stepping_first c.args.world.now c.loop-left.world c.step.new.world c.args.name.now (entries_of c.args.name.now c.args.world.now) c.loop-left.left c.args.tally.now c.loop-left.tally
    c.loop-left.invariant c.in_err-came.ensures.early)

pub loop-left-preserved-then-came : goal.loop-left-preserved-then-came
loop-left-preserved-then-came c =
    stepping_ran c.args.world.now c.loop-left.world c.step.new.world c.args.name.now (entries_of c.args.name.now c.args.world.now) c.loop-left.left c.args.tally.now c.loop-left.tally c.step.new.tally
    c.in_ok-came.came (omega (arith, c.loop-left-test.true)) c.if-came.true c.loop-left.invariant c.in_ok-came.ensures.comes

pub loop-left-preserved : goal.loop-left-preserved
loop-left-preserved c =
    stepping_idle c.args.world.now c.loop-left.world c.step.new.world c.args.name.now (entries_of c.args.name.now c.args.world.now) c.loop-left.left c.args.tally.now c.loop-left.tally c.step.new.tally
    c.in_ok-came.came (omega (arith, c.loop-left-test.true)) c.if-came.false c.loop-left.invariant c.in_ok-came.ensures.comes

pub returns-clause-does : goal.returns-clause-does
returns-clause-does c =
    stepping_done c.args.world.now c.loop-left.world c.args.name.now (entries_of c.args.name.now c.args.world.now) c.loop-left.left c.args.tally.now c.loop-left.tally
    (omega (arith, c.loop-left-test.false)) c.loop-left.invariant

pub returns-clause-rests : goal.returns-clause-rests
returns-clause-rests c =
    does_rest c.args.world.now c.loop-left.world c.args.name.now c.args.tally.now c.loop-left.tally
    (stepping_done c.args.world.now c.loop-left.world c.args.name.now (entries_of c.args.name.now c.args.world.now) c.loop-left.left c.args.tally.now c.loop-left.tally
    (omega (arith, c.loop-left-test.false)) c.loop-left.invariant)
