use Rattle.std.proofs.Common.{arith}
use Rattle.world_settle.proofs.ComeToEnd.{settled}
use Rattle.world_settle.proofs.EventLemmas.{on_err}
use Rattle.world_settle.proofs.Parts.{first_sound, rounding_done, rounding_rests, rounding_sound, rounding_within, rounding_works}
use Rattle.world_settle.proofs.rounds.settle.Goals as goal

pub returns-in_err-works-clause-early : goal.returns-in_err-works-clause-early
returns-in_err-works-clause-early c =
    on_err _ (rounding_within c.args.world.now c.loop-left.world c.work_round.new.world c.args.rounds c.loop-left.with_work c.loop-left.left c.loop-left.tally
    (omega (arith, c.loop-left-test.true)) c.loop-left.invariant c.in_err-works.ensures.early)

pub returns-in_err-works-clause-one : goal.returns-in_err-works-clause-one
returns-in_err-works-clause-one c = settled c.args.world.now c.args.rounds

pub returns-in_err-works-clause-sound : goal.returns-in_err-works-clause-sound
returns-in_err-works-clause-sound c =
    first_sound c.args.world.now c.work_round.new.world c.args.rounds
    (rounding_within c.args.world.now c.loop-left.world c.work_round.new.world c.args.rounds c.loop-left.with_work c.loop-left.left c.loop-left.tally
    (omega (arith, c.loop-left-test.true)) c.loop-left.invariant c.in_err-works.ensures.early)

pub loop-left-preserved-then-works : goal.loop-left-preserved-then-works
loop-left-preserved-then-works c =
    rounding_works c.args.world.now c.loop-left.world c.work_round.new.world c.args.rounds c.loop-left.with_work c.loop-left.left c.loop-left.tally c.work_round.new.tally c.in_ok-works.works
    (omega (arith, c.loop-left-test.true)) c.if-works.true c.loop-left.invariant c.in_ok-works.ensures.does c.raised_if-with_work.result c.raised_if-with_work.ensures

pub loop-left-preserved : goal.loop-left-preserved
loop-left-preserved c =
    rounding_rests c.args.world.now c.loop-left.world c.work_round.new.world c.args.rounds c.loop-left.with_work c.loop-left.left c.loop-left.tally c.work_round.new.tally c.in_ok-works.works
    (omega (arith, c.loop-left-test.true)) c.if-works.false c.loop-left.invariant c.in_ok-works.ensures.does c.raised_if-with_work.result c.raised_if-with_work.ensures

pub returns-clause-settles : goal.returns-clause-settles
returns-clause-settles c =
    rounding_done c.args.world.now c.loop-left.world c.args.rounds c.loop-left.with_work c.loop-left.left c.loop-left.tally (omega (arith, c.loop-left-test.false)) c.loop-left.invariant

pub returns-clause-one : goal.returns-clause-one
returns-clause-one c = settled c.args.world.now c.args.rounds

pub returns-clause-sound : goal.returns-clause-sound
returns-clause-sound c =
    rounding_sound c.args.world.now c.loop-left.world c.args.rounds c.loop-left.with_work c.loop-left.left c.loop-left.tally c.loop-left.invariant
