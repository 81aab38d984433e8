use Rattle.std.proofs.Common.{sym, arith}
use Rattle.world_settle.specs.Settles.{EachInOrder, IsPosting, others}
use Rattle.world_settle.proofs.EventLemmas.{on_err}
use Rattle.world_settle.proofs.Parts.{none_left, posts_done, posts_on, posts_within}
use Rattle.world_settle.proofs.shares.post_to_others.Goals as goal

pub returns-in_err-post_to-clause-early : goal.returns-in_err-post_to-clause-early
returns-in_err-post_to-clause-early c =
    on_err _ (posts_within (EachInOrder (IsPosting c.args.name.now) (others c.args.name.now c.args.names.now)) c.args.name.now c.other-item.result c.args.names.now c.loop-other.other-index
    c.args.world.now c.loop-other.world c.post_to.new.world c.args.tally.now c.loop-other.tally c.loop-other-test.true (sym c.other-item.is) c.loop-other.invariant c.in_err-post_to.ensures.early)

pub loop-other-preserved : goal.loop-other-preserved
loop-other-preserved c =
    posts_on (EachInOrder (IsPosting c.args.name.now) (others c.args.name.now c.args.names.now)) c.args.name.now c.other-item.result c.args.names.now c.loop-other.other-index
    c.args.world.now c.loop-other.world c.post_to.new.world c.args.tally.now c.loop-other.tally c.post_to.new.tally c.loop-other-test.true (sym c.other-item.is) c.loop-other.invariant c.in_ok-post_to.ensures.does

pub returns-clause-does : goal.returns-clause-does
returns-clause-does c =
    posts_done c.args.name.now c.args.names.now c.loop-other.other-index (EachInOrder (IsPosting c.args.name.now) (others c.args.name.now c.args.names.now))
    c.args.world.now c.loop-other.world c.args.tally.now c.loop-other.tally (none_left c.loop-other.other-index c.args.names.now (omega (arith, c.loop-other-test.false))) c.loop-other.invariant
