use Rattle.world_settle.proofs.EventLemmas.{on_err}
use Rattle.world_settle.proofs.Parts.{posting_done, posting_on, posting_within}
use Rattle.world_settle.proofs.exchanges.post_all.Goals as goal

pub returns-in_err-more-clause-early : goal.returns-in_err-more-clause-early
returns-in_err-more-clause-early c =
    on_err _ (posting_within c.args.world.now c.loop-more.world c.exchange.new.world c.args.from.now c.args.to.now c.args.tally.now c.loop-more.tally c.loop-more.more
    c.loop-more-test.true c.loop-more.invariant c.in_err-more.ensures.early)

pub loop-more-preserved : goal.loop-more-preserved
loop-more-preserved c =
    posting_on c.args.world.now c.loop-more.world c.exchange.new.world c.args.from.now c.args.to.now c.args.tally.now c.loop-more.tally c.exchange.new.tally c.loop-more.more c.in_ok-more.more
    c.loop-more-test.true c.loop-more.invariant c.in_ok-more.ensures.does

pub returns-clause-does : goal.returns-clause-does
returns-clause-does c =
    posting_done c.args.world.now c.loop-more.world c.args.from.now c.args.to.now c.args.tally.now c.loop-more.tally c.loop-more.more c.loop-more-test.false c.loop-more.invariant
