use Rattle.std.proofs.Common.{sym, arith}
use Rattle.world_settle.specs.Settles.{EachInOrder, IsShare}
use Rattle.world_settle.proofs.EventLemmas.{on_err}
use Rattle.world_settle.proofs.Parts.{each_done, each_on, none_left, shares_within}
use Rattle.world_settle.proofs.shares.shares.Goals as goal

pub returns-in_err-share-clause-early : goal.returns-in_err-share-clause-early
returns-in_err-share-clause-early c =
    on_err _ (shares_within c.args.names.now c.loop-name.name-index c.name-item.result c.args.world.now c.loop-name.world c.share.new.world c.args.tally.now c.loop-name.tally
    c.loop-name-test.true (sym c.name-item.is) c.loop-name.invariant c.in_err-share.ensures.early)

pub loop-name-preserved : goal.loop-name-preserved
loop-name-preserved c =
    each_on (EachInOrder (IsShare c.args.names.now) c.args.names.now) (IsShare c.args.names.now) c.args.names.now c.loop-name.name-index c.name-item.result c.args.world.now c.loop-name.world c.share.new.world
    c.args.tally.now c.loop-name.tally c.share.new.tally c.loop-name-test.true (sym c.name-item.is) c.loop-name.invariant c.in_ok-share.ensures.does

pub returns-clause-does : goal.returns-clause-does
returns-clause-does c =
    each_done (EachInOrder (IsShare c.args.names.now) c.args.names.now) (IsShare c.args.names.now) c.args.names.now c.loop-name.name-index c.args.world.now c.loop-name.world c.args.tally.now c.loop-name.tally
    (none_left c.loop-name.name-index c.args.names.now (omega (arith, c.loop-name-test.false))) c.loop-name.invariant
