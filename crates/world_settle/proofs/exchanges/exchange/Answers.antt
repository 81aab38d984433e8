use Rattle.world_settle.specs.Doing.{Exchanges}
use Rattle.world_settle.proofs.EventLemmas.{on_err}
use Rattle.world_settle.proofs.Telling.{either_else, either_then, exchange_within, exchanges}
use Rattle.world_settle.proofs.exchanges.exchange.Goals as goal

pub returns-in_err-done-clause-early : goal.returns-in_err-done-clause-early
returns-in_err-done-clause-early c =
    on_err _ (exchange_within c.args.world.now c.post.new.world c.deliver.new.world c.args.from.now c.args.to.now c.args.tally.now c.post.new.tally c.in_ok-came.came
    c.in_ok-came.ensures.comes c.in_err-done.ensures.early)

pub returns-then-came-clause-does : goal.returns-then-came-clause-does
returns-then-came-clause-does c =
    either_then (λ b. Exchanges c.args.world.now c.args.from.now c.args.to.now c.args.tally.now c.deliver.new.tally b c.deliver.new.world) c.in_ok-came.came.is_done c.in_ok-done.done c.if-came.true
    (exchanges c.args.world.now c.post.new.world c.deliver.new.world c.args.from.now c.args.to.now c.args.tally.now c.post.new.tally c.deliver.new.tally c.in_ok-came.came c.in_ok-done.done
    c.requires.apart c.fits_there.ensures c.in_ok-came.ensures.comes c.in_ok-done.ensures.does)

pub returns-else-came-clause-does : goal.returns-else-came-clause-does
returns-else-came-clause-does c =
    either_else (λ b. Exchanges c.args.world.now c.args.from.now c.args.to.now c.args.tally.now c.deliver.new.tally b c.deliver.new.world) c.in_ok-came.came.is_done c.in_ok-done.done c.if-came.false
    (exchanges c.args.world.now c.post.new.world c.deliver.new.world c.args.from.now c.args.to.now c.args.tally.now c.post.new.tally c.deliver.new.tally c.in_ok-came.came c.in_ok-done.done
    c.requires.apart c.fits_there.ensures c.in_ok-came.ensures.comes c.in_ok-done.ensures.does)
