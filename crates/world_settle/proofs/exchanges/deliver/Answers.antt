use Rattle.world_settle.specs.Doing.{Delivers}
use Rattle.world_settle.proofs.EventLemmas.{on_err}
use Rattle.world_settle.proofs.Telling.{delivers_first, delivers_on, delivers_within, either_else, either_then}
use Rattle.world_settle.proofs.exchanges.deliver.Goals as goal

pub returns-in_err-came-in-Some-clause-early : goal.returns-in_err-came-in-Some-clause-early
returns-in_err-came-in-Some-clause-early c = on_err _ (delivers_first c.args.world.now c.happen.new.world c.args.packet c.in_err-came-in-Some.ensures.early)

pub returns-in_err-done-in-Some-clause-early : goal.returns-in_err-done-in-Some-clause-early
returns-in_err-done-in-Some-clause-early c =
    on_err _ (delivers_within c.args.world.now c.happen.new.world c.deliver_back.new.world c.in-Some.number c.args.packet c.args.tally.now c.happen.new.tally c.in_ok-came-in-Some.came
    c.in-Some.is c.in_ok-came-in-Some.ensures.comes c.in_err-done-in-Some.ensures.early)

pub returns-then-came-clause-does : goal.returns-then-came-clause-does
returns-then-came-clause-does c =
    either_then (λ b. Delivers c.args.world.now 2 c.args.packet c.args.tally.now c.deliver_back.new.tally b c.deliver_back.new.world) c.in_ok-came-in-Some.came.is_done c.in_ok-done-in-Some.done c.if-came.true
    (delivers_on c.args.world.now c.happen.new.world c.deliver_back.new.world c.in-Some.number c.args.packet c.args.tally.now c.happen.new.tally c.deliver_back.new.tally c.in_ok-came-in-Some.came
    c.in_ok-done-in-Some.done c.in-Some.is c.in_ok-came-in-Some.ensures.comes c.in_ok-done-in-Some.ensures.does)

pub returns-else-came-clause-does : goal.returns-else-came-clause-does
returns-else-came-clause-does c =
    either_else (λ b. Delivers c.args.world.now 2 c.args.packet c.args.tally.now c.deliver_back.new.tally b c.deliver_back.new.world) c.in_ok-came-in-Some.came.is_done c.in_ok-done-in-Some.done c.if-came.false
    (delivers_on c.args.world.now c.happen.new.world c.deliver_back.new.world c.in-Some.number c.args.packet c.args.tally.now c.happen.new.tally c.deliver_back.new.tally c.in_ok-came-in-Some.came
    c.in_ok-done-in-Some.done c.in-Some.is c.in_ok-came-in-Some.ensures.comes c.in_ok-done-in-Some.ensures.does)
