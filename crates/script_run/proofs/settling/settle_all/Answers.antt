use Rattle.std.proofs.Common.{refl}
use Rattle.script_run.proofs.Following.{on_err}
use Rattle.script_run.proofs.SettlingLaws.{settling_all, settling_does, settling_first}
use Rattle.script_run.proofs.settling.settle_all.Goals as goal

pub returns-in_err-settled-clause-early : goal.returns-in_err-settled-clause-early
returns-in_err-settled-clause-early c = on_err _ (settling_first c.args.world.now c.settle.new.world c.args.rounds c.in_err-settled.ensures.early)

pub returns-in_err-text-clause-early : goal.returns-in_err-text-clause-early
returns-in_err-text-clause-early c = on_err _ (settling_all c.args.world.now c.settle.new.world c.args.rounds _ c.in_ok-settled.ensures.settles)

pub returns-clause-does : goal.returns-clause-does
returns-clause-does c = rw (c.in_ok-text.ensures, c.settled_counts-counts.ensures) (settling_does c.args.world.now c.settle.new.world c.args.rounds _ _ c.in_ok-settled.ensures.settles refl)
