use Rattle.std.proofs.Common.{inl, refl}
use Rattle.node_run.proofs.jobs.repair_under_lock.Goals as goal

pub returns-in-Ok-Idle : goal.returns-in-Ok-Idle
returns-in-Ok-Idle g c = (c.step_under_lock.new.pass.notes, c.step_under_lock.ensures.steps, c.fold_under_lock.ensures)

pub returns-in-Ok-Ran : goal.returns-in-Ok-Ran
returns-in-Ok-Ran g c = (c.step_under_lock.new.pass.notes, c.step_under_lock.ensures.steps, inl refl)

pub returns-in-Err : goal.returns-in-Err
returns-in-Err g c = (c.step_under_lock.new.pass.notes, c.step_under_lock.ensures.steps, inl refl)
