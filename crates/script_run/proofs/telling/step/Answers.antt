use Rattle.script_run.proofs.telling.step.Goals as goal

pub returns-in-Ok-clause-few : goal.returns-in-Ok-clause-few
returns-in-Ok-clause-few c = rw c.services.ensures.services at c.counted.ensures

pub returns-in-Err-clause-few : goal.returns-in-Err-clause-few
returns-in-Err-clause-few c = rw c.services.ensures.services at c.counted.ensures
