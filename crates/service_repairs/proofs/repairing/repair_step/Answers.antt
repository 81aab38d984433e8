use Rattle.service_parts.specs.Parts.{kept}
use Rattle.service_repairs.proofs.RepairLemmas.{step_done, step_service}
use Rattle.service_repairs.proofs.repairing.repair_step.Goals as goal

pub returns-clause-steps : goal.returns-clause-steps
returns-clause-steps c =
    step_done (kept c.args.parts.now) (kept c.repair.new.parts) c.repair.result c.repair.ensures.ok c.repair.ensures.err

pub returns-clause-service : goal.returns-clause-service
returns-clause-service c =
    step_service c.args.parts.now c.repair.new.parts c.repair.result c.requires.service c.repair.ensures.ok c.repair.ensures.err c.repair.ensures.room
