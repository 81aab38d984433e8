use Rattle.std.proofs.Common.{length}
use Rattle.service_repairs.proofs.settling.+plan_slots.Given as goal

abbrev pub decreases-plan_slots : goal.decreases-plan_slots
decreases-plan_slots l = length l.new.now
