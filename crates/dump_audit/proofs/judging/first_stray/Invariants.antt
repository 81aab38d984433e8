use Rattle.std.proofs.Common.{◌≡◌, drop}
use Rattle.dump_audit.specs.Judging.{stray_fault, first_in}
use Rattle.dump_audit.proofs.judging.first_stray.Given as goal

abbrev pub invariant-loop-service : goal.invariant-loop-service
invariant-loop-service l = first_in (stray_fault l.fn.services) (drop l.service-index l.services) ≡ first_in (stray_fault l.fn.services) l.fn.services
