use Rattle.std.proofs.Common.{All, take}
use Rattle.service_events.specs.Fits.{Fits}
use Rattle.script_run.proofs.reports.each_fits.Given as goal

abbrev pub invariant-loop-service : goal.invariant-loop-service
invariant-loop-service l = All Fits (take l.service-index l.services)
