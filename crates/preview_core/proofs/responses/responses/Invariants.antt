use Rattle.std.proofs.Common.{take}
use Rattle.preview_core.specs.Repairs.{AreResponses}
use Rattle.preview_core.proofs.responses.responses.Given as goal

abbrev pub invariant-loop-id : goal.invariant-loop-id
invariant-loop-id l = AreResponses l.service (take l.id-index l.ids) l.list
