use Rattle.std.proofs.Common.{◌≡◌, map, take}
use Rattle.request_log.specs.Corrections.{given_for}
use Rattle.request_log.proofs.correcting.copies_for.Given as goal

abbrev pub invariant-loop-kept : goal.invariant-loop-kept
invariant-loop-kept l = l.copies.items ≡ map (given_for l.number l.program) (take l.kept-index l.items)
