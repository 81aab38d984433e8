use Rattle.std.proofs.Common.{◌≡◌, length, take}
use Rattle.request_log.specs.Keys.{slots_in}
use Rattle.request_log.proofs.folded.count_calls.Given as goal

abbrev pub invariant-loop-kept : goal.invariant-loop-kept
invariant-loop-kept l = l.count ≡ length (slots_in (take l.kept-index l.items))
