use Rattle.std.proofs.Common.{◌≡◌, take, set}
use Rattle.service_requests.proofs.flying.replaced.Given as goal

abbrev pub invariant-loop-i : goal.invariant-loop-i
invariant-loop-i g l = l.list ≡ take l.i (set l.items l.place l.item)
