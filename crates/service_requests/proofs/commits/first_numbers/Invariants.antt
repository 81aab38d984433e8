use Rattle.std.proofs.Common.{◌≡◌, ◌≤◌, take}
use Rattle.service_requests.proofs.commits.first_numbers.Given as goal

abbrev pub invariant-loop-i : goal.invariant-loop-i
invariant-loop-i l = record { first : l.first ≡ take l.i l.numbers; within : l.i ≤ l.count }
