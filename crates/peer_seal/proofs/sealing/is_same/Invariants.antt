use Rattle.std.proofs.Common.{◌≡◌, ◌↔◌, take}
use Rattle.peer_seal.proofs.sealing.is_same.Given as goal

abbrev pub invariant-loop-i : goal.invariant-loop-i
invariant-loop-i l = (l.differing ≡ 0) ↔ (take l.i l.left ≡ take l.i l.right)
