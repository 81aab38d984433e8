use Rattle.std.proofs.Common.{arith}
use Rattle.peer_seal.proofs.Differing.{next_place}
use Rattle.peer_seal.proofs.sealing.is_same.Goals as goal

pub loop-i-preserved : goal.loop-i-preserved
loop-i-preserved c =
    next_place c.loop-i.differing c.loop-i.i c.args.left.now c.args.right.now (omega arith) (omega arith) c.loop-i.invariant
