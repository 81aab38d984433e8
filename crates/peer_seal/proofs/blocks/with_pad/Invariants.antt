use Rattle.std.proofs.Common.{◌≡◌, ◌-◌, ◌++◌, take, map, replicate, bit_xor}
use Rattle.peer_seal.proofs.blocks.with_pad.Given as goal

abbrev pub invariant-loop-i : goal.invariant-loop-i
invariant-loop-i l = l.padded ≡ take l.i (map (λ byte. bit_xor byte l.pad) l.block) ++ replicate (64 - l.i) 0
