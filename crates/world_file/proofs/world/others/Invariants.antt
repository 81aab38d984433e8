use Rattle.std.proofs.Common.{◌≡◌, take}
use Rattle.world_file.specs.Peers.{others}
use Rattle.world_file.proofs.world.others.Given as goal

abbrev pub invariant-loop-name : goal.invariant-loop-name
invariant-loop-name l = l.peers ≡ others l.me (take l.name-index l.names)
