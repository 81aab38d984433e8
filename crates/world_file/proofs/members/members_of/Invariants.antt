use Rattle.std.proofs.Common.{◌≡◌, [], drop, map}
use Rattle.world_file.specs.Spelled.{members_seen, read_in}
use Rattle.world_file.specs.Worlds.{members_behind}
use Rattle.world_file.proofs.members.members_of.Given as goal

abbrev pub invariant-loop-service : goal.invariant-loop-service
invariant-loop-service l = members_behind [] (map read_in l.services) ≡ members_behind (members_seen l.members.items) (map read_in (drop l.service-index l.services))
