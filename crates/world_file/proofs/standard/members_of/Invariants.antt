use Rattle.std.proofs.Common.{◌≡◌, [], drop, map}
use Rattle.world_file.specs.Spelled.{members_seen, standard_read}
use Rattle.world_file.specs.Worlds.{members_behind}
use Rattle.world_file.proofs.standard.members_of.Given as goal

abbrev pub invariant-loop-service : goal.invariant-loop-service
invariant-loop-service l = members_behind [] (map standard_read l.services) ≡ members_behind (members_seen l.members.items) (map standard_read (drop l.service-index l.services))
