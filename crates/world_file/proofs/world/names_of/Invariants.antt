use Rattle.std.proofs.Common.{◌≡◌, map, take}
use Rattle.world_file.specs.Spelled.{members_seen}
use Rattle.world_file.specs.Worlds.{member_name}
use Rattle.world_file.proofs.world.names_of.Given as goal

abbrev pub invariant-loop-member : goal.invariant-loop-member
invariant-loop-member l = l.names ≡ map member_name (members_seen (take l.member-index l.members))
