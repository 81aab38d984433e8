use Rattle.std.proofs.Common.{◌≡◌, false, take}
use Rattle.world_file.specs.Spelled.{members_seen}
use Rattle.world_file.specs.Worlds.{is_taken}
use Rattle.world_file.proofs.members.is_taken.Given as goal

abbrev pub invariant-loop-member : goal.invariant-loop-member
invariant-loop-member l = is_taken (members_seen (take l.member-index l.earlier)) l.name ≡ false
