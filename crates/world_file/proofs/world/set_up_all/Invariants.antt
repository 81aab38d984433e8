use Rattle.std.proofs.Common.{◌≡◌, ◌++◌, length, map}
use Rattle.std.specs.Vec.Iter.{into_iter_items, into_iter_len}
use Rattle.world_file.specs.Spelled.{members_seen}
use Rattle.world_file.specs.Worlds.{setup_of}
use Rattle.world_file.proofs.world.set_up_all.Given as goal

abbrev pub invariant-loop-member : goal.invariant-loop-member
invariant-loop-member l = record {
  done : l.world.items ++ map (setup_of l.names) (members_seen (into_iter_items l.member-iterator)) ≡ map (setup_of l.names) (members_seen (into_iter_items l.initial.member-iterator));
  counted : into_iter_len l.member-iterator ≡ length (into_iter_items l.member-iterator);
}
