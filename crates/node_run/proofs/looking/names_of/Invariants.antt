use Rattle.std.proofs.Common.{◌≡◌, map, take}
use Rattle.world_file.specs.Worlds.{name_of}
use Rattle.node_run.proofs.looking.names_of.Given as goal

abbrev pub invariant-loop-setup : goal.invariant-loop-setup
invariant-loop-setup l = l.names ≡ map name_of (take l.setup-index l.here)
