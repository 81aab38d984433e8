-- What is told where there is no world.
use Rattle.std.specs.Prelude.{ℕ, List, Option, Some, None, codes}
use Rattle.world_file.specs.Numbers.{refusal_text}
use Rattle.aire_top.specs.declared.loading.NoWorld.{NoWorld}
use Rattle.aire_top.specs.declared.loading.NoWorld.TheVariants.{NoMemory, Failed, TooLong, Refused}

-- the number of the refusal and what it is about, where the world is refused
abbrev pub what_of : NoWorld → Option (List ℕ)
what_of NoMemory = None
what_of Failed = None
what_of TooLong = Some (codes "8")
what_of (Refused why) = Some (refusal_text why)
