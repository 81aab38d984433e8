-- What held writes are, as a contract sees them.
use Rattle.std.specs.Prelude.{List, [], ◌∷◌}
use Rattle.lang_core.specs.declared.writes.Write.{Write}
use Rattle.lang_core.specs.declared.shared_writes.HeldWrites.{HeldWrites}
use Rattle.lang_core.specs.declared.shared_writes.HeldWrites.TheVariants.{Nothing, One, Many}

-- the list of them, in whichever form they are held
abbrev pub held_writes : HeldWrites → List Write
held_writes Nothing = []
held_writes (One write) = write.value ∷ []
held_writes (Many writes) = writes.value
