-- What a list of two words holds, as a contract sees it.
use Rattle.std.specs.Prelude.{List, [], Option, Some, None}
use Rattle.std.specs.declared.sync.Arc.{Arc}
use Rattle.std.specs.Global.{Global}

-- its elements, in the block that counts its holders; none where it has no block of memory
abbrev pub thin_items : {X : Type 0} → Option (Arc (List X) Global) → List X
thin_items None = []
thin_items (Some held) = held.value
