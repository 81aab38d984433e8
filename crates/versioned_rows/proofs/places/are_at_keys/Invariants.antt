use Rattle.std.proofs.Common.{◌≡◌, take}
use Rattle.versioned_rows.specs.Places.{keys_of}
use Rattle.versioned_rows.proofs.places.are_at_keys.Given as goal

abbrev pub invariant-loop-i : goal.invariant-loop-i
invariant-loop-i l = keys_of (take l.i l.left) ≡ keys_of (take l.i l.right)
