use Rattle.std.proofs.Common.{◌≡◌, take}
use Rattle.versioned_rows.specs.Places.{texts_of}
use Rattle.versioned_rows.proofs.fold.texts_of.Given as goal

abbrev pub invariant-loop-place : goal.invariant-loop-place
invariant-loop-place l = l.texts.items ≡ texts_of (take l.place-index l.places)
