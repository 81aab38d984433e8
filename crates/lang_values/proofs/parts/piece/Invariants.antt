use Rattle.std.proofs.Common.{◌≡◌}
use Rattle.std.specs.Str.{IsUtf8}
use Rattle.lang_values.specs.Parts.{piece}
use Rattle.lang_values.proofs.parts.piece.Given as goal

abbrev pub invariant-loop-left : goal.invariant-loop-left
invariant-loop-left l = record {
  text : IsUtf8 l.rest;
  same : piece l.left l.by l.rest ≡ piece l.n l.by l.text;
}

abbrev pub decreases-loop-left : goal.decreases-loop-left
decreases-loop-left l = l.left
