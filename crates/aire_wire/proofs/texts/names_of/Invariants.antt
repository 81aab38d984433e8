use Rattle.std.proofs.Common.{◌≡◌, map, take}
use Rattle.aire_wire.proofs.texts.names_of.Given as goal

abbrev pub invariant-loop-piece : goal.invariant-loop-piece
invariant-loop-piece l = l.names ≡ map (λ x. x.now) (take l.piece-index l.pieces)
