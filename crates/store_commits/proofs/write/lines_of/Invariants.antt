use Rattle.std.proofs.Common.{◌≡◌, ◌+◌, ◌∷◌, map, take}
use Rattle.store_lines.specs.Seals.{spelled_from}
use Rattle.store_lines.specs.declared.piece.Piece.TheVariants.{Text}
use Rattle.store_commits.proofs.write.lines_of.Given as goal

abbrev pub invariant-loop-text : goal.invariant-loop-text
invariant-loop-text l = record {
  number : l.number ≡ l.at + 1 + l.text-index;
  batch : l.batch ≡ spelled_from l.at (l.mark ∷ map Text (take l.text-index l.texts));
}
