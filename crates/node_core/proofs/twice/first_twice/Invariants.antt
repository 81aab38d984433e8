use Rattle.std.proofs.Common.{◌≡◌, map, take}
use Rattle.node_core.specs.Closings.{row_key}
use Rattle.node_core.proofs.ApartLemmas.{ApartBelow}
use Rattle.node_core.proofs.twice.first_twice.Given as goal

abbrev pub invariant-loop-at : goal.invariant-loop-at
invariant-loop-at g l = record {
  keys : l.keys.keys ≡ map (row_key g.T.OfRow.service g.T.OfRow.index) (take l.at l.items);
  apart : ApartBelow g.T.OfRow.service g.T.OfRow.index l.at l.items;
}
