use Rattle.std.proofs.Common.{◌≡◌, ◌≤◌, ◌-◌, length, vec_len}
use Rattle.io_edge.specs.Edge.{Took}
use Rattle.io_edge.proofs.whole.read_all.Given as goal

abbrev pub invariant-loop-bytes : goal.invariant-loop-bytes
invariant-loop-bytes g l = record {
  took : Took (g.S.Source.reads l.initial.source) (g.S.Source.reads l.source) l.bytes.items;
  whole : (g.S.Source.reads l.source).whole ≡ (g.S.Source.reads l.initial.source).whole;
  beside : g.S.Source.beside l.source ≡ g.S.Source.beside l.initial.source;
  within : vec_len l.bytes ≤ l.limit;
  piece : length l.piece ≡ 4096;
  counted : (g.S.Source.reads l.initial.source).faults ≤ (g.S.Source.reads l.source).faults;
}

abbrev pub decreases-loop-bytes : goal.decreases-loop-bytes
decreases-loop-bytes g l = l.limit - vec_len l.bytes
