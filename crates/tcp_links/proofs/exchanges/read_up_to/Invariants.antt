use Rattle.std.proofs.Common.{◌≡◌, ◌≤◌, ◌-◌, length, vec_len}
use Rattle.io_edge.specs.Edge.{Took}
use Rattle.tcp_links.proofs.exchanges.read_up_to.Given as goal

abbrev pub invariant-loop-piece : goal.invariant-loop-piece
invariant-loop-piece g l = record {
  took : Took (g.S.Source.reads l.initial.source) (g.S.Source.reads l.source) l.bytes.items;
  whole : (g.S.Source.reads l.source).whole ≡ (g.S.Source.reads l.initial.source).whole;
  beside : g.S.Source.beside l.source ≡ g.S.Source.beside l.initial.source;
  within : vec_len l.bytes ≤ l.limit;
  piece : length l.piece ≡ 4096;
  counted : (g.S.Source.reads l.initial.source).faults ≤ (g.S.Source.reads l.source).faults;
}

abbrev pub decreases-loop-piece : goal.decreases-loop-piece
decreases-loop-piece g l = l.limit - vec_len l.bytes
