use Rattle.std.proofs.Common.{◌≡◌, ◌≤◌, ◌-◌, ℕ, false, take, length, vec_len}
use Rattle.io_edge.specs.Edge.{Took}
use Rattle.std.specs.List.{list_any}
use Rattle.http_front.specs.Ends.{ends_head, is_of_line}
use Rattle.http_front.proofs.reading.read_head.Given as goal

abbrev pub invariant-loop-source : goal.invariant-loop-source
invariant-loop-source g l = record {
  took : Took (g.S.Source.reads l.initial.source) (g.S.Source.reads l.source) l.head.items;
  unended : (n : ℕ) → n ≤ length l.head.items → ends_head (take n l.head.items) ≡ false;
  within : vec_len l.head ≤ 16384;
  begun : l.begun ≡ list_any is_of_line l.head.items;
  whole : (g.S.Source.reads l.source).whole ≡ (g.S.Source.reads l.initial.source).whole;
  beside : g.S.Source.beside l.source ≡ g.S.Source.beside l.initial.source;
  counted : (g.S.Source.reads l.initial.source).faults ≤ (g.S.Source.reads l.source).faults;
}

abbrev pub decreases-loop-source : goal.decreases-loop-source
decreases-loop-source g l = 16384 - vec_len l.head
