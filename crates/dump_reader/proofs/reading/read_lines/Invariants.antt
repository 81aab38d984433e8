use Rattle.std.proofs.Common.{◌≡◌, ◌+◌, ◌≤◌, length}
use Rattle.dump_reader.specs.Reading.{lines_of, with_lines}
use Rattle.dump_reader.proofs.reading.read_lines.Given as goal

abbrev pub invariant-loop-rest : goal.invariant-loop-rest
invariant-loop-rest l = record {
  rest : with_lines l.services l.stage l.n (lines_of l.rest) ≡ with_lines l.fn.services l.fn.stage 1 (lines_of l.bytes);
  room : l.n + length l.rest ≤ length l.bytes + 1;
}

abbrev pub decreases-loop-rest : goal.decreases-loop-rest
decreases-loop-rest l = length l.rest
