use Rattle.std.proofs.Common.{◌≡◌, ◌+◌, ◌≤◌, length, drop}
use Rattle.script_run.specs.Plays.{lines_of}
use Rattle.script_run.proofs.Standing.{Stands}
use Rattle.script_run.proofs.script.run_script.Given as goal

abbrev pub invariant-loop-bytes : goal.invariant-loop-bytes
invariant-loop-bytes g l = record {
  stands : Stands l.initial.world l.script l.number l.world l.counts (g.K.Sink.writes l.initial.out) (g.K.Sink.writes l.out);
  left : drop l.number (lines_of l.script) ≡ lines_of l.left;
  room : l.number + length l.left ≤ length l.script;
  counted : (g.K.Sink.writes l.initial.out).faults ≤ (g.K.Sink.writes l.out).faults;
}

abbrev pub decreases-loop-bytes : goal.decreases-loop-bytes
decreases-loop-bytes g l = length l.left
