use Rattle.std.proofs.Common.{◌≡◌, ◌+◌, ◌-◌, ◌%◌, ◌++◌, ◌≤◌, string_bytes}
use Rattle.script_make.specs.Making.{cancel_lines}
use Rattle.script_make.proofs.making.push_cancels.Given as goal

abbrev pub invariant-loop-number : goal.invariant-loop-number
invariant-loop-number l = record {
  within : l.number ≤ l.n;
  rest : string_bytes l.text ++ cancel_lines (l.n - l.number) (l.number + 1) l.words.x ≡ string_bytes l.initial.text ++ cancel_lines l.n 1 (l.seed % 65537);
}

abbrev pub decreases-loop-number : goal.decreases-loop-number
decreases-loop-number l = l.n - l.number
