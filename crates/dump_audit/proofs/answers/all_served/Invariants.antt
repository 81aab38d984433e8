use Rattle.std.proofs.Common.{◌≡◌, drop}
use Rattle.dump_audit.specs.Judging.{all_served}
use Rattle.dump_audit.proofs.answers.all_served.Given as goal

abbrev pub invariant-loop-call : goal.invariant-loop-call
invariant-loop-call l =
    all_served l.services l.caller (drop l.call-index l.calls) l.numbers l.answers ≡ all_served l.services l.caller l.fn.calls l.fn.numbers l.fn.answers
