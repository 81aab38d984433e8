use Rattle.std.proofs.Common.{◌≡◌, drop}
use Rattle.dump_audit.specs.Judging.{is_among}
use Rattle.dump_audit.proofs.strays.is_among.Given as goal

abbrev pub invariant-loop-call : goal.invariant-loop-call
invariant-loop-call l =
    is_among l.number (record { dest = l.dest; request = l.request }) (drop l.call-index l.calls) l.numbers
    ≡ is_among l.number (record { dest = l.dest; request = l.request }) l.fn.calls l.fn.numbers
