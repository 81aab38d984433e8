use Rattle.std.proofs.Common.{◌≡◌, drop}
use Rattle.wire_fields.specs.Rows.{first_refusal}
use Rattle.wire_fields.proofs.rows.first_refusal.Given as goal

abbrev pub invariant-loop-header : goal.invariant-loop-header
invariant-loop-header l = first_refusal l.head l.wanted l.headers ≡ first_refusal l.head l.wanted (drop l.header-index l.headers)
