use Rattle.std.proofs.Common.{ℕ, ◌<◌, ap, sym, arith}
use Rattle.dump_tables.specs.Indexed.{from_end}
use Rattle.dump_tables.proofs.IndexLemmas.{from_there}
use Rattle.dump_tables.proofs.entries.from_end.Goals as goal

pub returns-then-end-eq0 : goal.returns-then-end-eq0
returns-then-end-eq0 c = ap (λ (n : ℕ). from_end n c.args.entries.now) (sym c.if-end-eq0.true)

pub returns-else-end-eq0 : goal.returns-else-end-eq0
returns-else-end-eq0 c =
    let some : 0 < c.args.end = omega (arith, c.if-end-eq0.false) in
    from_there c.args.entries.now c.args.end some
