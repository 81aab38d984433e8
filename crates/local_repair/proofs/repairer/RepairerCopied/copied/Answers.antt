use Rattle.std.proofs.Common.{rules}
use Rattle.local_repair.proofs.FoldLemmas.{kept_same}
use Rattle.local_repair.proofs.repairer.RepairerCopied.copied.Goals as goal

pub invariant_of-result : goal.invariant_of-result
invariant_of-result c =
    let inside = c.self.inside in
    let new = c.in_ok-log.indexes in
    kept_same inside.rows.base new.0.base inside.log.entries c.in_ok-log.log.entries inside.rows.writes new.0.writes inside.marks new.1 inside.calls
    (search rules) (search rules) (search rules) (search rules) (search rules) c.self.invariant
