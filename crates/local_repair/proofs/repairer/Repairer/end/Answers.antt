use Rattle.std.proofs.Common.{ap, ◌∙◌, length, arith}
use Rattle.local_repair.specs.Current.{rows_after}
use Rattle.local_repair.specs.Repairs.{KeptRepairer}
use Rattle.local_repair.proofs.WrittenLemmas.{seen_end}
use Rattle.local_repair.proofs.repairer.Repairer.end.Goals as goal

pub returns : goal.returns
returns c =
    let many = ap length c.as_slice.ensures.entries in
    seen_end c.self.inside.rows c.self.inside.log.entries (length c.as_slice.result.now) (omega arith) c.self.invariant.tied
    ∙ ap (λ (k : KeptRepairer). rows_after k.base k.entries) c.self.view_is
