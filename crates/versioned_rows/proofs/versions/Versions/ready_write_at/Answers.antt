use Rattle.std.proofs.Common.{◌∙◌, ap}
use Rattle.versioned_rows.proofs.BaseLemmas.{same_base}
use Rattle.versioned_rows.proofs.versions.Versions.ready_write_at.Goals as goal

pub returns-clause-base : goal.returns-clause-base
returns-clause-base c =
    same_base c.self.inside.rows.items c.ready_writes.new.rows.items c.self.invariant.0.ordered c.ready_writes.ensures.ordered c.ready_writes.ensures.rows.bases ∙ ap (λ v. v.base) c.self.view_is
