use Rattle.std.proofs.Common.{◌∙◌, ap}
use Rattle.versioned_rows.proofs.BaseLemmas.{same_base}
use Rattle.versioned_rows.proofs.versions.Versions.write_at.Goals as goal

pub returns-in_err-writes-clause-base : goal.returns-in_err-writes-clause-base
returns-in_err-writes-clause-base c =
    same_base c.self.inside.rows.items c.take_writes.new.rows.items c.self.invariant.0.ordered c.take_writes.ensures.ordered c.take_writes.ensures.rows.bases ∙ ap (λ v. v.base) c.self.view_is

pub returns-clause-base : goal.returns-clause-base
returns-clause-base c =
    same_base c.self.inside.rows.items c.put_instead.new.rows.items c.self.invariant.0.ordered c.put_instead.ensures.indexed.ordered
    (λ t k. c.put_instead.ensures.rows.bases t k ∙ c.take_writes.ensures.rows.bases t k) ∙ ap (λ v. v.base) c.self.view_is
