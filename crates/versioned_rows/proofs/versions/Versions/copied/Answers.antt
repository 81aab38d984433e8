use Rattle.std.proofs.Common.{◌∙◌, ap}
use Rattle.versioned_rows.proofs.BaseLemmas.{same_base}
use Rattle.versioned_rows.proofs.versions.Versions.copied.Goals as goal

pub returns-clause-base : goal.returns-clause-base
returns-clause-base c =
    same_base c.self.inside.rows.items c.in_ok-rows.rows.items c.self.invariant.0.ordered c.in_ok-rows.ensures.ordered c.in_ok-rows.ensures.rows.bases ∙ ap (λ v. v.base) c.self.view_is
