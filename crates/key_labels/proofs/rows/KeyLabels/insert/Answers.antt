use Rattle.std.proofs.Common.{arith}
use Rattle.key_labels.proofs.EditLemmas.{ok_is}
use Rattle.key_labels.proofs.rows.KeyLabels.insert.Goals as goal

pub returns-clause-labels : goal.returns-clause-labels
returns-clause-labels c =
    let room = c.requires.room in
    ok_is c.insert.result _ _ _ (c.insert.ensures.succeeds (omega (arith, room))) c.insert.ensures.items
