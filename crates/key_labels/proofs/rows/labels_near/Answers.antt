use Rattle.std.proofs.Common.{sym, ap, ◌∙◌}
use Rattle.key_labels.proofs.EditLemmas.{labels_here}
use Rattle.key_labels.proofs.KeyRowLemmas.{stands_in, none_labels}
use Rattle.key_labels.proofs.rows.labels_near.Goals as goal

pub returns-in-Ok : goal.returns-in-Ok
returns-in-Ok c =
    let s = stands_in (ap (λ v. v.items) c.rows.view_is) c.rows.invariant c.requires c.in-Ok.ensures c.index.ensures in
    c.labels.ensures ∙ sym (labels_here s.stands)

pub returns-in-Err : goal.returns-in-Err
returns-in-Err c = sym (none_labels (ap (λ v. v.items) c.rows.view_is) c.requires c.in-Err.ensures)
