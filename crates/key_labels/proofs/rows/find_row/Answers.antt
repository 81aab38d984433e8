use Rattle.std.proofs.Common.{sym, ap}
use Rattle.key_labels.proofs.EditLemmas.{row_found}
use Rattle.key_labels.proofs.KeyRowLemmas.{none_row, stands_in}
use Rattle.key_labels.proofs.rows.find_row.Goals as goal

pub returns-in-Ok : goal.returns-in-Ok
returns-in-Ok c =
    let s = stands_in (ap (λ v. v.items) c.rows.view_is) c.rows.invariant c.requires c.in-Ok.ensures c.index.ensures in
    sym (row_found s.stands)

pub returns-in-Err : goal.returns-in-Err
returns-in-Err c = sym (none_row (ap (λ v. v.items) c.rows.view_is) c.requires c.in-Err.ensures)
