use Rattle.std.proofs.Common.{List, ap, ◌∙◌}
use Rattle.std.proofs.lemmas.Result.{IfOk-weaker}
use Rattle.lang_core.specs.Rows.{is_beneath, kept_from, scan}
use Rattle.lang_core.specs.declared.cells.Cell.{Cell}
use Rattle.lang_rows.proofs.RowTreeLemmas.{filter_twice}
use Rattle.lang_rows.proofs.row_tree.RowTreeView.scan.Goals as goal

pub returns : goal.returns
returns c =
    IfOk-weaker c.row_scan.result _ _
    (λ found e.
    e
    ∙ ap (λ (cells : List Cell). scan cells c.args.table.now c.args.prefix.now) c.in_ok-cells.ensures
    ∙ ap (kept_from 0 0) (filter_twice (is_beneath c.args.table.now c.args.prefix.now) c.args.self.now))
    c.row_scan.ensures
