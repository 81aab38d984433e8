use Rattle.std.proofs.Common.{List, ap, ◌∙◌}
use Rattle.lang_core.specs.Places.{set_in}
use Rattle.lang_core.specs.Rows.{cell_place}
use Rattle.lang_core.specs.declared.cells.Cell.{Cell}
use Rattle.lang_rows.specs.RowTrees.{cell_of, cells_of}
use Rattle.lang_rows.proofs.RowTreeLemmas.{set_so}
use Rattle.lang_rows.proofs.row_tree.RowTree.set.Goals as goal

pub returns : goal.returns
returns c =
    ap cells_of c.in_ok-insert.ensures.entries
    ∙ set_so c.args.spot c.args.text c.self.inside.texts.entries
    ∙ ap (λ (cells : List Cell). set_in cell_place (cell_of (c.args.spot, c.args.text)) cells) c.self.view_is
