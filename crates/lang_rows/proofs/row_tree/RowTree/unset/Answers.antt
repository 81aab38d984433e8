use Rattle.std.proofs.Common.{List, ap, ◌∙◌}
use Rattle.lang_core.specs.Places.{place_of, unset_in}
use Rattle.lang_core.specs.Rows.{cell_place}
use Rattle.lang_core.specs.declared.cells.Cell.{Cell}
use Rattle.lang_rows.specs.RowTrees.{cells_of}
use Rattle.lang_rows.proofs.RowTreeLemmas.{unset_so}
use Rattle.lang_rows.proofs.row_tree.RowTree.unset.Goals as goal

pub returns : goal.returns
returns c =
    ap cells_of c.remove-old.ensures.entries
    ∙ unset_so c.args.spot.now c.self.inside.texts.entries c.len.ensures.ordered
    ∙ ap (λ (cells : List Cell). unset_in cell_place (place_of c.args.spot.now.table c.args.spot.now.key) cells) c.self.view_is
