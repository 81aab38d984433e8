use Rattle.std.proofs.Common.{List, Some, ap, sym, ◌∙◌}
use Rattle.std.specs.Option.{option_copied}
use Rattle.lang_core.specs.Rows.{get}
use Rattle.lang_core.specs.declared.cells.Cell.{Cell}
use Rattle.lang_rows.specs.declared.spot.Spot.{Spot}
use Rattle.lang_rows.proofs.RowTreeLemmas.{found_so}
use Rattle.lang_rows.proofs.row_tree.RowTreeView.key.Goals as goal

pub returns-in-None : goal.returns-in-None
returns-in-None c =
    sym (ap option_copied c.in-None.is) ∙ c.get.ensures.value ∙ found_so c.in_ok-spot.spot c.self.inside.texts.entries
    ∙ ap (λ (cells : List Cell). get cells c.in_ok-spot.spot.table c.in_ok-spot.spot.key) c.self.view_is
    ∙ ap (λ (s : Spot). get c.args.self.now s.table s.key) c.in_ok-spot.ensures

pub returns : goal.returns
returns c =
    ap Some c.in_ok-copied-in-Some.ensures
    ∙ sym (ap option_copied c.in-Some.is) ∙ c.get.ensures.value ∙ found_so c.in_ok-spot.spot c.self.inside.texts.entries
    ∙ ap (λ (cells : List Cell). get cells c.in_ok-spot.spot.table c.in_ok-spot.spot.key) c.self.view_is
    ∙ ap (λ (s : Spot). get c.args.self.now s.table s.key) c.in_ok-spot.ensures
