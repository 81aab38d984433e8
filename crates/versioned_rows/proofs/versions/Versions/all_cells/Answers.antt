use Rattle.std.proofs.Common.{◌≡◌, ◌<◌, ◌++◌, ◌∷◌, [], Some, None, List, length, take, sym, ap, ◌∙◌, subst, arith}
use Rattle.std.proofs.lemmas.List.{append-nil}
use Rattle.lang_core.specs.Places.{IsOrdered}
use Rattle.lang_core.specs.Rows.{cell_place}
use Rattle.lang_core.specs.declared.cells.Cell.{Cell}
use Rattle.versioned_rows.specs.Scans.{cell_at, row_cells}
use Rattle.versioned_rows.specs.Versions.{rows_before_label}
use Rattle.versioned_rows.proofs.CellLemmas.{cells_more, cells_rise}
use Rattle.versioned_rows.proofs.versions.Versions.all_cells.Goals as goal
use Rattle.versioned_rows.proofs.versions.Versions.all_cells.Goals.{in-None, in-Some+in_ok-push-in-Some}

pub push-requires : goal.push-requires
push-requires c =
    let from = rows_before_label c.args.order.now.labels c.args.label c.args.self.now in
    let rows = c.args.rows.now.items in
    let i = c.loop-place.place in
    let r = c.at.result.now in
    let lt : i < length rows = omega arith in
    let made : Cell = c.in-Some.cell in
    let cell : cell_at from r ≡ Some made = sym c.in_ok-cell_before.ensures ∙ c.in-Some.is in
    let P : List Cell → Type 0 = λ l. IsOrdered cell_place (l ++ made ∷ []) in
    subst P (sym c.loop-place.invariant) (cells_rise from rows i r lt c.at.ensures c.requires.rows made cell)

pub loop-place-preserved : goal.loop-place-preserved
loop-place-preserved c =
    let from = rows_before_label c.args.order.now.labels c.args.label c.args.self.now in
    let rows = c.args.rows.now.items in
    let i = c.loop-place.place in
    let r = c.at.result.now in
    let lt : i < length rows = omega arith in
    elim c.match-branch-2.branch [
      | in-Some+in_ok-push-in-Some w ↦ (w.cells-is ∙ w.in_ok-push-in-Some.ensures.ok ∙ ap (λ l. l ++ w.in-Some.cell ∷ []) c.loop-place.invariant
          ∙ sym (cells_more from rows i r lt c.at.ensures (Some w.in-Some.cell) (sym c.in_ok-cell_before.ensures ∙ w.in-Some.is)))
      | in-None w ↦ (w.cells-is ∙ c.loop-place.invariant ∙ sym (append-nil (row_cells from (take i rows)))
          ∙ sym (cells_more from rows i r lt c.at.ensures None (sym c.in_ok-cell_before.ensures ∙ w.in-None.is)))
    ]
