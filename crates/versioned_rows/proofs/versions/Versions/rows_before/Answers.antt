use Rattle.std.proofs.Common.{◌≡◌, map, sym, ap, ◌∙◌}
use Rattle.std.proofs.lemmas.Result.{IfOk-weaker}
use Rattle.lang_core.specs.Rows.{get}
use Rattle.place_order.specs.Rising.{IsRising}
use Rattle.versioned_rows.specs.Places.{label_of}
use Rattle.versioned_rows.specs.Scans.{row_cells}
use Rattle.versioned_rows.specs.Versions.{base_cells, rows_before_label}
use Rattle.versioned_rows.proofs.BaseLemmas.{get_base, ordered_base}
use Rattle.versioned_rows.proofs.CellLemmas.{all_are}
use Rattle.versioned_rows.proofs.HeldLemmas.{all_rows}
use Rattle.versioned_rows.proofs.versions.Versions.rows_before.Goals as goal

pub all_cells-requires-clause-held : goal.all_cells-requires-clause-held
all_cells-requires-clause-held c =
    let rows = c.self.inside.rows.items in
    all_rows c.args.self.now c.self.inside.places.items rows (ap (λ v. v.versions) c.self.view_is) (λ t k. ap (λ v. get v.base t k) (sym c.self.view_is) ∙ get_base rows c.self.invariant.0.ordered t k) c.self.invariant.0

pub returns : goal.returns
returns c =
    let order = c.args.order.now.labels in
    let end = c.args.label in
    let ps = c.self.inside.places.items in
    let rows = c.self.inside.rows.items in
    let o = c.self.invariant.0.ordered in
    let same : c.args.self.now.versions ≡ ps = sym (ap (λ v. v.versions) c.self.view_is) in
    let rising : IsRising order (map label_of ps) = rw same at c.requires.rising in
    let seen = ap (rows_before_label order end) c.self.view_is in
    let all = all_are order end (base_cells rows) ps rows (ordered_base rows o) (get_base rows o) c.self.invariant.0 rising in
    IfOk-weaker c.all_cells.result _ _ (λ cells h. h ∙ ap (λ l. row_cells l rows) (sym seen) ∙ all ∙ seen) c.all_cells.ensures
