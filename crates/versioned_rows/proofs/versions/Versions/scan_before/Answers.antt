use Rattle.std.proofs.Common.{◌≡◌, map, drop, sym, ap, ◌∙◌}
use Rattle.std.proofs.lemmas.Result.{IfOk-weaker}
use Rattle.lang_core.specs.Places.{place_of, rank}
use Rattle.lang_core.specs.Rows.{get, kept_from, scan}
use Rattle.place_order.specs.Rising.{IsRising}
use Rattle.versioned_rows.specs.Places.{label_of, rows_after, before}
use Rattle.key_labels.specs.Rows.{row_place}
use Rattle.versioned_rows.specs.Versions.{base_cells, rows_before_label}
use Rattle.versioned_rows.specs.Scans.{is_under, while, row_cells}
use Rattle.versioned_rows.proofs.CellLemmas.{scan_is}
use Rattle.versioned_rows.proofs.HeldLemmas.{all_rows}
use Rattle.versioned_rows.proofs.BaseLemmas.{get_base, ordered_base}
use Rattle.versioned_rows.proofs.versions.Versions.scan_before.Goals as goal

pub scanned-requires-clause-held : goal.scanned-requires-clause-held
scanned-requires-clause-held c =
    let rows = c.self.inside.rows.items in
    all_rows c.args.self.now c.self.inside.places.items rows (ap (λ v. v.versions) c.self.view_is) (λ t k. ap (λ v. get v.base t k) (sym c.self.view_is) ∙ get_base rows c.self.invariant.0.ordered t k) c.self.invariant.0

pub returns : goal.returns
returns c =
    let t = c.args.table.now in
    let prefix = c.args.prefix.now in
    let order = c.args.order.now.labels in
    let end = c.args.label in
    let base = base_cells c.self.inside.rows.items in
    let ps = c.self.inside.places.items in
    let rows = c.self.inside.rows.items in
    let from = c.rank-from.result in
    let same : c.args.self.now.versions ≡ ps = sym (ap (λ v. v.versions) c.self.view_is) in
    let rising : IsRising order (map label_of ps) = rw same at c.requires.rising in
    let rank_is : from ≡ rank row_place (place_of t prefix) rows = c.rank-from.ensures.rank in
    let cells = rows_after base (before order end ps) in
    let seen : rows_before_label order end c.args.self.now ≡ cells = sym (ap (rows_before_label order end) c.self.view_is) in
    let is =
    ap (λ cs. kept_from 0 0 (row_cells cs (while (is_under t prefix) (drop from rows)))) seen
    ∙ ap (λ n. kept_from 0 0 (row_cells cells (while (is_under t prefix) (drop n rows)))) rank_is
    ∙ scan_is order end base ps rows (ordered_base rows c.self.invariant.0.ordered) (get_base rows c.self.invariant.0.ordered) c.self.invariant.0 rising t prefix
    ∙ ap (λ cs. scan cs t prefix) (sym seen) in
    IfOk-weaker c.scanned.result
    (λ found. found ≡ kept_from 0 0 (row_cells (rows_before_label order end c.args.self.now) (while (is_under t prefix) (drop from rows))))
    (λ found. found ≡ scan (rows_before_label order end c.args.self.now) t prefix)
    (λ found h. h ∙ is) c.scanned.ensures
