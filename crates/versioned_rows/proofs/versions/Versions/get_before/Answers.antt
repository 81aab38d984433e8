use Rattle.std.proofs.Common.{◌≡◌, map, sym, ap, ◌∙◌}
use Rattle.std.specs.Option.{option_copied}
use Rattle.lang_core.specs.Places.{Place, place_of, same_place}
use Rattle.lang_core.specs.Rows.{get}
use Rattle.lang_core.proofs.ReadLemmas.{place_is}
use Rattle.place_order.specs.Rising.{IsRising}
use Rattle.key_labels.specs.Rows.{row_place}
use Rattle.key_labels.proofs.EditLemmas.{found_passes}
use Rattle.versioned_rows.specs.Places.{label_of}
use Rattle.versioned_rows.specs.Versions.{base_cells, rows_before_label}
use Rattle.versioned_rows.proofs.BaseLemmas.{get_base, ordered_base}
use Rattle.versioned_rows.proofs.CellLemmas.{nothing_read}
use Rattle.versioned_rows.proofs.HeldLemmas.{row_told}
use Rattle.versioned_rows.proofs.versions.Versions.get_before.Goals as goal

pub text_of_row-requires-clause-held : goal.text_of_row-requires-clause-held
text_of_row-requires-clause-held c =
    let t = c.args.table.now in
    let k = c.args.key.now in
    let rows = c.self.inside.rows.items in
    row_told c.args.self.now c.self.inside.places.items rows t k c.in-Some.row.now (ap (λ v. v.versions) c.self.view_is)
    (λ t k. ap (λ v. get v.base t k) (sym c.self.view_is) ∙ get_base rows c.self.invariant.0.ordered t k) c.self.invariant.0 (sym c.find_row.ensures ∙ ap option_copied c.in-Some.is)

pub returns-in-Some : goal.returns-in-Some
returns-in-Some c =
    let t = c.args.table.now in
    let k = c.args.key.now in
    let rows = c.self.inside.rows.items in
    let cells = rows_before_label c.args.order.now.labels c.args.label c.args.self.now in
    let r = c.in-Some.row.now in
    let p : row_place r ≡ place_of t k = place_is (row_place r) (place_of t k) (found_passes (λ q. same_place (row_place q) (place_of t k)) rows r (sym c.find_row.ensures ∙ ap option_copied c.in-Some.is)) in
    c.text_of_row.ensures ∙ ap (λ (q : Place). get cells q.table q.key) p

pub returns-in-None : goal.returns-in-None
returns-in-None c =
    let t = c.args.table.now in
    let k = c.args.key.now in
    let order = c.args.order.now.labels in
    let ps = c.self.inside.places.items in
    let rows = c.self.inside.rows.items in
    let o = c.self.invariant.0.ordered in
    let same : c.args.self.now.versions ≡ ps = sym (ap (λ v. v.versions) c.self.view_is) in
    let rising : IsRising order (map label_of ps) = rw same at c.requires.rising in
    let seen = ap (rows_before_label order c.args.label) c.self.view_is in
    sym (nothing_read order c.args.label (base_cells rows) ps rows (ordered_base rows o) (get_base rows o) c.self.invariant.0 rising (place_of t k) (sym c.find_row.ensures ∙ ap option_copied c.in-None.is))
    ∙ ap (λ cells. get cells t k) seen
