use Rattle.std.proofs.Common.{◌≡◌, [], true, false, sym, ap, ◌∙◌, get_or}
use Rattle.std.specs.Option.{option_map_or}
use Rattle.lang_core.specs.Places.{place_of, rank, is_taken}
use Rattle.lang_core.proofs.SeekLemmas.{find_some, find_none}
use Rattle.key_labels.specs.KeyRows.{in_order}
use Rattle.key_labels.specs.Rows.{row_place, labels_in}
use Rattle.key_labels.specs.declared.rows.KeyLabels.{KeyLabels}
use Rattle.key_labels.proofs.rows.labels_at.Goals as goal

pub returns-then-taken : goal.returns-then-taken
returns-then-taken c =
    let t = c.args.table.now in
    let k = c.args.key.now in
    let p = place_of t k in
    let rows = in_order c.rows.inside.order.items c.rows.inside.slots.items in
    let taken : is_taken row_place p rows ≡ true = sym c.rank_in-at.ensures.taken ∙ c.if-taken.true in
    let row = c.row_at.result.now in
    let is : row ≡ get_or rows (rank row_place p rows) row = c.row_at.ensures ∙ ap (λ i. get_or rows i row) c.rank_in-at.ensures.rank in
    c.labels.ensures ∙ sym (ap (λ o. option_map_or (λ (r : KeyLabels). r.labels.items) o []) (find_some row_place p rows row taken is)) ∙ ap (λ v. labels_in v.items t k) c.rows.view_is

pub returns-else-taken : goal.returns-else-taken
returns-else-taken c =
    let t = c.args.table.now in
    let k = c.args.key.now in
    let p = place_of t k in
    let rows = in_order c.rows.inside.order.items c.rows.inside.slots.items in
    let items = c.args.rows.now.items in
    let taken : is_taken row_place p items ≡ false = ap (λ v. is_taken row_place p v.items) (sym c.rows.view_is) ∙ sym c.rank_in-at.ensures.taken ∙ c.if-taken.false in
    sym (ap (λ o. option_map_or (λ (r : KeyLabels). r.labels.items) o []) (find_none row_place p items c.requires taken))
