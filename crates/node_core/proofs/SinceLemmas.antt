-- How many rows of a kind a journal has since it had so many rows.
use Rattle.std.proofs.Common.{◌≡◌, ◌+◌, ◌≤◌, ℕ, Bool, List, drop, filter, length, take, ap, ◌∙◌, sym, arith, length-append}
use Rattle.std.proofs.lemmas.List.{drop_all, take-append-drop, take-append-le}
use Rattle.std.proofs.lemmas.List.Elements.{filter-append}
use Rattle.journal_rows.specs.declared.row.Row.{Row}
use Rattle.service_events.specs.Commits.{is_live_row}
use Rattle.service_events.specs.State.{Kept}
use Rattle.service_events.proofs.CallLaws.{Grows}
use Rattle.node_core.specs.Closings.{kind_since, told_since}
use Rattle.node_core.specs.Orders.{is_order_row}

module _ (kind : Row → Bool) where
  abbrev count : List Row → ℕ
  count rows = length (filter kind rows)

  -- none, where it has no more
  kind_none : (first : ℕ) (s : Kept) → first ≡ length s.journal → kind_since kind first s ≡ 0
  kind_none first s all = ap count (drop_all first s.journal (omega (arith, all)))

  -- those before and those since
  in_two : (first : ℕ) (rows : List Row) → count rows ≡ count (take first rows) + count (drop first rows)
  in_two first rows =
      ap count (sym (take-append-drop first rows))
      ∙ ap length (filter-append kind (take first rows) (drop first rows))
      ∙ length-append (filter kind (take first rows)) (filter kind (drop first rows))

  -- where it grows by so many of the kind, it has so many more since then
  pub since_grown : (first more : ℕ) (s t : Kept) → first ≤ length s.journal → Grows s t → count t.journal ≡ count s.journal + more
      → kind_since kind first t ≡ kind_since kind first s + more
  since_grown first more s t within grows counts =
      let front : take first t.journal ≡ take first s.journal = ap (take first) grows.is ∙ take-append-le first s.journal grows.rows within in
      let old = in_two first s.journal in
      let new = in_two first t.journal in
      let same = ap count front in
      omega (arith, old, new, same, counts)

-- it answers and orders nothing, where it has no more
pub none_since : (first amount : ℕ) (s : Kept) → first ≡ length s.journal → amount ≡ 0 → amount ≡ told_since first s
none_since first amount s all none =
    let lives = kind_none is_live_row first s all in
    let orders = kind_none is_order_row first s all in
    omega (arith, none, lives, orders)

-- it has no fewer rows
pub within_grown : (first : ℕ) (s t : Kept) → first ≤ length s.journal → Grows s t → first ≤ length t.journal
within_grown first s t within grows =
    let size = ap length grows.is ∙ length-append s.journal grows.rows in
    omega (arith, within, size)
