use Rattle.std.proofs.Common.{◌≡◌, ◌<◌, ◌+◌, ◌++◌, ◌∷◌, [], true, false, Some, length, drop, sym, ap, ◌∙◌, subst, arith, length-append}
use Rattle.std.proofs.lemmas.List.Elements.{All-get_or}
use Rattle.lang_core.specs.Rows.{is_over, cell_size, kept_from}
use Rattle.lang_core.specs.declared.cells.Cell.{Cell}
use Rattle.versioned_rows.specs.Versions.{rows_before_label, IsRowOf}
use Rattle.key_labels.specs.declared.rows.KeyLabels.{KeyLabels}
use Rattle.versioned_rows.specs.Scans.{is_under, while, cell_at, row_cells}
use Rattle.versioned_rows.proofs.CellLemmas.{next_ordered, last_cell, next_cell, no_cell, kept_ordered, drop_ordered, stops, stopped, past_all}
use Rattle.versioned_rows.proofs.versions.Versions.scanned.Goals as goal
use Rattle.versioned_rows.proofs.versions.Versions.scanned.Goals.{in-Some+in_ok-push-in-Some+else-is_too_much, in-None}

pub cell_before-requires-clause-held : goal.cell_before-requires-clause-held
cell_before-requires-clause-held c =
    let P : KeyLabels → Type 0 = IsRowOf c.args.self.now in
    let lt : c.loop-place.place < length c.args.rows.now.items = omega arith in
    subst P (sym c.at-row.ensures) (All-get_or P c.args.rows.now.items c.loop-place.place c.at-row.result.now lt c.requires.held)

pub returns-then-not-is_under : goal.returns-then-not-is_under
returns-then-not-is_under c =
    let t = c.args.table.now in
    let prefix = c.args.prefix.now in
    let cells = rows_before_label c.args.order.now.labels c.args.label c.args.self.now in
    let rows = c.args.rows.now.items in
    let i = c.loop-place.place in
    let lt : i < length rows = omega arith in
    stopped c.loop-place.kept _ _ c.loop-place.bytes (stops t prefix cells rows i c.at-row.result.now lt c.at-row.ensures (sym c.is_under.ensures ∙ c.if-not-is_under.true)) c.loop-place.invariant.rest

pub returns : goal.returns
returns c =
    let t = c.args.table.now in
    let prefix = c.args.prefix.now in
    let cells = rows_before_label c.args.order.now.labels c.args.label c.args.self.now in
    let rows = c.args.rows.now.items in
    stopped c.loop-place.kept _ _ c.loop-place.bytes (past_all t prefix cells rows c.loop-place.place (omega arith)) c.loop-place.invariant.rest

pub push-requires : goal.push-requires
push-requires c =
    let t = c.args.table.now in
    let prefix = c.args.prefix.now in
    let cells = rows_before_label c.args.order.now.labels c.args.label c.args.self.now in
    let rows = c.args.rows.now.items in
    let r = c.at-row.result.now in
    let i = c.loop-place.place in
    let kept = c.loop-place.kept in
    let bytes = c.loop-place.bytes in
    let lt : i < length rows = omega arith in
    let under : is_under t prefix r ≡ true = grind (arith, c.is_under.ensures, c.if-not-is_under.false) in
    let made : Cell = c.in-Some.cell in
    let cell : cell_at cells r ≡ Some made = sym c.in_ok-cell_before.ensures ∙ c.in-Some.is in
    next_ordered t prefix cells rows i r lt c.at-row.ensures under kept _ bytes c.loop-place.invariant.rest made cell (kept_ordered t prefix cells (drop c.args.from rows) (drop_ordered rows c.args.from c.requires.rows))

pub returns-then-is_too_much : goal.returns-then-is_too_much
returns-then-is_too_much c =
    let t = c.args.table.now in
    let prefix = c.args.prefix.now in
    let cells = rows_before_label c.args.order.now.labels c.args.label c.args.self.now in
    let rows = c.args.rows.now.items in
    let r = c.at-row.result.now in
    let i = c.loop-place.place in
    let kept = c.loop-place.kept in
    let bytes = c.loop-place.bytes in
    let lt : i < length rows = omega arith in
    let under : is_under t prefix r ≡ true = grind (arith, c.is_under.ensures, c.if-not-is_under.false) in
    let made : Cell = c.in-Some.cell in
    let cell : cell_at cells r ≡ Some made = sym c.in_ok-cell_before.ensures ∙ c.in-Some.is in
    let grown : c.push.new.self ≡ kept ++ made ∷ [] = c.in_ok-push-in-Some.ensures.ok in
    let count : c.len.result ≡ length kept + 1 = c.len.ensures ∙ ap length grown ∙ length-append kept (made ∷ []) in
    let size : c.len-key.result + c.len-text.result ≡ cell_size made = ap (λ n. n + c.len-text.result) c.len-key.ensures ∙ ap (λ n. length made.key + n) c.len-text.ensures in
    let over : is_over (length kept + 1) (bytes + cell_size made) ≡ true =
    sym (c.is_too_much.ensures.over ∙ ap (λ n. is_over n (bytes + (c.len-key.result + c.len-text.result))) count ∙ ap (λ n. is_over (length kept + 1) (bytes + n)) size) ∙ c.if-is_too_much.true in
    grown ∙ last_cell t prefix cells rows i r lt c.at-row.ensures under kept _ bytes c.loop-place.invariant.rest made cell over

pub loop-place-preserved : goal.loop-place-preserved
loop-place-preserved c =
    let t = c.args.table.now in
    let prefix = c.args.prefix.now in
    let cells = rows_before_label c.args.order.now.labels c.args.label c.args.self.now in
    let rows = c.args.rows.now.items in
    let r = c.at-row.result.now in
    let i = c.loop-place.place in
    let kept = c.loop-place.kept in
    let bytes = c.loop-place.bytes in
    let lt : i < length rows = omega arith in
    let under : is_under t prefix r ≡ true = grind (arith, c.is_under.ensures, c.if-not-is_under.false) in
    let later = row_cells cells (while (is_under t prefix) (drop (i + 1) rows)) in
    elim c.match-branch-2.branch [
      | in-Some+in_ok-push-in-Some+else-is_too_much w ↦ (
          let made : Cell = w.in-Some.cell in
          let cell : cell_at cells r ≡ Some made = sym c.in_ok-cell_before.ensures ∙ w.in-Some.is in
          let grown : w.push.new.self ≡ kept ++ made ∷ [] = w.in_ok-push-in-Some.ensures.ok in
          let count : w.len.result ≡ length kept + 1 = w.len.ensures ∙ ap length grown ∙ length-append kept (made ∷ []) in
          let size : w.len-key.result + w.len-text.result ≡ cell_size made = ap (λ n. n + w.len-text.result) w.len-key.ensures ∙ ap (λ n. length made.key + n) w.len-text.ensures in
          let over : is_over (length kept + 1) (bytes + cell_size made) ≡ false =
          sym (w.is_too_much.ensures.over ∙ ap (λ n. is_over n (bytes + (w.len-key.result + w.len-text.result))) count ∙ ap (λ n. is_over (length kept + 1) (bytes + n)) size) ∙ w.if-is_too_much.false in
          let few = w.is_too_much.ensures.few w.if-is_too_much.false in
          let now = w.bytes-is in
          record {
            few = omega arith;
            rest = ap (λ k. k ++ kept_from (length k) c.match-branch-2.bytes later) (w.kept-is ∙ grown)
                ∙ ap (λ b. (kept ++ made ∷ []) ++ kept_from (length (kept ++ made ∷ [])) b later) (w.bytes-is ∙ ap (λ n. bytes + n) size)
                ∙ next_cell t prefix cells rows i r lt c.at-row.ensures under kept _ bytes c.loop-place.invariant.rest made cell over;
          })
      | in-None w ↦ (let now = w.bytes-is in let few = c.loop-place.invariant.few in record {
        few = omega arith;
        rest = ap (λ k. k ++ kept_from (length k) c.match-branch-2.bytes later) w.kept-is
            ∙ ap (λ b. kept ++ kept_from (length kept) b later) w.bytes-is
            ∙ no_cell t prefix cells rows i r lt c.at-row.ensures under kept _ bytes c.loop-place.invariant.rest (sym c.in_ok-cell_before.ensures ∙ w.in-None.is);
      })
    ]
