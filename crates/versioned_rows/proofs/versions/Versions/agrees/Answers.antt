use Rattle.std.proofs.Common.{◌≡◌, ◌<◌, ◌+◌, ◌++◌, ◌∷◌, [], true, false, Some, List, length, get_or, take, drop, sym, ap, ◌∙◌, subst, arith}
use Rattle.std.specs.Option.{option_map, option_copied}
use Rattle.std.proofs.lemmas.List.{length-take-le}
use Rattle.std.proofs.lemmas.List.Elements.{All-get_or}
use Rattle.lang_core.specs.Rows.{is_over, cell_size, kept_from}
use Rattle.lang_core.specs.declared.cells.Cell.{Cell}
use Rattle.versioned_rows.specs.Versions.{rows_before_label, IsRowOf}
use Rattle.key_labels.specs.declared.rows.KeyLabels.{KeyLabels}
use Rattle.versioned_rows.specs.Scans.{is_under, while, cell_at, row_cells}
use Rattle.versioned_rows.proofs.AgreeLemmas.{take_next, whole}
use Rattle.versioned_rows.proofs.CellLemmas.{last_cell, next_cell, no_cell, comes_next, stops, stopped, past_all}
use Rattle.versioned_rows.proofs.versions.Versions.agrees.Goals as goal
use Rattle.versioned_rows.proofs.versions.Versions.agrees.Goals.{in-None, in-Some+else-not-is_next+else-is_too_much}

pub text_of_row-requires-clause-held : goal.text_of_row-requires-clause-held
text_of_row-requires-clause-held c =
    let P : KeyLabels → Type 0 = IsRowOf c.args.self.now in
    let lt : c.loop-place.place < length c.args.rows.now.items = omega arith in
    subst P (sym c.at-row.ensures) (All-get_or P c.args.rows.now.items c.loop-place.place c.at-row.result.now lt c.requires.held)

pub returns-then-not-is_under : goal.returns-then-not-is_under
returns-then-not-is_under c =
    let t = c.args.table.now in
    let prefix = c.args.prefix.now in
    let cells = rows_before_label c.args.order.now.labels c.args.label c.args.self.now in
    let rows = c.args.rows.now.items in
    let found = c.args.found.now in
    let i = c.loop-place.place in
    let n = c.loop-place.n in
    let lt : i < length rows = omega arith in
    whole found _ n c.loop-place.invariant.within
    (stopped (take n found) _ _ c.loop-place.bytes (stops t prefix cells rows i c.at-row.result.now lt c.at-row.ensures (sym c.is_under.ensures ∙ c.if-not-is_under.true)) c.loop-place.invariant.rest)

pub returns : goal.returns
returns c =
    let t = c.args.table.now in
    let prefix = c.args.prefix.now in
    let cells = rows_before_label c.args.order.now.labels c.args.label c.args.self.now in
    let rows = c.args.rows.now.items in
    let found = c.args.found.now in
    let n = c.loop-place.n in
    whole found _ n c.loop-place.invariant.within
    (stopped (take n found) _ _ c.loop-place.bytes (past_all t prefix cells rows c.loop-place.place (omega arith)) c.loop-place.invariant.rest)

pub returns-then-not-is_next : goal.returns-then-not-is_next
returns-then-not-is_next c =
    let t = c.args.table.now in
    let prefix = c.args.prefix.now in
    let cells = rows_before_label c.args.order.now.labels c.args.label c.args.self.now in
    let rows = c.args.rows.now.items in
    let found = c.args.found.now in
    let r = c.at-row.result.now in
    let i = c.loop-place.place in
    let n = c.loop-place.n in
    let lt : i < length rows = omega arith in
    let under : is_under t prefix r ≡ true = grind (arith, c.is_under.ensures, c.if-not-is_under.false) in
    let made : Cell = record { table = r.table; key = r.key; text = c.in-Some.text.now } in
    let cell : cell_at cells r ≡ Some made = ap (option_map (λ x. record { table = r.table; key = r.key; text = x })) (sym c.text_of_row.ensures ∙ ap option_copied c.in-Some.is) in
    let count : length (take n found) ≡ n = length-take-le n found c.loop-place.invariant.within in
    let next = comes_next t prefix cells rows i r lt c.at-row.ensures under (take n found) _ c.loop-place.bytes c.loop-place.invariant.rest made cell n count in
    let P : List Cell → Type 0 = λ l. (n < length l) × ((d : Cell) → get_or l n d ≡ made) in
    (λ never. cc, λ same. sym c.if-not-is_next.true ∙ c.is_next.ensures.1 (subst P (sym same) next))

pub returns-then-is_too_much : goal.returns-then-is_too_much
returns-then-is_too_much c =
    let t = c.args.table.now in
    let prefix = c.args.prefix.now in
    let cells = rows_before_label c.args.order.now.labels c.args.label c.args.self.now in
    let rows = c.args.rows.now.items in
    let found = c.args.found.now in
    let r = c.at-row.result.now in
    let i = c.loop-place.place in
    let n = c.loop-place.n in
    let bytes = c.loop-place.bytes in
    let lt : i < length rows = omega arith in
    let under : is_under t prefix r ≡ true = grind (arith, c.is_under.ensures, c.if-not-is_under.false) in
    let made : Cell = record { table = r.table; key = r.key; text = c.in-Some.text.now } in
    let cell : cell_at cells r ≡ Some made = ap (option_map (λ x. record { table = r.table; key = r.key; text = x })) (sym c.text_of_row.ensures ∙ ap option_copied c.in-Some.is) in
    let next = c.is_next.ensures.0 c.if-not-is_next.false in
    let front : take (n + 1) found ≡ take n found ++ made ∷ [] = take_next found n made next.0 (next.1 made) in
    let count : length (take n found) ≡ n = length-take-le n found c.loop-place.invariant.within in
    let size : c.key_len.result + c.len.result ≡ cell_size made = ap (λ m. m + c.len.result) c.key_len.ensures ∙ ap (λ m. length made.key + m) c.len.ensures in
    let over : is_over (length (take n found) + 1) (bytes + cell_size made) ≡ true =
    ap (λ m. is_over (m + 1) (bytes + cell_size made)) count ∙ sym (c.is_too_much.ensures.over ∙ ap (λ m. is_over (n + 1) (bytes + m)) size) ∙ c.if-is_too_much.true in
    whole found _ (n + 1) (let a = next.0 in omega arith) (front ∙ last_cell t prefix cells rows i r lt c.at-row.ensures under (take n found) _ bytes c.loop-place.invariant.rest made cell over)

pub loop-place-preserved : goal.loop-place-preserved
loop-place-preserved c =
    let t = c.args.table.now in
    let prefix = c.args.prefix.now in
    let cells = rows_before_label c.args.order.now.labels c.args.label c.args.self.now in
    let rows = c.args.rows.now.items in
    let found = c.args.found.now in
    let r = c.at-row.result.now in
    let i = c.loop-place.place in
    let n = c.loop-place.n in
    let bytes = c.loop-place.bytes in
    let lt : i < length rows = omega arith in
    let under : is_under t prefix r ≡ true = grind (arith, c.is_under.ensures, c.if-not-is_under.false) in
    let later = row_cells cells (while (is_under t prefix) (drop (i + 1) rows)) in
    elim c.match-text_of_row.branch [
      | in-Some+else-not-is_next+else-is_too_much w ↦ (
          let made : Cell = record { table = r.table; key = r.key; text = w.in-Some.text.now } in
          let cell : cell_at cells r ≡ Some made = ap (option_map (λ x. record { table = r.table; key = r.key; text = x })) (sym c.text_of_row.ensures ∙ ap option_copied w.in-Some.is) in
          let next = w.is_next.ensures.0 w.if-not-is_next.false in
          let front : take (n + 1) found ≡ take n found ++ made ∷ [] = take_next found n made next.0 (next.1 made) in
          let count : length (take n found) ≡ n = length-take-le n found c.loop-place.invariant.within in
          let size : w.key_len.result + w.len.result ≡ cell_size made = ap (λ m. m + w.len.result) w.key_len.ensures ∙ ap (λ m. length made.key + m) w.len.ensures in
          let again : w.key_len-in-Some.result + w.len-in-Some.result ≡ cell_size made = ap (λ m. m + w.len-in-Some.result) w.key_len-in-Some.ensures ∙ ap (λ m. length made.key + m) w.len-in-Some.ensures in
          let over : is_over (length (take n found) + 1) (bytes + cell_size made) ≡ false =
          ap (λ m. is_over (m + 1) (bytes + cell_size made)) count ∙ sym (w.is_too_much.ensures.over ∙ ap (λ m. is_over (n + 1) (bytes + m)) size) ∙ w.if-is_too_much.false in
          let few = w.is_too_much.ensures.few w.if-is_too_much.false in
          let now = w.bytes-is in
          let n_is = w.n-is in
          let in_it = next.0 in
          record {
            few = omega arith;
            within = omega arith;
            rest = ap (λ m. take m found ++ kept_from (length (take m found)) c.match-text_of_row.bytes later) w.n-is
                ∙ ap (λ k. k ++ kept_from (length k) c.match-text_of_row.bytes later) front
                ∙ ap (λ b. (take n found ++ made ∷ []) ++ kept_from (length (take n found ++ made ∷ [])) b later) (w.bytes-is ∙ ap (λ m. bytes + m) again)
                ∙ next_cell t prefix cells rows i r lt c.at-row.ensures under (take n found) _ bytes c.loop-place.invariant.rest made cell over;
          })
      | in-None w ↦ (let now = w.bytes-is in let n_is = w.n-is in let few = c.loop-place.invariant.few in let in_it = c.loop-place.invariant.within in record {
        few = omega arith;
        within = omega arith;
        rest = ap (λ m. take m found ++ kept_from (length (take m found)) c.match-text_of_row.bytes later) w.n-is
            ∙ ap (λ b. take n found ++ kept_from (length (take n found)) b later) w.bytes-is
            ∙ no_cell t prefix cells rows i r lt c.at-row.ensures under (take n found) _ bytes c.loop-place.invariant.rest
            (ap (option_map (λ x. record { table = r.table; key = r.key; text = x })) (sym c.text_of_row.ensures ∙ ap option_copied w.in-None.is));
      })
    ]
