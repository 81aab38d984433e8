use Rattle.std.proofs.Common.{◌≡◌, ◌<◌, ◌≤◌, ◌∙◌, ℕ, List, length, subst, arith}
use Rattle.lang_core.specs.Places.{Place, place_of}
use Rattle.key_labels.specs.Rows.{spare_in}
use Rattle.versioned_rows.proofs.WriteLemmas.{keys_more}
use Rattle.key_labels.proofs.EditLemmas.{keeps_both}
use Rattle.versioned_rows.proofs.rows.make_rows.Goals as goal

place_at : (p : Place) (t k : List ℕ) → t ≡ p.table → k ≡ p.key → place_of t k ≡ p
place_at p t k e f = λ i. record { table = e i; key = f i }

pub loop-item-preserved : goal.loop-item-preserved
loop-item-preserved g c =
    let place = g.T.Placed.place in
    let xs = c.args.items.now in
    let x = c.item-item.result in
    let i = c.loop-item.item-index in
    let before = c.loop-item.rows.items in
    let after = c.make_row.new.rows.items in
    let lt : i < length xs = omega arith in
    let S : Place → Type 0 = λ q. c.args.spare ≤ spare_in after q.table q.key in
    let there = place_at (place x) c.table.result.now c.key.result.now c.table.ensures c.key.ensures in
    record {
      ordered = c.make_row.ensures.ordered;
      each = λ t k. c.make_row.ensures.each t k ∙ c.loop-item.invariant.each t k;
      kept = λ t k. let a = c.make_row.ensures.kept t k in let b = c.loop-item.invariant.kept t k in omega arith;
      rows = keeps_both c.args.rows.now.items before after c.loop-item.invariant.rows c.make_row.ensures.rows;
      spare = keys_more place xs i x lt c.item-item.is S
          (λ t k h. let a = c.loop-item.invariant.spare t k h in let b = c.make_row.ensures.kept t k in omega arith)
          (subst S there c.in_ok-make_row.ensures.spare);
    }
