use Rattle.std.proofs.Common.{ℕ, ◌-◌, ◌≤◌, false, List, None, take, get_or, nat_eq, sym, ap, ◌∙◌, arith}
use Rattle.std.proofs.lemmas.List.{length-take}
use Rattle.lang_lists.specs.Ends.{last_end}
use Rattle.lang_lists.specs.Keys.{text_key}
use Rattle.lang_lists.proofs.HashEndLemmas.{last_end-within}
use Rattle.lang_lists.proofs.SearchLemmas.{sought_first, sought_next}
use Rattle.journal_rows.specs.Keys.{row_key}
use Rattle.journal_rows.specs.Words.{order_step}
use Rattle.journal_rows.proofs.KeyLemmas.{lent, order_quiet, order_passed}
use Rattle.journal_rows.proofs.words.ordered.Goals as goal

pub loop-end-init : goal.loop-end-init
loop-end-init c =
    sought_first row_key (order_step c.args.token.now) (text_key c.args.token.now) (order_quiet c.args.token.now) None c.args.rows.now c.end_of-end.result
    (c.end_of-end.ensures
    ∙ ap (λ k. last_end (nat_eq k) c.args.index.now.keys) c.text_key.ensures
    ∙ ap (last_end (nat_eq (text_key c.args.token.now))) c.requires)

pub loop-end-smaller : goal.loop-end-smaller
loop-end-smaller c =
    let keys = c.args.index.now.keys in
    let place = c.loop-end.end - 1 in
    let key = get_or keys place 0 in
    let short : last_end (nat_eq key) (take place keys) ≤ place = omega (arith, last_end-within (nat_eq key) (take place keys), length-take place keys) in
    omega (arith, c.end_before-end.ensures, short)

pub loop-end-preserved : goal.loop-end-preserved
loop-end-preserved c =
    let row = c.index-rows-end.result in
    sought_next row_key (order_step c.args.token.now) (text_key c.args.token.now) (order_quiet c.args.token.now) None c.args.rows.now c.loop-end.end c.end_before-end.result row
    c.loop-end.invariant (omega arith) c.index-rows-end.is
    (order_passed c.args.token.now _ row (lent c.order_in-order.result (order_step c.args.token.now None row) false c.order_in-order.ensures (sym c.is_some.ensures ∙ c.if-is_some.false)))
    (c.end_before-end.ensures ∙ ap (λ (ks : List ℕ). last_end (nat_eq (get_or ks (c.loop-end.end - 1) 0)) (take (c.loop-end.end - 1) ks)) c.requires)
