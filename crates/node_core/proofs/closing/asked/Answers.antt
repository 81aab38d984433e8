use Rattle.std.proofs.Common.{◌-◌, ◌≤◌, List, map, take, get_or, nat_eq, sym, subst, ap, ◌∙◌, arith}
use Rattle.std.specs.Option.{option_copied, option_or}
use Rattle.std.proofs.lemmas.List.{length-take}
use Rattle.lang_lists.specs.Ends.{last_end}
use Rattle.lang_lists.proofs.HashEndLemmas.{last_end-within}
use Rattle.journal_rows.specs.declared.row.Row.{Row}
use Rattle.journal_rows.specs.Keys.{row_key}
use Rattle.node_core.proofs.AskedLemmas.{IsMadeSo, made_first, made_next, made_last, or_lent}
use Rattle.node_core.proofs.closing.asked.Goals as goal

pub loop-end-init : goal.loop-end-init
loop-end-init c = made_first c.args.id c.args.rows.now.rows c.end_of-end.result c.end_of-end.ensures

pub loop-end-smaller : goal.loop-end-smaller
loop-end-smaller c =
    let keys = map row_key c.args.rows.now.rows in
    let place = c.loop-end.end - 1 in
    let key = get_or keys place 0 in
    let short : last_end (nat_eq key) (take place keys) ≤ place = omega (arith, last_end-within (nat_eq key) (take place keys), length-take place keys) in
    omega (arith, c.end_before-end.ensures, short)

pub loop-end-preserved : goal.loop-end-preserved
loop-end-preserved c =
    let rows = c.args.rows.now.rows in
    let row = c.index-list-end.result in
    let here = c.asked_in.result in
    let last = c.loop-end.first in
    let next = made_next c.args.id rows c.loop-end.end c.end_before-end.result row (option_copied last) c.loop-end.invariant (omega arith)
    (c.index-list-end.is ∙ ap (λ (list : List Row). get_or list (c.loop-end.end - 1) row) c.as_slice-list.ensures) c.end_before-end.ensures in
    subst (IsMadeSo c.args.id rows c.end_before-end.result)
    (sym (ap option_copied c.or-first.ensures ∙ or_lent here last ∙ ap (λ o. option_or o (option_copied last)) c.asked_in.ensures))
    next

pub returns : goal.returns
returns c = sym (made_last c.args.id c.args.rows.now.rows c.loop-end.end (option_copied c.loop-end.first) c.loop-end.invariant (omega arith))
