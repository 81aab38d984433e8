use Rattle.std.proofs.Common.{ℕ, ◌-◌, ◌≤◌, false, List, None, map, take, get_or, nat_eq, sym, ap, ◌∙◌, arith}
use Rattle.std.proofs.lemmas.List.{length-take}
use Rattle.lang_lists.specs.Ends.{last_end}
use Rattle.lang_lists.proofs.HashEndLemmas.{last_end-within}
use Rattle.lang_lists.proofs.SearchLemmas.{sought_first, sought_next}
use Rattle.journal_rows.specs.Keys.{row_key}
use Rattle.journal_rows.specs.declared.row.Row.{Row}
use Rattle.journal_rows.proofs.KeyLemmas.{lent}
use Rattle.service_reports.specs.Changed.{asked_outside_step}
use Rattle.service_reports.proofs.ChangedLemmas.{asked_passed, asked_quiet}
use Rattle.service_reports.proofs.changed.asked_outside.Goals as goal

pub loop-end-init : goal.loop-end-init
loop-end-init c =
    sought_first row_key (asked_outside_step c.args.id) c.args.id (asked_quiet c.args.id) None c.args.rows.now.rows c.end_of-end.result c.end_of-end.ensures

pub loop-end-smaller : goal.loop-end-smaller
loop-end-smaller c =
    let keys = map row_key c.args.rows.now.rows in
    let place = c.loop-end.end - 1 in
    let key = get_or keys place 0 in
    let short : last_end (nat_eq key) (take place keys) ≤ place = omega (arith, last_end-within (nat_eq key) (take place keys), length-take place keys) in
    omega (arith, c.end_before-end.ensures, short)

pub loop-end-preserved : goal.loop-end-preserved
loop-end-preserved c =
    let row = c.index-list-end.result in
    sought_next row_key (asked_outside_step c.args.id) c.args.id (asked_quiet c.args.id) None c.args.rows.now.rows c.loop-end.end c.end_before-end.result row
    c.loop-end.invariant (omega arith) (c.index-list-end.is ∙ ap (λ (list : List Row). get_or list (c.loop-end.end - 1) row) c.as_slice-list.ensures)
    (asked_passed c.args.id _ row (lent c.asked_in-made.result (asked_outside_step c.args.id None row) false c.asked_in-made.ensures (sym c.is_some.ensures ∙ c.if-is_some.false)))
    c.end_before-end.ensures
