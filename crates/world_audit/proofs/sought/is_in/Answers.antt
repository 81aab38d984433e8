use Rattle.std.proofs.Common.{◌≡◌, ◌∙◌, ℕ, ◌-◌, ◌≤◌, Bool, true, false, List, fold, map, take, get_or, nat_eq, sym, ap, arith}
use Rattle.std.proofs.lemmas.List.{length-take}
use Rattle.lang_lists.specs.Ends.{last_end}
use Rattle.lang_lists.proofs.HashEndLemmas.{last_end-within}
use Rattle.lang_lists.proofs.SearchLemmas.{sought_first, sought_here, sought_next}
use Rattle.journal_rows.specs.Keys.{row_key}
use Rattle.journal_rows.specs.declared.row.Row.{Row}
use Rattle.world_audit.specs.Sought.{is_sought, key_of}
use Rattle.world_audit.proofs.SoughtLemmas.{or_sought, any_folds, sought_quiet, sought_passed, sought_found}
use Rattle.world_audit.proofs.sought.is_in.Goals as goal

pub loop-end-init : goal.loop-end-init
loop-end-init c =
    sought_first row_key (or_sought c.args.sought) (key_of c.args.sought) (sought_quiet c.args.sought) false c.args.journal.now.rows c.end_of-end.result
    (c.end_of-end.ensures ∙ ap (λ k. last_end (nat_eq k) (map row_key c.args.journal.now.rows)) c.key_of.ensures)

pub loop-end-smaller : goal.loop-end-smaller
loop-end-smaller c =
    let keys = map row_key c.args.journal.now.rows in
    let place = c.loop-end.end - 1 in
    let key = get_or keys place 0 in
    let short : last_end (nat_eq key) (take place keys) ≤ place = omega (arith, last_end-within (nat_eq key) (take place keys), length-take place keys) in
    omega (arith, c.end_before-end.ensures, short)

pub loop-end-preserved : goal.loop-end-preserved
loop-end-preserved c =
    let w = c.args.sought in
    let row = c.index-rows-end.result in
    sought_next row_key (or_sought w) (key_of w) (sought_quiet w) false c.args.journal.now.rows c.loop-end.end c.end_before-end.result row
    c.loop-end.invariant (omega arith) (c.index-rows-end.is ∙ ap (λ (rows : List Row). get_or rows (c.loop-end.end - 1) row) c.as_slice-rows.ensures)
    (sought_passed w _ row (sym c.is_sought.ensures ∙ c.if-is_sought.false))
    c.end_before-end.ensures

pub returns-then-is_sought : goal.returns-then-is_sought
returns-then-is_sought c =
    let w = c.args.sought in
    let row = c.index-rows-end.result in
    let rows = c.args.journal.now.rows in
    sym (sought_found w (fold (or_sought w) false (take (c.loop-end.end - 1) rows)) row (sym c.is_sought.ensures ∙ c.if-is_sought.true))
    ∙ sym (sought_here row_key (or_sought w) (key_of w) (sought_quiet w) false rows c.loop-end.end row c.loop-end.invariant (omega arith)
    (c.index-rows-end.is ∙ ap (λ (rows : List Row). get_or rows (c.loop-end.end - 1) row) c.as_slice-rows.ensures))
    ∙ any_folds w rows false

pub returns : goal.returns
returns c =
    let w = c.args.sought in
    let rows = c.args.journal.now.rows in
    let none : c.loop-end.end ≡ 0 = omega arith in
    let up_to : ℕ → Bool = λ n. fold (or_sought w) false (take n rows) in
    sym (sym (any_folds w rows false) ∙ c.loop-end.invariant.same ∙ ap up_to none)
