use Rattle.std.proofs.Common.{ℕ, ◌-◌, ◌≤◌, false, List, None, take, get_or, nat_eq, sym, ap, ◌∙◌, arith}
use Rattle.std.proofs.lemmas.List.{length-take}
use Rattle.lang_lists.specs.Ends.{last_end}
use Rattle.lang_lists.specs.Keys.{call_key}
use Rattle.lang_lists.proofs.HashEndLemmas.{last_end-within}
use Rattle.lang_lists.proofs.SearchLemmas.{sought_first, sought_next}
use Rattle.journal_rows.specs.Keys.{row_key}
use Rattle.journal_rows.specs.Words.{given_step}
use Rattle.journal_rows.proofs.KeyLemmas.{lent, given_quiet, given_passed}
use Rattle.journal_rows.proofs.versions.given_at.Goals as goal

pub loop-end-init : goal.loop-end-init
loop-end-init c =
    sought_first row_key (given_step c.args.caller.now c.args.number c.args.answer_version) (call_key c.args.caller.now c.args.number) (given_quiet c.args.caller.now c.args.number c.args.answer_version) None c.args.rows.now c.end_of-end.result
    (c.end_of-end.ensures
    ∙ ap (λ k. last_end (nat_eq k) c.args.index.now.keys) (c.call_key.ensures ∙ ap (λ t. call_key t c.args.number) c.text.ensures.text)
    ∙ ap (last_end (nat_eq (call_key c.args.caller.now c.args.number))) c.requires)

pub loop-end-smaller : goal.loop-end-smaller
loop-end-smaller c =
    let keys = c.args.index.now.keys in
    let place = c.loop-end.end - 1 in
    let key = get_or keys place 0 in
    let short : last_end (nat_eq key) (take place keys) ≤ place = omega (arith, last_end-within (nat_eq key) (take place keys), length-take place keys) in
    omega (arith, c.end_before-end.ensures, short)

pub loop-end-preserved : goal.loop-end-preserved
loop-end-preserved c =
    let row = c.index-rows-end.result in
    sought_next row_key (given_step c.args.caller.now c.args.number c.args.answer_version) (call_key c.args.caller.now c.args.number) (given_quiet c.args.caller.now c.args.number c.args.answer_version) None c.args.rows.now c.loop-end.end c.end_before-end.result row
    c.loop-end.invariant (omega arith) c.index-rows-end.is
    (given_passed c.args.caller.now c.args.number c.args.answer_version _ row (lent c.given_in-given.result (given_step c.args.caller.now c.args.number c.args.answer_version None row) false c.given_in-given.ensures (sym c.is_some.ensures ∙ c.if-is_some.false)))
    (c.end_before-end.ensures ∙ ap (λ (ks : List ℕ). last_end (nat_eq (get_or ks (c.loop-end.end - 1) 0)) (take (c.loop-end.end - 1) ks)) c.requires)
