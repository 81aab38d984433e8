use Rattle.std.proofs.Common.{ℕ, ◌≡◌, ◌-◌, ◌≤◌, Bool, false, List, fold, take, get_or, nat_eq, ap, ◌∙◌, arith}
use Rattle.std.proofs.lemmas.List.{length-take}
use Rattle.lang_lists.specs.Ends.{last_end}
use Rattle.lang_lists.proofs.HashEndLemmas.{last_end-within}
use Rattle.lang_lists.proofs.SearchLemmas.{sought_first, sought_next}
use Rattle.node_core.specs.Closings.{row_key}
use Rattle.node_core.proofs.SearchLemmas.{refuted}
use Rattle.node_core.proofs.TwiceLemmas.{or_same, none_same, same_passed, same_quiet}
use Rattle.node_core.proofs.twice.earlier.Goals as goal

pub loop-end-init : goal.loop-end-init
loop-end-init g c =
    let service = g.T.OfRow.service in
    let index = g.T.OfRow.index in
    let key = row_key service index in
    let x = c.args.item.now in
    sought_first key (or_same service index x) (key x) (same_quiet service index x) false c.args.items.now c.end_of-end.result
    (c.end_of-end.ensures
    ∙ ap (λ k. last_end (nat_eq k) c.args.keys.now.keys) c.row_key.ensures
    ∙ ap (last_end (nat_eq (key x))) c.requires)

pub loop-end-smaller : goal.loop-end-smaller
loop-end-smaller g c =
    let keys = c.args.keys.now.keys in
    let place = c.loop-end.end - 1 in
    let key = get_or keys place 0 in
    let short : last_end (nat_eq key) (take place keys) ≤ place = omega (arith, last_end-within (nat_eq key) (take place keys), length-take place keys) in
    omega (arith, c.end_before-end.ensures, short)

pub loop-end-preserved : goal.loop-end-preserved
loop-end-preserved g c =
    let service = g.T.OfRow.service in
    let index = g.T.OfRow.index in
    let key = row_key service index in
    let x = c.args.item.now in
    let r = c.index-items-end.result in
    sought_next key (or_same service index x) (key x) (same_quiet service index x) false c.args.items.now c.loop-end.end c.end_before-end.result r
    c.loop-end.invariant (omega arith) c.index-items-end.is
    (same_passed service index x _ r (refuted c.is_same_row.result c.is_same_row.ensures c.if-is_same_row.false))
    (c.end_before-end.ensures ∙ ap (λ (ks : List ℕ). last_end (nat_eq (get_or ks (c.loop-end.end - 1) 0)) (take (c.loop-end.end - 1) ks)) c.requires)

pub returns-clause-none : goal.returns-clause-none
returns-clause-none g c =
    let service = g.T.OfRow.service in
    let index = g.T.OfRow.index in
    let x = c.args.item.now in
    let none : c.loop-end.end ≡ 0 = omega arith in
    let up_to : ℕ → Bool = λ n. fold (or_same service index x) false (take n c.args.items.now) in
    none_same service index x false c.args.items.now (c.loop-end.invariant.same ∙ ap up_to none)
