use Rattle.std.proofs.Common.{ℕ, ◌≡◌, ◌-◌, ◌≤◌, Bool, cond, List, Option, Some, None, take, get_or, fold, nat_eq, sym, ap, ◌∙◌, arith}
use Rattle.std.proofs.lemmas.List.{length-take}
use Rattle.lang_lists.specs.Ends.{last_end}
use Rattle.lang_lists.specs.Keys.{call_key}
use Rattle.lang_lists.proofs.HashEndLemmas.{last_end-within}
use Rattle.lang_lists.proofs.SearchLemmas.{sought_first, sought_here, sought_next}
use Rattle.request_log.specs.declared.folded.Folded.{Folded}
use Rattle.request_log.specs.Folded.{has_caller}
use Rattle.request_log.specs.Keys.{folded_key}
use Rattle.request_log.proofs.FindLemmas.{last_of, not_last}
use Rattle.request_log.proofs.FoldedFindLemmas.{folded_quiet, last_folded}
use Rattle.request_log.proofs.folded.find_origin.Goals as goal

pub loop-end-init : goal.loop-end-init
loop-end-init c =
    sought_first folded_key (last_of (has_caller c.args.caller.now c.args.number)) (call_key c.args.caller.now c.args.number) (folded_quiet c.args.caller.now c.args.number) None c.args.items.now c.end_of-end.result
    (c.end_of-end.ensures
    ∙ ap (λ k. last_end (nat_eq k) c.args.origins.now.keys) (c.call_key.ensures ∙ ap (λ t. call_key t c.args.number) c.text.ensures.text)
    ∙ ap (last_end (nat_eq (call_key c.args.caller.now c.args.number))) c.requires.keys)

pub returns-then-has_caller : goal.returns-then-has_caller
returns-then-has_caller c =
    let passes = has_caller c.args.caller.now c.args.number in
    let folded = c.index-items-end.result in
    let before : Option Folded = fold (last_of passes) None (take (c.loop-end.end - 1) c.args.items.now) in
    let chosen : Bool → Option Folded = λ b. cond b (Some folded) before in
    let here = sought_here folded_key (last_of passes) (call_key c.args.caller.now c.args.number) (folded_quiet c.args.caller.now c.args.number) None c.args.items.now c.loop-end.end folded c.loop-end.invariant (omega arith) c.index-items-end.is in
    let tested = rw c.folded-folded.ensures at c.has_caller.ensures in
    ap Some c.folded-folded.ensures ∙ sym (sym (last_folded c.args.caller.now c.args.number c.args.items.now c.requires.distinct) ∙ here ∙ ap chosen (sym tested ∙ c.if-has_caller.true))

pub loop-end-smaller : goal.loop-end-smaller
loop-end-smaller c =
    let keys = c.args.origins.now.keys in
    let place = c.loop-end.end - 1 in
    let key = get_or keys place 0 in
    let short : last_end (nat_eq key) (take place keys) ≤ place = omega (arith, last_end-within (nat_eq key) (take place keys), length-take place keys) in
    omega (arith, c.end_before-end.ensures, short)

pub loop-end-preserved : goal.loop-end-preserved
loop-end-preserved c =
    let passes = has_caller c.args.caller.now c.args.number in
    let folded = c.index-items-end.result in
    let tested = rw c.folded-folded.ensures at c.has_caller.ensures in
    sought_next folded_key (last_of passes) (call_key c.args.caller.now c.args.number) (folded_quiet c.args.caller.now c.args.number) None c.args.items.now c.loop-end.end c.end_before-end.result folded
    c.loop-end.invariant (omega arith) c.index-items-end.is
    (not_last (passes folded) folded _ (sym tested ∙ c.if-has_caller.false))
    (c.end_before-end.ensures ∙ ap (λ (ks : List ℕ). last_end (nat_eq (get_or ks (c.loop-end.end - 1) 0)) (take (c.loop-end.end - 1) ks)) c.requires.keys)

pub returns : goal.returns
returns c =
    let step = last_of (has_caller c.args.caller.now c.args.number) in
    let none : c.loop-end.end ≡ 0 = omega arith in
    let up_to : ℕ → Option Folded = λ n. fold step None (take n c.args.items.now) in
    sym (sym (last_folded c.args.caller.now c.args.number c.args.items.now c.requires.distinct) ∙ c.loop-end.invariant.same ∙ ap up_to none)
