use Rattle.std.proofs.Common.{ℕ, ◌-◌, ◌≤◌, cond, List, take, get_or, nat_eq, sym, ap, ◌∙◌, subst, arith}
use Rattle.std.proofs.lemmas.List.{length-take}
use Rattle.lang_lists.specs.Ends.{last_end}
use Rattle.lang_lists.specs.Keys.{call_key}
use Rattle.lang_lists.proofs.HashEndLemmas.{last_end-within}
use Rattle.world_core.proofs.PacketLemmas.{IsFirst, first_begins, first_found, first_goes}
use Rattle.world_core.proofs.packets.first_call.Goals as goal

pub loop-end-init : goal.loop-end-init
loop-end-init c =
    first_begins c.args.caller.now c.args.number c.args.packets.now c.end_of-end.result
    (c.end_of-end.ensures
    ∙ ap (λ k. last_end (nat_eq k) c.args.keys.now.keys) (c.call_key.ensures ∙ ap (λ t. call_key t c.args.number) c.text.ensures.text)
    ∙ ap (last_end (nat_eq (call_key c.args.caller.now c.args.number))) c.requires)

pub loop-end-smaller : goal.loop-end-smaller
loop-end-smaller c =
    let keys = c.args.keys.now.keys in
    let place = c.loop-end.end - 1 in
    let key = get_or keys place 0 in
    let short : last_end (nat_eq key) (take place keys) ≤ place = omega (arith, last_end-within (nat_eq key) (take place keys), length-take place keys) in
    omega (arith, c.end_before-end.ensures, short)

pub loop-end-preserved : goal.loop-end-preserved
loop-end-preserved c =
    let x = c.index-packets-end.result in
    let P : ℕ → Type 0 = λ n. IsFirst c.args.caller.now c.args.number c.args.packets.now c.end_before-end.result n in
    subst P (sym (c.first_of-first.ensures ∙ ap (λ b. cond b c.loop-end.end c.loop-end.first) c.is_call_of.ensures))
    (first_goes c.args.caller.now c.args.number c.args.packets.now c.loop-end.end c.loop-end.first c.end_before-end.result x c.loop-end.invariant (omega arith) c.index-packets-end.is
    (c.end_before-end.ensures ∙ ap (λ (ks : List ℕ). last_end (nat_eq (get_or ks (c.loop-end.end - 1) 0)) (take (c.loop-end.end - 1) ks)) c.requires))

pub returns : goal.returns
returns c = first_found c.args.caller.now c.args.number c.args.packets.now c.loop-end.end c.loop-end.first c.loop-end.invariant (omega arith)
