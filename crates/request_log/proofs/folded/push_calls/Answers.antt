use Rattle.std.proofs.Common.{◌≡◌, length, get_or, ap, ◌∙◌, arith}
use Rattle.request_log.specs.declared.folded.Folded.{Folded}
use Rattle.request_log.proofs.FoldedFindLemmas.{slots_within}
use Rattle.request_log.proofs.folded.push_calls.Goals as goal

pub push_slots-requires : goal.push_slots-requires
push_slots-requires c =
    let f = c.index-items-place.result in
    let place = c.loop-place.place in
    let slots : c.as_slice.result.now ≡ (get_or c.args.items.now place f).slots = c.as_slice.ensures ∙ ap (λ (f : Folded). f.slots) (c.folded.ensures ∙ c.index-items-place.is) in
    omega (arith, c.loop-place.invariant.room, slots_within c.args.items.now place f (omega arith), ap length slots)
