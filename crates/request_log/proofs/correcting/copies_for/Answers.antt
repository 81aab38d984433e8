use Rattle.std.proofs.Common.{◌<◌, ◌∷◌, ◌++◌, [], length, map, take, sym, ap, ◌∙◌, add-one, arith}
use Rattle.request_log.specs.Corrections.{given_for}
use Rattle.request_log.proofs.FoldedLemmas.{map-more}
use Rattle.request_log.proofs.correcting.copies_for.Goals as goal

pub loop-kept-preserved : goal.loop-kept-preserved
loop-kept-preserved c =
    let es = c.args.items.now in
    let i = c.loop-kept.kept-index in
    let lt : i < length es = omega arith in
    let f = given_for c.args.number c.args.program.now in
    rw add-one
    (c.in_ok-push.ensures.items ∙ ap (λ l. l ++ c.in_ok-copy_for.field-0 ∷ []) c.loop-kept.invariant
    ∙ ap (λ g. map f (take i es) ++ g ∷ []) (c.in_ok-copy_for.ensures ∙ ap f (c.entry.ensures ∙ c.kept-item.is))
    ∙ sym (map-more f es i c.kept-item.result lt))
