use Rattle.std.proofs.Common.{◌<◌, ◌∷◌, ◌++◌, [], cond, length, get_or, sym, ap, ◌∙◌, arith}
use Rattle.std.proofs.lemmas.List.Elements.{filter_more}
use Rattle.dependency_index.specs.Reads.{is_between}
use Rattle.dependency_index.proofs.index.labels_between.Goals as goal

pub loop-label-preserved : goal.loop-label-preserved
loop-label-preserved c =
    let labels = c.args.labels.now in
    let i = c.loop-label.label-index in
    let lt : i < length labels = omega arith in
    let p = is_between c.args.order.now.labels c.args.from c.args.to in
    c.in_ok-push_if.ensures
    ∙ ap (λ b. c.loop-label.kept ++ cond b (get_or labels i 0 ∷ []) []) c.is_between.ensures
    ∙ ap (λ l. l ++ cond (p (get_or labels i 0)) (get_or labels i 0 ∷ []) []) c.loop-label.invariant
    ∙ sym (filter_more p labels i 0 lt)
