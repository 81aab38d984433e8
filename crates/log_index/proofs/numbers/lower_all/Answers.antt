use Rattle.std.proofs.Common.{◌<◌, get_or, length, set, ap, ◌∙◌, arith}
use Rattle.std.proofs.lemmas.List.{get_or_default}
use Rattle.std.proofs.lemmas.List.Edits.{map_over_more}
use Rattle.log_index.specs.Marks.{lowered}
use Rattle.log_index.proofs.numbers.lower_all.Goals as goal

pub loop-mark-preserved : goal.loop-mark-preserved
loop-mark-preserved c =
    let xs = c.args.marks.now in
    let ys = c.loop-mark.marks in
    let i = c.loop-mark.mark-index in
    let many = c.loop-mark.auto.marks in
    let inside : i < length xs = omega arith in
    let also : i < length ys = omega arith in
    let x = get_or ys i 0 in
    ap (λ n. set ys i n) c.lowered.ensures ∙ map_over_more (lowered c.args.n) xs ys i x inside c.loop-mark.invariant (get_or_default ys i 0 x also)
