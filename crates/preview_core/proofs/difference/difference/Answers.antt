use Rattle.std.proofs.Common.{◌≡◌, length, sym, subst, arith}
use Rattle.std.proofs.lemmas.Bool.Decides.{nat_tests}
use Rattle.lang_core.specs.Places.{IsOrdered}
use Rattle.lang_core.specs.Rows.{write_place}
use Rattle.preview_core.proofs.DifferenceLemmas.{all_differ, none_differ, ordered_difference}
use Rattle.preview_core.proofs.difference.difference.Goals as goal

pub differ_first-requires : goal.differ_first-requires
differ_first-requires c =
    subst (IsOrdered write_place) (sym c.loop-old.invariant)
    (ordered_difference c.args.before.now c.args.after.now c.as_slice-old.ensures.ordered c.as_slice-new.ensures.ordered)

pub returns-clause-same : goal.returns-clause-same
returns-clause-same c =
    let none_old : length c.loop-old.old.now ≡ 0 = grind (arith, nat_tests) in
    let none_new : length c.loop-old.new.now ≡ 0 = grind (arith, nat_tests) in
    none_differ c.args.before.now c.args.after.now c.loop-old.old.now c.loop-old.new.now c.loop-old.writes c.loop-old.invariant none_old none_new

pub returns-clause-leads : goal.returns-clause-leads
returns-clause-leads c =
    let none_old : length c.loop-old.old.now ≡ 0 = grind (arith, nat_tests) in
    let none_new : length c.loop-old.new.now ≡ 0 = grind (arith, nat_tests) in
    all_differ c.args.before.now c.args.after.now c.loop-old.old.now c.loop-old.new.now c.loop-old.writes c.as_slice-old.ensures.ordered c.as_slice-new.ensures.ordered
    c.loop-old.invariant none_old none_new
