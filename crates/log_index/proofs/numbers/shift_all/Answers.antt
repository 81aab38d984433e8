use Rattle.std.proofs.Common.{◌<◌, ℕ, get_or, length, set, sym, ap, ◌∙◌, subst, arith, get_or-set_other, refl}
use Rattle.std.proofs.lemmas.List.{get_or_default}
use Rattle.std.proofs.lemmas.List.Edits.{map_over_more}
use Rattle.std.proofs.lemmas.List.Elements.{All-get_or}
use Rattle.std.proofs.Math.ListN.{length-set}
use Rattle.log_index.specs.Marks.{shifted}
use Rattle.log_index.proofs.numbers.shift_all.Goals as goal

pub loop-mark-init : goal.loop-mark-init
loop-mark-init c = record {
  moved = refl;
  few = λ k le lt. All-get_or (λ q. q < 100000) c.args.marks.now k 0 lt c.requires.within;
}

pub loop-mark-preserved : goal.loop-mark-preserved
loop-mark-preserved c =
    let xs = c.args.marks.now in
    let ys = c.loop-mark.marks in
    let i = c.loop-mark.mark-index in
    let many = c.loop-mark.auto.marks in
    let inside : i < length xs = omega arith in
    let also : i < length ys = omega arith in
    let x = get_or ys i 0 in
    let v = c.shifted.result in
    record {
      moved = ap (λ n. set ys i n) c.shifted.ensures ∙ map_over_more (shifted c.args.place) xs ys i x inside c.loop-mark.invariant.moved (get_or_default ys i 0 x also);
      few = λ k le lt.
          let n = length-set ys i v in
          let P : ℕ → Type 0 = λ y. y < 100000 in
          subst P (sym (get_or-set_other ys i k v 0 (λ e. omega arith))) (c.loop-mark.invariant.few k (omega arith) (omega arith));
    }
