use Rattle.std.proofs.Common.{◌<◌, ◌+◌, ℕ, get_or, length, set, sym, ap, ◌∙◌, subst, arith, get_or-set_other, refl}
use Rattle.std.proofs.lemmas.List.{get_or_default}
use Rattle.std.proofs.lemmas.List.Edits.{map_over_more}
use Rattle.std.proofs.Math.ListN.{length-set}
use Rattle.number_blocks.proofs.parts.raise_all.Goals as goal

pub loop-start-init : goal.loop-start-init
loop-start-init c = record {
  moved = refl;
  few = λ k le lt. c.requires k lt;
}

pub loop-start-preserved : goal.loop-start-preserved
loop-start-preserved c =
    let xs = c.args.starts.now in
    let ys = c.loop-start.starts in
    let i = c.loop-start.start-index in
    let many = c.loop-start.auto.starts in
    let inside : i < length xs = omega arith in
    let also : i < length ys = omega arith in
    let x = get_or ys i 0 in
    let v = c.raised.result in
    record {
      moved = ap (λ n. set ys i n) c.raised.ensures ∙ map_over_more (λ n. n + 1) xs ys i x inside c.loop-start.invariant.moved (get_or_default ys i 0 x also);
      few = λ k le lt.
          let n = length-set ys i v in
          let P : ℕ → Type 0 = λ y. y < 4294967296 in
          subst P (sym (get_or-set_other ys i k v 0 (λ e. omega arith))) (c.loop-start.invariant.few k (omega arith) (omega arith));
    }
