use Rattle.std.proofs.Common.{◌-◌, refl, sym, ◌∙◌, arith}
use Rattle.lang_lists.proofs.ChainLemmas.{passed, reached, start_before}
use Rattle.lang_lists.proofs.hash_chains.walk.Goals as goal

pub returns-then-keys-end : goal.returns-then-keys-end
returns-then-keys-end c =
    sym (c.loop-end.invariant.same ∙ reached c.args.keys.now c.args.key (c.loop-end.end - 1) c.loop-end.end (omega arith) refl (omega arith) c.if-keys-end.true)

pub loop-end-smaller : goal.loop-end-smaller
loop-end-smaller c =
    let from = start_before c.args.keys.now c.args.before.now c.args.last.now c.args.key (c.loop-end.end - 1) c.requires.linked (omega arith) (c.loop-end.invariant.chained (omega arith)) in
    omega (arith, from.within)

pub loop-end-preserved : goal.loop-end-preserved
loop-end-preserved c =
    let from = start_before c.args.keys.now c.args.before.now c.args.last.now c.args.key (c.loop-end.end - 1) c.requires.linked (omega arith) (c.loop-end.invariant.chained (omega arith)) in
    record {
      within = omega (arith, from.within);
      same = c.loop-end.invariant.same
          ∙ passed c.args.keys.now c.args.key (c.loop-end.end - 1) c.loop-end.end (omega arith) refl (omega arith) c.if-keys-end.false
          ∙ from.same;
      chained = from.chained;
    }
