use Rattle.std.proofs.Common.{◌-◌, refl, arith}
use Rattle.lang_lists.proofs.InsertLemmas.{back_more, back_smaller}
use Rattle.lang_lists.proofs.hash_chains.part.Goals as goal

pub offset_bounds-before-behind : goal.offset_bounds-before-behind
offset_bounds-before-behind c =
    let less = back_smaller c.args.keys.now c.args.before.now c.args.last.now c.args.bucket c.args.at c.loop-end.end c.loop-end.behind (c.loop-end.end - 1) c.requires.linked c.loop-end.invariant (omega arith) refl in
    let inside = less.0 in
    omega arith

pub bounds-before-behind : goal.bounds-before-behind
bounds-before-behind c =
    let less = back_smaller c.args.keys.now c.args.before.now c.args.last.now c.args.bucket c.args.at c.loop-end.end c.loop-end.behind (c.loop-end.end - 1) c.requires.linked c.loop-end.invariant (omega arith) refl in
    less.0

pub loop-end-smaller : goal.loop-end-smaller
loop-end-smaller c =
    let less = back_smaller c.args.keys.now c.args.before.now c.args.last.now c.args.bucket c.args.at c.loop-end.end c.loop-end.behind (c.loop-end.end - 1) c.requires.linked c.loop-end.invariant (omega arith) refl in
    less.1

pub loop-end-preserved : goal.loop-end-preserved
loop-end-preserved c =
    back_more c.args.keys.now c.args.before.now c.args.last.now c.args.bucket c.args.at c.loop-end.end c.loop-end.behind (c.loop-end.end - 1) c.requires.linked c.loop-end.invariant (omega arith) refl
