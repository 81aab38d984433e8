use Rattle.std.proofs.Common.{get_or, refl, sym, ◌∙◌, eq-eqb, arith}
use Rattle.lang_lists.proofs.ChainLemmas.{start_before}
use Rattle.lang_lists.proofs.hash_chains.end_before.Goals as goal

pub walk-requires-clause-within : goal.walk-requires-clause-within
walk-requires-clause-within c =
    let start = start_before c.args.keys.now c.args.before.now c.args.last.now (get_or c.args.keys.now c.args.place 0) c.args.place c.requires.linked c.requires.place (eq-eqb _ _ refl) in
    omega (arith, start.within)

pub walk-requires-clause-chained : goal.walk-requires-clause-chained
walk-requires-clause-chained c =
    let start = start_before c.args.keys.now c.args.before.now c.args.last.now (get_or c.args.keys.now c.args.place 0) c.args.place c.requires.linked c.requires.place (eq-eqb _ _ refl) in
    start.chained

pub returns : goal.returns
returns c =
    let start = start_before c.args.keys.now c.args.before.now c.args.last.now (get_or c.args.keys.now c.args.place 0) c.args.place c.requires.linked c.requires.place (eq-eqb _ _ refl) in
    c.walk.ensures ∙ sym start.same
