use Rattle.std.proofs.Common.{◌++◌, ◌∷◌, [], ℕ, List, ap, ◌∙◌, arith}
use Rattle.std.proofs.lemmas.Option.{slice_get_within}
use Rattle.node_core.specs.Closings.{row_key}
use Rattle.node_core.proofs.ApartLemmas.{apart_more, in_front}
use Rattle.node_core.proofs.TwiceLemmas.{keys_more}
use Rattle.node_core.proofs.twice.first_twice.Goals as goal

pub loop-at-preserved : goal.loop-at-preserved
loop-at-preserved g c =
    let service = g.T.OfRow.service in
    let index = g.T.OfRow.index in
    let items = c.args.items.now in
    let at = c.loop-at.at in
    let item = c.index-items-at.result in
    let none = c.in_default.ensures.none in
    record {
      keys = c.in_ok-note.ensures ∙ ap (λ (ks : List ℕ). ks ++ row_key service index item ∷ []) c.loop-at.invariant.keys
          ∙ keys_more service index items at item c.index-items-at.is c.loop-at-test.true;
      apart = apart_more service index items at item c.index-items-at.is c.loop-at-test.true c.loop-at.invariant.apart
          (λ k r less there. none k r (in_front items at k r less c.loop-at-test.true there));
    }

pub returns-clause-none : goal.returns-clause-none
returns-clause-none g c at other r t here there =
    c.loop-at.invariant.apart at other r t (omega (arith, slice_get_within c.args.items.now at r here, c.loop-at-test.false))
    (omega (arith, slice_get_within c.args.items.now other t there, c.loop-at-test.false)) here there
