use Rattle.std.proofs.Common.{◌++◌, drop, take, map, ap, ◌∙◌}
use Rattle.request_log.specs.Folded.{folded_as}
use Rattle.std.specs.List.{filter_map}
use Rattle.request_log.specs.Keys.{entry_key, number_of}
use Rattle.request_log.proofs.FoldedLemmas.{folded_apart, log-fold}
use Rattle.request_log.proofs.log.Log.fold.Goals as goal

pub fold-requires : goal.fold-requires
fold-requires c =
    folded_apart c.self.inside.folded c.self.inside.items.items c.self.inside.numbers.keys c.self.inside.origins.keys c.args.self.now c.args.n c.self.view_is c.requires.ran c.self.invariant
    c.front.result.now (c.front.ensures ∙ ap (take c.args.n) c.deref-2.ensures.value)

pub invariant_of-self-2 : goal.invariant_of-self-2
invariant_of-self-2 c =
    let n = c.args.n in
    let behind = c.behind.ensures ∙ ap (drop n) c.deref.ensures.value in
    let front = c.front.ensures ∙ ap (take n) c.deref-2.ensures.value in
    log-fold c.self.inside.folded c.self.inside.items.items c.self.inside.numbers.keys c.self.inside.origins.keys c.args.self.now n c.self.view_is c.requires.ran c.self.invariant
    c.fold.new.self c.drop_front.new.items.items c.in_ok-indexes.indexes.0.keys c.in_ok-indexes.indexes.1.keys
    (c.in_ok-fold.ensures.ok ∙ ap (λ l. c.self.inside.folded ++ filter_map folded_as l) front) c.drop_front.ensures
    (c.in_ok-indexes.ensures.numbers ∙ ap (map number_of) behind) (c.in_ok-indexes.ensures.origins ∙ ap (map entry_key) behind)
