use Rattle.std.proofs.Common.{◌≡◌, ◌∙◌, false, nat_eq, ap, sym, subst, List}
use Rattle.std.proofs.lemmas.List.Kept.{AllPairs-filter}
use Rattle.lang_lists.specs.Ages.{is_before, of_code, IsRising}
use Rattle.lang_lists.specs.declared.age_keys.AgeKey.{AgeKey}
use Rattle.lang_lists.proofs.age_queue.AgeQueue.of_code.Goals as goal

pub returns-clause-rising : goal.returns-clause-rising
returns-clause-rising c =
    let P : List AgeKey → Type 0 = λ l. IsRising l in
    subst P (sym (c.of_code.ensures ∙ ap (of_code c.args.code) c.deref.ensures.value))
    (AllPairs-filter (λ a b. is_before b a ≡ false) (λ (k : AgeKey). nat_eq k.code c.args.code) c.self.inside.keys.items c.self.invariant)
