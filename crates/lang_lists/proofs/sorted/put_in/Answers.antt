use Rattle.std.proofs.Common.{◌≡◌, ◌∙◌, sym, subst, ℕ, List, find, arith}
use Rattle.lang_lists.specs.Numbers.{has_number, with_item, IsRising, IsAt, IsMissing}
use Rattle.lang_lists.proofs.NumberLemmas.{put_new, put_old, rises_with, found_nowhere, none_there}
use Rattle.lang_lists.proofs.sorted.put_in.Goals as goal

-- what a search in the list told, of the item's number
of_item : {X : Type 0} (P : ℕ → List X → Type 0) (n m : ℕ) (xs ys : List X) → n ≡ m → xs ≡ ys → P n xs → P m ys
of_item P n m xs ys e is h = let Q : ℕ → Type 0 = λ k. P k ys in subst Q e (subst (P n) is h)

pub returns-in_err-insert-in-Err-clause-known : goal.returns-in_err-insert-in-Err-clause-known
returns-in_err-insert-in-Err-clause-known g c there =
    let number = g.T.Numbered.number in
    let place = c.in-Err.place in
    let at = of_item (λ n xs. IsMissing number n xs place) _ _ _ _ c.number.ensures c.deref.ensures.value c.in-Err.ensures in
    none_there (find (has_number number (number c.args.item)) c.args.list.now.items)
    (found_nowhere number 0 (number c.args.item) place c.args.list.now.items c.requires at) there

pub returns-in-Ok-clause-ok : goal.returns-in-Ok-clause-ok
returns-in-Ok-clause-ok g c =
    let number = g.T.Numbered.number in
    let place = c.in-Ok.place in
    put_old number 0 place c.args.item c.args.list.now.items c.requires
    (of_item (λ n xs. IsAt number n xs place) _ _ _ _ c.number.ensures c.deref.ensures.value c.in-Ok.ensures)

pub returns-in-Ok-clause-rising : goal.returns-in-Ok-clause-rising
returns-in-Ok-clause-rising g c =
    let number = g.T.Numbered.number in
    let P : List g.row.T.Denot → Type 0 = λ l. IsRising number l in
    subst P (sym (returns-in-Ok-clause-ok g c)) (rises_with number 0 c.args.item c.args.list.now.items (omega arith) c.requires)

pub returns-in_ok-insert-in-Err-clause-ok : goal.returns-in_ok-insert-in-Err-clause-ok
returns-in_ok-insert-in-Err-clause-ok g c =
    let number = g.T.Numbered.number in
    let place = c.in-Err.place in
    c.in_ok-insert-in-Err.ensures.items
    ∙ put_new number 0 place c.args.item c.args.list.now.items c.requires
    (of_item (λ n xs. IsMissing number n xs place) _ _ _ _ c.number.ensures c.deref.ensures.value c.in-Err.ensures)

pub returns-in_ok-insert-in-Err-clause-rising : goal.returns-in_ok-insert-in-Err-clause-rising
returns-in_ok-insert-in-Err-clause-rising g c =
    let number = g.T.Numbered.number in
    let P : List g.row.T.Denot → Type 0 = λ l. IsRising number l in
    subst P (sym (returns-in_ok-insert-in-Err-clause-ok g c)) (rises_with number 0 c.args.item c.args.list.now.items (omega arith) c.requires)
