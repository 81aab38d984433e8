use Rattle.std.proofs.Common.{◌≡◌, ◌∙◌, sym, ap, subst, List, Some, None, find}
use Rattle.std.proofs.lemmas.Option.{slice_get-get_or}
use Rattle.lang_lists.specs.Numbers.{has_number, IsRising, IsAt, IsMissing}
use Rattle.lang_lists.proofs.NumberLemmas.{found_there, found_nowhere, removed, none_removed, rises_without}
use Rattle.lang_lists.proofs.sorted.remove_from.Goals as goal

pub returns-in-Ok-clause-found : goal.returns-in-Ok-clause-found
returns-in-Ok-clause-found g c =
    let number = g.T.Numbered.number in
    let items = c.args.list.now.items in
    let place = c.in-Ok.place in
    let P : List g.row.T.Denot → Type 0 = λ l. IsAt number c.args.number l place in
    let at = subst P c.deref.ensures.value c.in-Ok.ensures in
    sym (found_there number c.args.number place items at ∙ slice_get-get_or items place c.remove.result at.within ∙ ap (λ x. Some x) (sym c.remove.ensures.value))

pub returns-in-Ok-clause-items : goal.returns-in-Ok-clause-items
returns-in-Ok-clause-items g c =
    let number = g.T.Numbered.number in
    let place = c.in-Ok.place in
    let P : List g.row.T.Denot → Type 0 = λ l. IsAt number c.args.number l place in
    c.remove.ensures.items
    ∙ removed number 0 c.args.number place c.args.list.now.items c.requires (subst P c.deref.ensures.value c.in-Ok.ensures)

pub returns-in-Ok-clause-rising : goal.returns-in-Ok-clause-rising
returns-in-Ok-clause-rising g c =
    let number = g.T.Numbered.number in
    let Q : List g.row.T.Denot → Type 0 = λ l. IsRising number l in
    subst Q (sym (returns-in-Ok-clause-items g c)) (rises_without number c.args.number 0 c.args.list.now.items c.requires)

pub returns-in-Err-clause-found : goal.returns-in-Err-clause-found
returns-in-Err-clause-found g c =
    let number = g.T.Numbered.number in
    let place = c.in-Err.field-0 in
    let P : List g.row.T.Denot → Type 0 = λ l. IsMissing number c.args.number l place in
    sym (found_nowhere number 0 c.args.number place c.args.list.now.items c.requires (subst P c.deref.ensures.value c.in-Err.ensures))

pub returns-in-Err-clause-items : goal.returns-in-Err-clause-items
returns-in-Err-clause-items g c =
    sym (none_removed g.T.Numbered.number c.args.number c.args.list.now.items (sym (returns-in-Err-clause-found g c)))
