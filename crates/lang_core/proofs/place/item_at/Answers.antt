use Rattle.std.proofs.Common.{sym, ap, ◌∙◌, get_or}
use Rattle.lang_core.specs.Places.{place_of}
use Rattle.lang_core.proofs.SeekLemmas.{find_none, find_some}
use Rattle.lang_core.proofs.place.item_at.Goals as goal

pub returns-then-taken : goal.returns-then-taken
returns-then-taken g c =
    let place = g.T.Placed.place in
    let p = place_of c.args.table.now c.args.key.now in
    let items = c.args.items.now in
    let item = c.index-items-at.result in
    let is = c.index-items-at.is ∙ ap (λ i. get_or items i item) c.seek-at.ensures.rank in
    sym (find_some place p items item (sym c.seek-at.ensures.taken ∙ c.if-taken.true) is)

pub returns-else-taken : goal.returns-else-taken
returns-else-taken g c =
    let p = place_of c.args.table.now c.args.key.now in
    sym (find_none g.T.Placed.place p c.args.items.now c.requires (sym c.seek-at.ensures.taken ∙ c.if-taken.false))
