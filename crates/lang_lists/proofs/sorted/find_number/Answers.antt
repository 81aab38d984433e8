use Rattle.std.proofs.Common.{◌∙◌, sym}
use Rattle.lang_lists.proofs.NumberLemmas.{found_there, found_nowhere}
use Rattle.lang_lists.proofs.sorted.find_number.Goals as goal

pub returns-in-Ok : goal.returns-in-Ok
returns-in-Ok g c = c.item_at.ensures ∙ sym (found_there g.T.Numbered.number c.args.number c.in-Ok.place c.args.items.now c.in-Ok.ensures)

pub returns-in-Err : goal.returns-in-Err
returns-in-Err g c = sym (found_nowhere g.T.Numbered.number 0 c.args.number c.in-Err.field-0 c.args.items.now c.requires c.in-Err.ensures)
