use Rattle.std.proofs.Common.{subst, sym}
use Rattle.lang_core.specs.Places.{IsOrdered}
use Rattle.lang_core.specs.Rows.{cell_place}
use Rattle.lang_core.proofs.PlaceLemmas.{ordered-set, ordered-unset}
use Rattle.lang_core.proofs.writes.apply_one.Goals as goal

pub returns-in-Some-clause-ordered : goal.returns-in-Some-clause-ordered
returns-in-Some-clause-ordered c = subst (IsOrdered cell_place) (sym c.set_in_room.ensures.items) (ordered-set cell_place _ c.args.cells.now.items c.requires.ordered)

pub returns-in-None-clause-ordered : goal.returns-in-None-clause-ordered
returns-in-None-clause-ordered c = subst (IsOrdered cell_place) (sym c.unset_items.ensures.items) (ordered-unset cell_place _ c.args.cells.now.items c.requires.ordered)
