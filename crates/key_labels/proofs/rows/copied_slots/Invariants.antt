use Rattle.std.proofs.Common.{take}
use Rattle.std.specs.List.{AllZip}
use Rattle.key_labels.specs.Rows.{IsCopy}
use Rattle.key_labels.proofs.rows.copied_slots.Given as goal

abbrev pub invariant-loop-row : goal.invariant-loop-row
invariant-loop-row l = AllZip IsCopy (take l.row-index l.slots) l.copies.items
