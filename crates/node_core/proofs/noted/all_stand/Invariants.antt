use Rattle.std.proofs.Common.{◌≡◌, ◌<◌, ℕ, Some, slice_get}
use Rattle.node_core.specs.Closings.{StandsSince}
use Rattle.node_core.specs.declared.orders.OrderNote.{OrderNote}
use Rattle.node_core.proofs.noted.all_stand.Given as goal

abbrev pub invariant-loop-note : goal.invariant-loop-note
invariant-loop-note l = (k : ℕ) (n : OrderNote) → k < l.note-index → slice_get l.orders k ≡ Some n → StandsSince l.since l.services n
