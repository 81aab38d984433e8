use Rattle.execution.specs.HandedOn.{run_of}
use Rattle.local_repair.specs.Programs.{setting_of}
use Rattle.local_repair.proofs.CallsLemmas.{IsTurn}
use Rattle.local_repair.proofs.rerun.live_trace.Given as goal

abbrev pub invariant-loop-turn : goal.invariant-loop-turn
invariant-loop-turn g l = IsTurn (λ xs. run_of (setting_of l.setting l.entry) l.entry.request l.entry.inputs xs (g.V.View.rows l.view)) (g.S.Slots.consumed_of l.slots) l.old l.entry.slots l.answers l.turn
