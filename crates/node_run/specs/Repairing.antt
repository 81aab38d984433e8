-- What a worker that repairs asks of its service: repair steps, and folds where nothing is to be repaired.
use Rattle.std.specs.Prelude.{ℕ, ◌≡◌, ◌⊎◌, List}
use Rattle.service_events.specs.declared.event.Done.{Done as NodeDone}
use Rattle.service_events.specs.declared.event.Event.TheVariants as events
use Rattle.node_core.specs.Notes.{noted}
use Rattle.node_core.specs.declared.notes.Notes.{Notes}
use Rattle.node_core.specs.declared.receipt.Receipt.{Receipt}
use Rattle.node_workers.specs.Folding.{Folds}
use Rattle.node_run.specs.Turns.{Turns}

-- one repair step, or nothing
abbrev pub StepsOnce : Notes → Notes → Type 0
StepsOnce before now = (now ≡ before) ⊎ ((name : List ℕ) × (d : NodeDone) × (now ≡ noted name before events.Step d))

-- no order to fold, or one of the service of this name by itself
abbrev pub FoldsOrRests : List ℕ → Notes → Notes → Type 0
FoldsOrRests name before now = (now ≡ before) ⊎ ((had : List Receipt) × (have : List Receipt) × Folds name before now had have)

-- a repair step, or none, and then such an order, or none
abbrev pub RepairsOnce : List ℕ → Notes → Notes → Type 0
RepairsOnce name before now = (mid : Notes) × StepsOnce before mid × FoldsOrRests name mid now

-- nothing else, turn by turn
abbrev pub RepairsAlone : List ℕ → Notes → Notes → Type 0
RepairsAlone name before now = Turns (RepairsOnce name) before now
