-- The events of a worker at its node's service.
use Rattle.std.specs.Prelude.{ℕ, ◌≡◌, ◌⊎◌, List, [], ◌∷◌, Option}
use Rattle.service_events.specs.Fits.{Fits}
use Rattle.service_events.specs.State.{Kept, me}
use Rattle.service_events.specs.declared.event.Done.{Done as NodeDone}
use Rattle.service_events.specs.declared.event.Event.{Event as NodeEvent}
use Rattle.node_core.specs.Doings.{HasReceipts, IsDone}
use Rattle.node_core.specs.Notes.{noted_at}
use Rattle.node_core.specs.declared.notes.Begun.{Begun}
use Rattle.node_core.specs.declared.notes.Notes.{Notes}
use Rattle.node_core.specs.declared.receipt.Receipt.{Receipt}

-- The event was made at some moment of the service of this name, which fits its journal, and which answered this; and that is what the worker's notes and receipts say, those of
-- orders among them.
pub record Made (name : List ℕ) (before now : Notes) (had have : List Receipt) (event : NodeEvent) (done : NodeDone) : Type 0 where
  pub service : Kept
  pub left : Kept
  pub secret : List ℕ
  pub is : me service ≡ name
  pub fits : Fits service
  pub made : IsDone service before.begun event done left
  pub notes : now ≡ noted_at service left before event done
  pub receipts : HasReceipts left secret before.begun event done had have

-- the event was made at this service of that name, which fits its journal and answered this
pub record MadeAt (name : List ℕ) (service left : Kept) (begun : Option Begun) (event : NodeEvent) (done : NodeDone) : Type 0 where
  pub is : me service ≡ name
  pub fits : Fits service
  pub made : IsDone service begun event done left

-- no event was made
abbrev pub IsUntouched : Notes → Notes → List Receipt → List Receipt → Type 0
IsUntouched before now had have = (now ≡ before) × (have ≡ had)

-- this event was made once, or none
abbrev pub MakesOnce : List ℕ → NodeEvent → Notes → Notes → List Receipt → List Receipt → Type 0
MakesOnce name event before now had have = IsUntouched before now had have ⊎ ((d : NodeDone) × Made name before now had have event d)

-- these events were made one after the other, each answered so, and no other
abbrev pub MakesAll : List ℕ → List (NodeEvent × NodeDone) → Notes → Notes → List Receipt → List Receipt → Type 0
MakesAll name [] before now had have = IsUntouched before now had have
MakesAll name (made ∷ more) before now had have =
    (mid : Notes) × (held : List Receipt) × Made name before mid had held made.0 made.1 × MakesAll name more mid now held have
