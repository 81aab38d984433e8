-- What was made of one event, and for one message.
use Rattle.std.proofs.Common.{◌≡◌, ℕ, inl, inr, ◌++◌, List, [], ◌∷◌, Option, Result, Ok, Err, IfOk, OnErr, refl, subst}
use Rattle.lang_base.specs.declared.memory.NoMemory.{NoMemory as LacksMemory}
use Rattle.service_events.specs.Fits.{Fits}
use Rattle.service_events.specs.State.{Kept, me}
use Rattle.service_events.specs.declared.event.Done.{Done as NodeDone}
use Rattle.service_events.specs.declared.event.Event.{Event as NodeEvent}
use Rattle.node_core.specs.Doings.{HasReceipts, IsDone}
use Rattle.node_core.specs.Notes.{noted_at}
use Rattle.node_core.specs.declared.notes.Begun.{Begun}
use Rattle.node_core.specs.declared.notes.Notes.{Notes}
use Rattle.node_core.specs.declared.receipt.Receipt.{Receipt}
use Rattle.node_workers.specs.Turns.{IsUntouched, Made, MadeAt, MakesAll, MakesOnce}

-- where it was made, all of it was
pub made_so : (service left : Kept) (name secret : List ℕ) (before now : Notes) (had have : List Receipt) (asked : NodeEvent) (answer : Result NodeDone LacksMemory)
    → me service ≡ name → Fits service → IfOk answer (λ (d : NodeDone). IsDone service before.begun asked d left)
    → IfOk answer (λ (d : NodeDone). now ≡ noted_at service left before asked d)
    → IfOk answer (λ (d : NodeDone). HasReceipts left secret before.begun asked d had have)
    → IfOk answer (λ (d : NodeDone). Made name before now had have asked d)
made_so service left name secret before now had have asked (Ok d) is fits made notes receipts =
    record { service = service; left = left; secret = secret; is = is; fits = fits; made = made; notes = notes; receipts = receipts }
made_so service left name secret before now had have asked (Err why) is fits made notes receipts = tt

-- likewise at that service
pub made_at : (service left : Kept) (name : List ℕ) (begun : Option Begun) (asked : NodeEvent) (answer : Result NodeDone LacksMemory) → me service ≡ name → Fits service
    → IfOk answer (λ (d : NodeDone). IsDone service begun asked d left) → IfOk answer (MadeAt name service left begun asked)
made_at service left name begun asked (Ok d) is fits made = record { is = is; fits = fits; made = made }
made_at service left name begun asked (Err why) is fits made = tt

-- without it nothing was noted, and no receipt given
pub untouched_by : (before now : Notes) (had have : List Receipt) (Beside : Type 0) (answer : Result NodeDone LacksMemory) → OnErr answer ((have ≡ had) × Beside × (now ≡ before))
    → OnErr answer (IsUntouched before now had have)
untouched_by before now had have Beside (Ok d) left = tt
untouched_by before now had have Beside (Err why) left = (left.2, left.0)

-- the event was made once, or none
pub made_once : (name : List ℕ) (before now : Notes) (had have : List Receipt) (asked : NodeEvent) (answer : Result NodeDone LacksMemory)
    → IfOk answer (Made name before now had have asked) → OnErr answer ((now ≡ before) × (have ≡ had)) → MakesOnce name asked before now had have
made_once name before now had have asked (Ok d) made nothing = inr (d, made)
made_once name before now had have asked (Err why) made nothing = inl nothing

-- one more behind others
pub makes_then : (name : List ℕ) (front : List (NodeEvent × NodeDone)) (before mid now : Notes) (had held have : List Receipt) (asked : NodeEvent) (d : NodeDone)
    → MakesAll name front before mid had held → Made name mid now held have asked d → MakesAll name (front ++ (asked, d) ∷ []) before now had have
makes_then name [] before mid now had held have asked d none made =
    let here = subst (λ (h : List Receipt). Made name mid now h have asked d) none.1 made in
    (now, have, subst (λ (n : Notes). Made name n now had have asked d) none.0 here, (refl, refl))
makes_then name (x ∷ front) before mid now had held have asked d makes made =
    (makes.0, makes.1, makes.2, makes_then name front makes.0 mid now makes.1 held have asked d makes.3 made)
