-- Turns of a worker: those of two stretches, one more, and what one is.
use Rattle.std.proofs.Common.{◌≡◌, ◌++◌, ◌∷◌, ℕ, List, [], IfOk, OnErr, Result, Ok, Err, inl, inr, refl, ap₂, subst}
use Rattle.lang_base.specs.declared.memory.NoMemory.{NoMemory}
use Rattle.lang_core.specs.declared.inputs.Inputs.{Inputs}
use Rattle.service_events.specs.State.{Kept, me}
use Rattle.service_events.specs.declared.event.Done.{Done as NodeDone}
use Rattle.service_events.specs.declared.event.Event.TheVariants as events
use Rattle.io_edge.specs.Edge.{Reads, Writes}
use Rattle.io_links.specs.Connections.{IsNew}
use Rattle.io_links.specs.Exchanges.{Exchanges}
use Rattle.node_core.specs.Notes.{noted_at}
use Rattle.node_core.specs.declared.notes.Notes.{Notes}
use Rattle.node_core.specs.declared.receipt.Receipt.{Receipt}
use Rattle.node_workers.specs.Asking.{MakesOnly}
use Rattle.node_workers.specs.Desks.{Endpoint}
use Rattle.node_workers.specs.Posting.{IsTurn}
use Rattle.node_workers.specs.declared.posts.PostedOne.{PostedOne}
use Rattle.node_workers.specs.Folding.{FoldsOnce}
use Rattle.node_run.specs.Repairing.{FoldsOrRests, StepsOnce}
use Rattle.node_run.specs.Turns.{Turns, TurnsBy}
use Rattle.node_run.specs.Workers.{IsIdle, PostsOrRests, ServesNext, ServesOrRests, Standing, readied, standing}

-- none yet
pub turns_none : {S : Type 0} (Turn : S → S → Type 0) (now : S) → Turns Turn now now
turns_none Turn now = ([], refl)

joined : {S : Type 0} (Turn : S → S → Type 0) (states more : List S) (before mid now : S) → TurnsBy Turn states before mid → TurnsBy Turn more mid now → TurnsBy Turn (states ++ more) before now
joined Turn [] more before mid now same then = subst (λ s. TurnsBy Turn more s now) same then
joined Turn (next ∷ rest) more before mid now h then = (h.0, joined Turn rest more next mid now h.1 then)

pub turns_joined : {S : Type 0} (Turn : S → S → Type 0) (before mid now : S) → Turns Turn before mid → Turns Turn mid now → Turns Turn before now
turns_joined Turn before mid now first then = (first.0 ++ then.0, joined Turn first.0 then.0 before mid now first.1 then.1)

pub turns_more : {S : Type 0} (Turn : S → S → Type 0) (before mid now : S) → Turns Turn before mid → Turn mid now → Turns Turn before now
turns_more Turn before mid now turns once = turns_joined Turn before mid now turns (now ∷ [], (once, refl))

-- ---- a repair step

-- it was made, or refused, where nothing is noted
pub stepped_once : (A B : Type 0) (s t : Kept) (before now : Notes) (result : Result NodeDone NoMemory) → IfOk result (λ d. now ≡ noted_at s t before events.Step d)
    → OnErr result (A × B × (now ≡ before)) → StepsOnce before now
stepped_once A B s t before now (Ok d) noted kept = inr (me t, d, noted)
stepped_once A B s t before now (Err why) noted kept = inl kept.2

-- ---- a fold

pub folded_once : (name : List ℕ) (before now : Notes) (had have : List Receipt) → FoldsOnce name before now had have → FoldsOrRests name before now
folded_once name before now had have (inl none) = inl none.0
folded_once name before now had have (inr folds) = inr (had, have, folds)

-- ---- a turn

-- a pass was readied, and no more was done
pub idle : (before mid : Notes) (had held : List Receipt) (link : Exchanges) → mid ≡ readied before → held ≡ had → IsIdle (standing before had link) (standing mid held link)
idle before mid had held link ready same = ap₂ (λ notes receipts. standing notes receipts link) ready same

-- it was readied, and a turn was taken with it
module _ (before mid now : Notes) (had held have : List Receipt) (was is : Exchanges) (ready : mid ≡ readied before) (same : held ≡ had) where
  pub posted : (e : Endpoint) (dest : List ℕ) (answer : PostedOne) → IsTurn e dest mid now held have was is answer → PostsOrRests e (standing before had was) (standing now have is)
  posted e dest answer turn =
      inl
      (record {
        dest = dest;
        answer = answer;
        turn = subst (λ (n : Notes). IsTurn e dest n now had have was is answer) ready (subst (λ (rs : List Receipt). IsTurn e dest mid now rs have was is answer) same turn);
      })

  pub served : (e : Endpoint) (i : Inputs) (reads reads_now : Reads) → MakesOnly e i reads reads_now mid now held have was is
      → ServesOrRests e reads (standing before had was) (standing now have is)
  served e i reads reads_now makes =
      inl
      (record {
        inputs = i;
        reads_now = reads_now;
        makes = subst (λ (n : Notes). MakesOnly e i reads reads_now n now had have was is) ready
            (subst (λ (rs : List Receipt). MakesOnly e i reads reads_now mid now rs have was is) same makes);
      })

-- a connection that came was served
pub came : (e : Endpoint) (reads : Reads) (writes : Writes) (before now : Standing) → IsNew reads writes → ServesOrRests e reads before now → ServesNext e before now
came e reads writes before now new serves = inl (record { reads = reads; writes = writes; new = new; serves = serves })
