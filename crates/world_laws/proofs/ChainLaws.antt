-- Each call of a run hands on who called for its request, the service itself last, and goes to a peer that is none of these: as it stands
-- below, of the calls that a flight sees.
use Rattle.std.proofs.Common.{ℕ, List, [], ◌∷◌, ◌++◌}
use Rattle.std.specs.List.{AllByRecursion}
use Rattle.lang_core.specs.declared.cells.Cell.{Cell}
use Rattle.lang_core.specs.declared.inputs.Inputs.{Inputs}
use Rattle.lang_core.specs.declared.request.Request.{Request}
use Rattle.lang_core.specs.declared.request.Response.{Response}
use Rattle.lang_core.specs.declared.setting.Setting.{Setting}
use Rattle.handler_run.specs.Handlers.{run_of}
use Rattle.handler_run.specs.declared.state.Ran.{Ran}
use Rattle.handler_run.specs.declared.state.Ran.TheVariants.{Done, Wants}
pub use Rattle.handler_chains.specs.Onward.{IsOnward}
use Rattle.handler_chains.specs.Onward.{calls_in as run_calls}
use Rattle.handler_chains.proofs.OnwardLaws.{calls_onward as each_onward}
use Rattle.flights.specs.Moves.{calls_in}
use Rattle.service_events.proofs.CallRowLemmas.{Each}

each_of_all : {X : Type 0} (P : X → Type 0) (xs : List X) → AllByRecursion P xs → Each P xs
each_of_all P [] h = tt
each_of_all P (x ∷ xs) h = (h.0, each_of_all P xs h.1)

seen_onward : (name : List ℕ) (peers : List (List ℕ)) (q : Request) (ran : Ran) → AllByRecursion (IsOnward name peers q) (run_calls ran)
    → Each (IsOnward name peers q) (calls_in ran)
seen_onward name peers q (Done t) h = each_of_all (IsOnward name peers q) t.calls h
seen_onward name peers q (Wants slot calls call) h = each_of_all (IsOnward name peers q) (calls ++ call ∷ []) h

pub calls_onward : (s : Setting) (q : Request) (i : Inputs) (answers : List Response) (rows : List Cell) → Each (IsOnward s.me s.peers q) (calls_in (run_of s q i answers rows))
calls_onward s q i answers rows = seen_onward s.me s.peers q (run_of s q i answers rows) (each_onward s q i answers rows)
