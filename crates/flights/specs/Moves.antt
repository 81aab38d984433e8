-- What a flight does after a run.
use Rattle.std.specs.Prelude.{ℕ, suc, List, [], ◌∷◌, ◌++◌, Option, Some, None, if◌then◌else◌, option_map}
use Rattle.lang_base.specs.Equal.{equal}
use Rattle.lang_core.specs.contracts.trace.CallMade as call_made
use Rattle.lang_core.specs.declared.trace.CallMade.{CallMade}
use Rattle.handler_run.specs.declared.state.Ran.{Ran}
use Rattle.handler_run.specs.declared.state.Ran.TheVariants.{Done, Wants}
use Rattle.flights.specs.declared.flight.Flight.{Flight}
use Rattle.flights.specs.declared.flight.Move.{Move}
use Rattle.flights.specs.declared.flight.Move.TheVariants.{Commit, Name, Change}

-- the calls of a run, the one that it wants among them
abbrev pub calls_in : Ran → List CallMade
calls_in (Done t) = t.calls
calls_in (Wants slot calls call) = calls ++ call ∷ []

-- the first place at which both have a call, and another one
abbrev pub first_other : List CallMade → List CallMade → Option ℕ
first_other [] news = None
first_other (o ∷ os) [] = None
first_other (o ∷ os) (n ∷ ns) = if equal call_made.the_row.coded o n then option_map suc (first_other os ns) else Some 0

abbrev pub by_run : Ran → Move
by_run (Done t) = Commit
by_run (Wants slot calls call) = Name

abbrev pub change_or : Option ℕ → Move → Move
change_or (Some slot) move = Change slot
change_or None move = move

-- a change at the first slot whose call is another one; else the next call, where the run wants one; else the commit
abbrev pub next_move : Flight → Ran → Move
next_move f ran = change_or (first_other f.calls (calls_in ran)) (by_run ran)
