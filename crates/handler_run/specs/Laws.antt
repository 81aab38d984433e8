-- What the laws of a run speak of.
use Rattle.std.specs.Prelude.{ℕ, List}
use Rattle.lang_core.specs.declared.trace.CallMade.{CallMade}
use Rattle.lang_core.specs.declared.trace.Trace.{Trace}
use Rattle.handler_run.specs.declared.state.Ran.{Ran}
use Rattle.handler_run.specs.declared.state.Ran.TheVariants.{Done, Wants}

-- what holds of the trace of a run that ended
abbrev pub IfDone : Ran → (Trace → Type 0) → Type 0
IfDone (Done t) P = P t
IfDone (Wants slot calls call) P = Unit {0}

-- what holds of the slot, the calls with answers and the call without one of a run that wants an answer
abbrev pub IfWants : Ran → (ℕ → List CallMade → CallMade → Type 0) → Type 0
IfWants (Done t) P = Unit {0}
IfWants (Wants slot calls call) P = P slot calls call

-- the run ended
abbrev pub IsDone : Ran → Type 0
IsDone (Done t) = Unit {0}
IsDone (Wants slot calls call) = ⊥

-- the calls of a run that have answers
abbrev pub calls_of : Ran → List CallMade
calls_of (Done t) = t.calls
calls_of (Wants slot calls call) = calls
