-- What a run that ended leaves.
use Rattle.lang_core.specs.Traces.{dead_trace}
use Rattle.lang_core.specs.declared.trace.Trace.{Trace}
use Rattle.execution.specs.HandedOn.{Ran}
use Rattle.execution.specs.HandedOn.{Done, Wants}

-- the trace of a run that ended
abbrev pub trace_or_dead : Ran → Trace
trace_or_dead (Done t) = t
trace_or_dead (Wants slot calls call) = dead_trace
