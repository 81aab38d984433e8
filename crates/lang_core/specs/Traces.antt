-- The trace of a request that has no effect.
use Rattle.std.specs.Prelude.{[]}
use Rattle.lang_core.specs.declared.trace.Trace.{Trace}

-- it reads, calls and writes nothing, and answers 410 with an empty body
abbrev pub dead_trace : Trace
dead_trace = record { reads = []; calls = []; answers = []; writes = []; response = record { status = 410; body = [] } }
