-- What a service answers a request.
use Rattle.std.specs.Prelude.{ℕ, List, [], ◌++◌, Option, Some, None, length, codes, decimal, option_map}
use Rattle.lang_tree.specs.declared.program.Route.{Route}
use Rattle.lang_tree.specs.declared.stmt.Block.{Block}
use Rattle.lang_core.specs.declared.cells.Cell.{Cell}
use Rattle.lang_core.specs.declared.inputs.Inputs.{Inputs}
use Rattle.lang_core.specs.declared.request.Request.{Request}
use Rattle.lang_core.specs.declared.request.Response.{Response}
use Rattle.lang_core.specs.declared.setting.Setting.{Setting}
use Rattle.lang_core.specs.declared.trace.Trace.{Trace}
use Rattle.lang_values.specs.Paths.{route_of, segments_of}
use Rattle.handler_run.specs.Runs.{Ended, block_of}
use Rattle.lang_values.specs.declared.given.Fault.{Fault}
use Rattle.lang_values.specs.declared.given.Fault.TheVariants.{Steps, Range, Kind, Limit, Words}
use Rattle.handler_run.specs.declared.state.Flow.{Flow}
use Rattle.handler_run.specs.declared.state.Flow.TheVariants.{GoesOn, Replied, Wants, Faulted}
use Rattle.lang_values.specs.Given.{Given, given_with}
use Rattle.handler_run.specs.declared.state.Ran.{Ran}
use Rattle.handler_run.specs.declared.state.Ran.TheVariants.{Done, Wants as Asks}
use Rattle.handler_run.specs.declared.state.State.{State}

abbrev pub fault_number : Fault → ℕ
fault_number Steps = 1
fault_number Range = 2
fault_number Kind = 3
fault_number Limit = 4
fault_number Words = 5

abbrev pub fault_text : Fault → List ℕ
fault_text f = codes "fault " ++ decimal (fault_number f)

-- the trace of a run that answers this
abbrev pub replied : Response → State → Trace
replied r s = record { reads = s.reads; calls = s.calls; answers = s.answers; writes = s.own; response = r }

-- a run that faults has no writes
abbrev pub faulted_trace : Fault → State → Trace
faulted_trace f s =
    record { reads = s.reads; calls = s.calls; answers = s.answers; writes = []; response = record { status = 500; body = fault_text f } }

-- without a reply the answer is an empty 200
abbrev pub finish : Flow → State → Ran
finish GoesOn s = Done (replied (record { status = 200; body = [] }) s)
finish (Replied r) s = Done (replied r s)
finish (Wants c) s = Asks (length s.calls) s.calls c
finish (Faulted f) s = Done (faulted_trace f s)

abbrev pub finish_of : Ended → Ran
finish_of e = finish e.flow e.state

abbrev pub start : State
start = record { vars = []; own = []; reads = []; calls = []; answers = []; drawn = 0; steps = 0 }

abbrev pub given : Setting → Request → Inputs → List Response → Given
given setting request inputs answers =
    given_with setting request (segments_of request.path) inputs answers

-- no route takes the request
abbrev pub not_found : Trace
not_found = record { reads = []; calls = []; answers = []; writes = []; response = record { status = 404; body = [] } }

abbrev pub run_block : Block → Given → List Cell → Ran
run_block b g rows = finish_of (block_of g rows b start)

abbrev pub run_route : Option Route → Given → List Cell → Ran
run_route None g rows = Done not_found
run_route (Some r) g rows = run_block r.block g rows

-- the run of a request on rows, with the answers of its first calls
abbrev pub run_of : Setting → Request → Inputs → List Response → List Cell → Ran
run_of setting request inputs answers rows =
    run_route (route_of setting.program request.method (segments_of request.path)) (given setting request inputs answers) rows

-- the block that a program has for a request: that of the first route which takes it
abbrev pub handler_of : List Route → Request → Option Block
handler_of program request = option_map (λ (r : Route). r.block) (route_of program request.method (segments_of request.path))
