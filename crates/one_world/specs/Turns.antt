-- The run of a world from its histories: what a request does in place, without the responses of what it called.
use Rattle.std.specs.Prelude.{ℕ, zero, suc, List, [], ◌∷◌, ◌++◌, Option, Some, None, if◌then◌else◌}
use Rattle.lang_base.specs.Texts.{same_text}
use Rattle.lang_core.specs.Traces.{dead_trace}
use Rattle.lang_core.specs.declared.ids.RequestId.{RequestId}
use Rattle.lang_core.specs.declared.request.Request.{Request}
use Rattle.lang_core.specs.declared.request.Response.{Response}
use Rattle.lang_core.specs.declared.trace.CallMade.{CallMade}
use Rattle.handler_run.specs.Handlers.{run_of}
use Rattle.handler_run.specs.declared.state.Ran.{Ran}
use Rattle.handler_run.specs.declared.state.Ran.TheVariants.{Done, Wants}
use Rattle.execution.specs.Executions.{Act, History}
use Rattle.execution.specs.Together.{history_in, name_of}
use Rattle.one_world.specs.Tapes.{World, rows_at, with_writes}
use Rattle.one_world.specs.Trees.{act_in, callee_in, calls_of, setting_of}

-- the world after a request, and its response
pub record Turned : Type 0 where
  pub world : World
  pub response : Response

-- what a request does that asks this
abbrev pub Player : Type 0
Player = History → Act → Request → World → Option Turned

abbrev pub turn_end : List ℕ → World → Ran → Option Turned
turn_end me w (Done t) = Some (record { world = with_writes me t.writes w; response = t.response })
turn_end me w (Wants slot calls call) = None

-- the call to which a run comes, where it is to this service
abbrev pub call_to : Ran → List ℕ → Option CallMade
call_to (Done t) dest = None
call_to (Wants slot calls call) dest = if same_text call.dest dest then Some call else None

abbrev pub with_call : Option CallMade → (CallMade → Option Turned) → Option Turned
with_call None next = None
with_call (Some call) next = next call

abbrev pub turn_on : Option Turned → (Turned → Option Turned) → Option Turned
turn_on None next = None
turn_on (Some t) next = next t

-- a request that was struck does nothing, and answers 410
abbrev pub turn_act : Player → World → Request → History → Act → Option Turned
turn_act player w q h a = if a.struck then Some (record { world = w; response = dead_trace.response }) else player h a q w

abbrev pub turn_found : Player → World → Request → History → Option Act → Option Turned
turn_found player w q h None = None
turn_found player w q h (Some a) = turn_act player w q h a

abbrev pub turn_callee : Player → List ℕ → ℕ → World → Request → Option History → Option Turned
turn_callee player caller n w q None = None
turn_callee player caller n w q (Some h) = turn_found player w q h (callee_in caller n h.acts)

-- a request that has made its calls, of which no name may be left
abbrev pub turn_last : History → Act → Request → List ℕ → List Response → World → Option Turned
turn_last h a q [] given w = turn_end (name_of h) w (run_of (setting_of h a) q a.inputs given (rows_at (name_of h) w))
turn_last h a q (n ∷ ns) given w = None

-- the call to which a request comes whose first calls gave these responses
abbrev pub turn_call : Player → List History → History → Act → Request → ℕ → List ℕ → List Response → World → Option Turned
turn_call player world h a q n dest given w =
    with_call (call_to (run_of (setting_of h a) q a.inputs given (rows_at (name_of h) w)) dest) (λ call. turn_callee player (name_of h) n w call.request (history_in dest world))

-- a request whose first calls gave these responses, and which makes these calls more
abbrev pub turn_calls : Player → List History → History → Act → Request → List ℕ → List CallMade → List Response → World → Option Turned
turn_calls player world h a q [] [] given w = turn_end (name_of h) w (run_of (setting_of h a) q a.inputs given (rows_at (name_of h) w))
turn_calls player world h a q (n ∷ ns) (c ∷ cs) given w =
    turn_on (turn_call player world h a q n c.dest given w) (λ t. turn_calls player world h a q ns cs (given ++ t.response ∷ []) t.world)
turn_calls player world h a q ns cs given w = None

-- where calls lead down so deep at most
abbrev pub turn_all : ℕ → List History → Player
turn_all zero world h a q w = None
turn_all (suc depth) world h a q w = turn_calls (turn_all depth world) world h a q a.numbers (calls_of a) [] w

abbrev pub turn_root : ℕ → List History → World → History → Option Act → Option Turned
turn_root depth world w h None = None
turn_root depth world w h (Some a) = turn_act (turn_all (suc depth) world) w a.request h a

abbrev pub turn_id : ℕ → List History → ℕ → World → Option History → Option Turned
turn_id depth world number w None = None
turn_id depth world number w (Some h) = turn_root depth world w h (act_in number h.acts)

abbrev pub next_world : Option Turned → (World → Option World) → Option World
next_world None next = None
next_world (Some t) next = next t.world

-- the world after these roots
abbrev pub turn_roots : ℕ → List History → List RequestId → World → Option World
turn_roots depth world [] w = Some w
turn_roots depth world (i ∷ order) w =
    next_world (turn_id depth world i.number w (history_in i.service world)) (λ next. turn_roots depth world order next)
