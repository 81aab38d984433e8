-- The run of a request in place: each call runs at once, on the whole world, before its caller goes on.
--
-- It is a recursion on tapes. Neither a log nor an answer from one, nor any message, occurs in it.
use Rattle.std.specs.Prelude.{ℕ, Bool, true, false, List, [], ◌∷◌, ◌++◌, Option, Some, None, find, if◌then◌else◌}
use Rattle.lang_base.specs.Texts.{same_text}
use Rattle.lang_core.specs.HandedOn.{Route}
use Rattle.lang_core.specs.Rows.{apply}
use Rattle.lang_core.specs.Traces.{dead_trace}
use Rattle.lang_core.specs.declared.cells.Cell.{Cell}
use Rattle.lang_core.specs.declared.inputs.Inputs.{Inputs}
use Rattle.lang_core.specs.declared.request.Request.{Request}
use Rattle.lang_core.specs.declared.request.Response.{Response}
use Rattle.lang_core.specs.declared.setting.Setting.{Setting}
use Rattle.lang_core.specs.declared.trace.CallMade.{CallMade}
use Rattle.lang_core.specs.declared.writes.Write.{Write}
use Rattle.handler_run.specs.Handlers.{run_of}
use Rattle.handler_run.specs.HandedOn.{with_program}
use Rattle.handler_run.specs.declared.state.Ran.{Ran}
use Rattle.handler_run.specs.declared.state.Ran.TheVariants.{Done, Wants}
use Rattle.one_world.specs.declared.rows.Rows.{Rows}

-- a service, the clock and random words that its request is given, the program that this runs under, whether it is struck, the tapes of its calls by slot; and
-- the tapes behind
pub data Tapes : Type 0 where
  none : Tapes
  tape : (service : List ℕ) → (inputs : Inputs) → (program : List Route) → (struck : Bool) → (below : Tapes) → (behind : Tapes) → Tapes

-- responses, each with those of the calls, and with the responses behind
pub data Responses : Type 0 where
  silent : Responses
  said : (response : Response) → (below : Responses) → (behind : Responses) → Responses

-- one map of rows for each service
abbrev pub World : Type 0
World = List Rows

-- the rows of the service of this name
abbrev pub rows_at : List ℕ → World → List Cell
rows_at name [] = []
rows_at name (r ∷ world) = if same_text r.service name then r.rows else rows_at name world

-- where these writes were made at that service
abbrev pub with_writes : List ℕ → List Write → World → World
with_writes name writes [] = []
with_writes name writes (r ∷ world) =
    if same_text r.service name then record { service = r.service; rows = apply r.rows writes } ∷ world
    else r ∷ with_writes name writes world

-- the world after a request, its response, and those of its calls
pub record Played : Type 0 where
  pub world : World
  pub response : Response
  pub below : Responses

-- a run that ends makes its writes; one that wants a call more has no tape for it
abbrev pub ended : List ℕ → World → Ran → Option Played
ended me w (Done t) = Some (record { world = with_writes me t.writes w; response = t.response; below = silent })
ended me w (Wants slot calls call) = None

-- goes on with the call to which a run comes, where that is of this service
abbrev pub at_call : Ran → List ℕ → (CallMade → Option Played) → Option Played
at_call (Done t) dest next = None
at_call (Wants slot calls call) dest next = if same_text call.dest dest then next call else None

-- the setting of the service of this name, if it is one of these
abbrev pub setting_in : List ℕ → List Setting → Option Setting
setting_in name settings = find (λ s. same_text s.me name) settings

-- at that service, with this program; a struck request does nothing, and answers 410
abbrev pub at_service : Option Setting → List Route → Bool → World → (Setting → Option Played) → Option Played
at_service None program struck w next = None
at_service (Some s) program true w next = Some (record { world = w; response = dead_trace.response; below = silent })
at_service (Some s) program false w next = next (with_program program s)

-- with the response of a call before those of the calls behind it
abbrev pub and_behind : Played → Option Played → Option Played
and_behind p None = None
and_behind p (Some q) = Some (record { world = q.world; response = q.response; below = said p.response p.below q.below })

-- goes on where a call was played
abbrev pub go_on : Option Played → (Played → Option Played) → Option Played
go_on None next = None
go_on (Some p) next = and_behind p (next p)

-- a request of a service on a world, the first calls of which gave these responses: each further call plays the next of these tapes at once, with what the
-- call asks, and what that wrote stands before the request goes on; the request's own writes are made at its end
abbrev pub in_place : Tapes → List Setting → Setting → Request → Inputs → List Response → World → Option Played
in_place none settings s q i given w = ended s.me w (run_of s q i given (rows_at s.me w))
in_place (tape dest j program struck below behind) settings s q i given w =
    at_call (run_of s q i given (rows_at s.me w)) dest (λ call. go_on
    (at_service (setting_in dest settings) program struck w (λ callee. in_place below settings callee call.request j [] w))
    (λ p. in_place behind settings s q i (given ++ p.response ∷ []) p.world))
