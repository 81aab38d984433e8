-- A run is that of the handler: programs with the same handler for a request run it alike.
use Rattle.std.proofs.Common.{◌≡◌, ◌∙◌, List, Option, Some, None, refl, sym, ap}
use Rattle.std.specs.Prelude.{option_map}
use Rattle.lang_tree.specs.declared.program.Route.{Route}
use Rattle.lang_tree.specs.declared.stmt.Block.{Block}
use Rattle.lang_core.specs.declared.cells.Cell.{Cell}
use Rattle.lang_core.specs.declared.inputs.Inputs.{Inputs}
use Rattle.lang_core.specs.declared.request.Request.{Request}
use Rattle.lang_core.specs.declared.request.Response.{Response}
use Rattle.lang_core.specs.declared.setting.Setting.{Setting}
use Rattle.lang_programs.specs.Settings.{with_program}
use Rattle.lang_values.specs.Given.{Given}
use Rattle.lang_values.specs.Paths.{route_of, segments_of}
use Rattle.handler_run.specs.Handlers.{given, handler_of, not_found, run_block, run_of, run_route}
use Rattle.handler_run.specs.declared.state.Ran.{Ran}
use Rattle.handler_run.specs.declared.state.Ran.TheVariants.{Done}

-- the run of a handler
abbrev run_handler : Option Block → Given → List Cell → Ran
run_handler None g rows = Done not_found
run_handler (Some b) g rows = run_block b g rows

runs_handler : (o : Option Route) (g : Given) (rows : List Cell) → run_route o g rows ≡ run_handler (option_map (λ (r : Route). r.block) o) g rows
runs_handler None g rows = refl
runs_handler (Some r) g rows = refl

pub runs_alike : (p other : List Route) (s : Setting) (q : Request) (i : Inputs) (answers : List Response) (rows : List Cell) → handler_of p q ≡ handler_of other q
    → run_of (with_program p s) q i answers rows ≡ run_of (with_program other s) q i answers rows
runs_alike p other s q i answers rows same =
    runs_handler (route_of p q.method (segments_of q.path)) (given s q i answers) rows
    ∙ ap (λ (o : Option Block). run_handler o (given s q i answers) rows) same
    ∙ sym (runs_handler (route_of other q.method (segments_of q.path)) (given s q i answers) rows)
