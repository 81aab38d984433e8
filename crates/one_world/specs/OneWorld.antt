-- The run of a whole world as one program: roots one after the other, each with all that it calls.
use Rattle.std.specs.Prelude.{◌≡◌, List, [], ◌∷◌, Option, Some, None, IsSomeAnd, map}
use Rattle.lang_core.specs.declared.ids.RequestId.{RequestId}
use Rattle.lang_core.specs.declared.request.Request.{Request}
use Rattle.lang_core.specs.declared.setting.Setting.{Setting}
use Rattle.execution.specs.Executions.{History}
use Rattle.execution.specs.Together.{name_of}
use Rattle.one_world.specs.Tapes.{Played, Responses, Tapes, World, at_service, in_place, setting_in}
use Rattle.one_world.specs.Tapes.{none as no_tapes, said, silent, tape}
use Rattle.one_world.specs.Trees.{AreRoots, Trees, none, requests_of, tree}

-- the world after roots, and the responses of these and of all that they called
pub record Run : Type 0 where
  pub world : World
  pub responses : Responses

abbrev pub and_roots : Played → Option Run → Option Run
and_roots p None = None
and_roots p (Some r) = Some (record { world = r.world; responses = said p.response p.below r.responses })

abbrev pub next_root : Option Played → (Played → Option Run) → Option Run
next_root None next = None
next_root (Some p) next = and_roots p (next p)

-- roots that ask this, one after the other
abbrev pub run_roots : Tapes → List Setting → List Request → World → Option Run
run_roots no_tapes settings [] w = Some (record { world = w; responses = silent })
run_roots (tape dest j program struck below behind) settings (q ∷ qs) w =
    next_root (at_service (setting_in dest settings) program struck w (λ s. in_place below settings s q j [] w))
    (λ p. run_roots behind settings qs p.world)
run_roots tapes settings qs w = None

-- the tapes of requests
abbrev pub tapes_of : Trees → Tapes
tapes_of none = no_tapes
tapes_of (tree h a below behind) = tape (name_of h) a.inputs a.program a.struck (tapes_of below) (tapes_of behind)

-- each service without rows, and with its last
abbrev pub before_all : List History → World
before_all world = map (λ h. record { service = name_of h; rows = [] }) world

abbrev pub after_all : List History → World
after_all world = map (λ h. record { service = name_of h; rows = h.rows }) world

abbrev pub settings_of : List History → List Setting
settings_of world = map (λ h. h.setting) world

-- the run of these roots, from empty rows on
abbrev pub one_world : List History → Trees → Option Run
one_world world roots = run_roots (tapes_of roots) (settings_of world) (requests_of roots) (before_all world)

-- each response is what is told that the request did
abbrev pub AreReplies : Trees → Responses → Type 0
AreReplies none silent = Unit {0}
AreReplies (tree h a below behind) (said r under later) = IsSomeAnd a.did (λ d. d.response ≡ r) × AreReplies below under × AreReplies behind later
AreReplies trees responses = ⊥

-- the roots in this order run as one program, which ends with the last rows of the histories, and in which each request responds as its history says
pub record RunsAsOne (world : List History) (order : List RequestId) : Type 0 where
  pub trees : Trees
  pub roots : AreRoots trees world order
  pub run : Run
  pub runs : one_world world trees ≡ Some run
  pub rows : run.world ≡ after_all world
  pub replies : AreReplies trees run.responses
