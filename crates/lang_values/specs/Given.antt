-- What a run is given beside its rows.
use Rattle.std.specs.Prelude.{ℕ, List}
use Rattle.lang_core.specs.declared.inputs.Inputs.{Inputs}
use Rattle.lang_core.specs.declared.request.Request.{Request}
use Rattle.lang_core.specs.declared.request.Response.{Response}
use Rattle.lang_core.specs.declared.setting.Setting.{Setting}

-- the service's name and peers, the request, the segments of its path, its clock and random words, and the answers of its first calls
pub record Given : Type 0 where
  pub me : List ℕ
  pub peers : List (List ℕ)
  pub request : Request
  pub segments : List (List ℕ)
  pub inputs : Inputs
  pub answers : List Response

-- at a service, with these segments
abbrev pub given_with : Setting → Request → List (List ℕ) → Inputs → List Response → Given
given_with setting request segments inputs answers =
    record { me = setting.me; peers = setting.peers; request = request; segments = segments; inputs = inputs; answers = answers }
