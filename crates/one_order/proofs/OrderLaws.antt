-- What the test of an order promises.
use Rattle.std.proofs.Common.{◌≡◌, ◌↔◌, Bool, true, List, sym, ◌∙◌}
use Rattle.lang_core.specs.declared.ids.RequestId.{RequestId}
use Rattle.execution.specs.Executions.{History}
use Rattle.execution.specs.Together.{IsLegalTogether}
use Rattle.one_world.specs.Certificates.{AreNamed, Passes}
use Rattle.one_world.specs.Checks.{is_certificate}
use Rattle.one_world.specs.OneWorld.{RunsAsOne}
use Rattle.one_world.proofs.OneRun.{runs_as_one}
use Rattle.one_world.proofs.Passing.{certificate_passes, passes_certificate}

pub exact_so : (world : List History) → IsLegalTogether world → (order : List RequestId) → (b : Bool) → b ≡ is_certificate world order → (b ≡ true) ↔ Passes world order
exact_so world legal order b is =
    (λ so. certificate_passes world legal order (sym is ∙ so), λ passes. is ∙ passes_certificate world legal order passes)

pub one_world_so : (world : List History) → IsLegalTogether world → AreNamed world → (order : List RequestId) → (b : Bool) → b ≡ is_certificate world order → b ≡ true
    → RunsAsOne world order
one_world_so world legal named order b is so = runs_as_one world legal named order (certificate_passes world legal order (sym is ∙ so))
