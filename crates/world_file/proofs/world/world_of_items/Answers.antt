use Rattle.std.proofs.Common.{◌<◌, ◌≤◌, length, Ok, sym, ap, ◌∙◌, arith}
use Rattle.std.proofs.lemmas.Bool.Decides.{nat_tests}
use Rattle.std.proofs.lemmas.Result.{IfOk-weaker}
use Rattle.world_file.specs.Worlds.{is_memory, joined}
use Rattle.world_file.proofs.Json.{some_members}
use Rattle.world_file.proofs.RefusedLemmas.{unless_so}
use Rattle.world_file.proofs.world.world_of_items.Goals as goal

pub returns-in-Ok-clause-world : goal.returns-in-Ok-clause-world
returns-in-Ok-clause-world c =
    let some : 0 < length c.args.services.now = grind (arith, nat_tests) in
    let few : length c.args.services.now ≤ 16 = omega arith in
    IfOk-weaker c.finished.result _ _ (λ world is. some_members c.args.services.now some few ∙ ap joined c.in-Ok.ensures.members ∙ ap Ok (sym is)) c.finished.ensures.world

pub returns-in-Err-clause-refused : goal.returns-in-Err-clause-refused
returns-in-Err-clause-refused c =
    let some : 0 < length c.args.services.now = grind (arith, nat_tests) in
    let few : length c.args.services.now ≤ 16 = omega arith in
    unless_so (is_memory c.in-Err.why) _ _ _ (λ is. some_members c.args.services.now some few ∙ ap joined is) c.in-Err.ensures.refused
