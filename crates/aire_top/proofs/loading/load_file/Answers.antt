use Rattle.std.proofs.Common.{Ok}
use Rattle.std.proofs.lemmas.Result.{IfOk-weaker}
use Rattle.aire_top.proofs.Worlds.{short_file}
use Rattle.aire_top.proofs.loading.load_file.Goals as goal

pub returns-in-Ok-clause-world : goal.returns-in-Ok-clause-world
returns-in-Ok-clause-world g c =
    IfOk-weaker c.world_from.result _ _ (λ setups is. short_file (g.F.Files.loads c.args.files.now).files c.args.path.now c.in-Ok.bytes (Ok setups.items) c.in-Ok.ensures.file c.in-Ok.ensures.within is) (rw c.as_slice.ensures at c.world_from.ensures.world)
