use Rattle.std.proofs.Common.{◌∙◌, ap}
use Rattle.std.proofs.lemmas.Result.{IfOk-weaker}
use Rattle.aire_top.specs.Top.{fresh}
use Rattle.aire_top.proofs.making.posts_world.Goals as goal

pub returns-clause-world : goal.returns-clause-world
returns-clause-world c = IfOk-weaker c.started.result _ _ (λ world is. (_, c.in_ok-setups.ensures.posts, is ∙ ap fresh c.deref.ensures.value)) c.started.ensures.fresh
