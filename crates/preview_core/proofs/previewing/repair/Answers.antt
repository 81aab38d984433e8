use Rattle.std.proofs.Common.{List, ℕ, sym, subst}
use Rattle.preview_core.specs.Repairs.{HaveRunAtMost, HaveRunUntilIdle}
use Rattle.preview_core.proofs.PreviewLemmas.{at_most, replays_repair, shows_repair}
use Rattle.preview_core.proofs.previewing.repair.Goals as goal

pub returns-clause-shown : goal.returns-clause-shown
returns-clause-shown c =
    let R : List ℕ → Type 0 = λ ids. HaveRunUntilIdle c.args.copy.now ids c.step_until_idle.new.service in
    shows_repair HaveRunUntilIdle c.args.service.now c.args.copy.now c.step_until_idle.new.service c.as_slice.result.now c.told.result
    (subst R (sym c.as_slice.ensures) c.in_ok-ids.ensures.repaired) c.told.ensures.ran c.told.ensures.rows c.told.ensures.posts

pub returns-clause-within : goal.returns-clause-within
returns-clause-within c =
    let R : List ℕ → Type 0 = λ ids. HaveRunAtMost c.args.copy.now ids c.step_until_idle.new.service in
    shows_repair HaveRunAtMost c.args.service.now c.args.copy.now c.step_until_idle.new.service c.as_slice.result.now c.told.result
    (subst R (sym c.as_slice.ensures) (at_most c.args.copy.now c.step_until_idle.new.service c.in_ok-ids.ids c.in_ok-ids.ensures)) c.told.ensures.ran c.told.ensures.rows c.told.ensures.posts

pub returns-clause-replay : goal.returns-clause-replay
returns-clause-replay c =
    replays_repair c.args.service.now c.args.copy.now c.step_until_idle.new.service c.in_ok-ids.ids c.told.result c.in_ok-ids.ensures c.look_at.ensures.fits c.told.ensures.leads
