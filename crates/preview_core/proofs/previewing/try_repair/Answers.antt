use Rattle.std.proofs.Common.{ℕ, List, Err, subst}
use Rattle.lang_base.specs.Memory.{Unless}
use Rattle.preview_core.specs.Previews.{HasReplay, ShowsTrials, preview_memory}
use Rattle.preview_core.specs.Repairs.{HaveRunAtMost, HaveRunUntilIdle}
use Rattle.preview_core.specs.declared.trial.Trial.{Trial}
use Rattle.preview_core.proofs.PreviewLemmas.{accepted_replays, refused_shows, tried_timely}
use Rattle.preview_core.proofs.previewing.try_repair.Goals as goal

pub returns-in-Err-clause-exact : goal.returns-in-Err-clause-exact
returns-in-Err-clause-exact c =
    let S : List Trial → Type 0 = λ ts. Unless (preview_memory c.in-Err.why) (ShowsTrials HaveRunUntilIdle c.args.service.now ts c.args.who.now (Err c.in-Err.why)) (Unit {0}) in
    subst S c.as_slice.ensures
    (refused_shows c.args.service.now c.args.copy.now c.journal.result.now.rows c.args.who.now c.as_slice.result.now c.journal.ensures.rows c.requires.same
    ℕ HaveRunUntilIdle c.in-Err.why c.try_all.new.copy c.in-Err.ensures)

pub returns-in-Err-clause-within : goal.returns-in-Err-clause-within
returns-in-Err-clause-within c =
    let S : List Trial → Type 0 = λ ts. Unless (preview_memory c.in-Err.why) (ShowsTrials HaveRunAtMost c.args.service.now ts c.args.who.now (Err c.in-Err.why)) (Unit {0}) in
    subst S c.as_slice.ensures
    (refused_shows c.args.service.now c.args.copy.now c.journal.result.now.rows c.args.who.now c.as_slice.result.now c.journal.ensures.rows c.requires.same
    ℕ HaveRunAtMost c.in-Err.why c.try_all.new.copy c.in-Err.ensures)

pub repair-requires : goal.repair-requires
repair-requires c =
    tried_timely c.args.service.now c.try_all.new.copy c.args.copy.now c.journal.result.now.rows c.args.who.now c.as_slice.result.now c.requires.ready c.requires.same c.in-Ok.ensures

pub returns-in_ok-repair-in-Ok-clause-replay : goal.returns-in_ok-repair-in-Ok-clause-replay
returns-in_ok-repair-in-Ok-clause-replay c =
    let R : List Trial → Type 0 = λ ts. HasReplay c.args.service.now ts c.args.who.now c.in_ok-repair-in-Ok.field-0 in
    subst R c.as_slice.ensures
    (accepted_replays c.args.service.now c.args.copy.now c.journal.result.now.rows c.args.who.now c.as_slice.result.now c.journal.ensures.rows c.requires.same
    c.try_all.new.copy c.in_ok-repair-in-Ok.field-0 c.in-Ok.ensures c.in_ok-repair-in-Ok.ensures.replay)
