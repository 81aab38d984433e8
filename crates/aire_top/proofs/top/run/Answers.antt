use Rattle.std.proofs.Common.{List, subst, sym}
use Rattle.world_file.specs.declared.setup.Setup.{Setup}
use Rattle.aire_top.specs.Closings.{RunsIn}
use Rattle.aire_top.specs.Endings.{Answer, RunEnds, answer_in, nothing, outside}
use Rattle.aire_top.specs.Top.{fitting}
use Rattle.aire_top.proofs.Runs.{in_world, no_world}
use Rattle.aire_top.proofs.top.run.Goals as goal

pub returns-in-Ok : goal.returns-in-Ok
returns-in-Ok g c =
    let mid = outside (g.F.Files.loads c.load_world.new.files) (g.S.Source.reads c.args.input.now) (g.K.Sink.writes c.args.out.now) in
    let now = outside (g.F.Files.loads c.run_in.new.files) (g.S.Source.reads c.run_in.new.input) (g.K.Sink.writes c.run_in.new.out) in
    let P : List Setup → Type 0 = λ setups. RunsIn setups c.args.script.now mid now (answer_in c.run_in.result.status c.run_in.result.world) in
    in_world c.args.world.now c.args.script.now c.in-Ok.setups.items (g.F.Files.loads c.args.files.now) (g.F.Files.loads c.load_world.new.files) (g.S.Source.reads c.args.input.now) (g.K.Sink.writes c.args.out.now) now _
    c.in-Ok.ensures.world c.load_world.ensures.files (c.in-Ok.ensures.asked (λ e. cc)) c.load_world.ensures.counted (subst P c.deref.ensures.value c.run_in.ensures)

pub returns-in-Err : goal.returns-in-Err
returns-in-Err g c =
    let before = outside (g.F.Files.loads c.args.files.now) (g.S.Source.reads c.args.input.now) (g.K.Sink.writes c.args.out.now) in
    let now = outside (g.F.Files.loads c.load_world.new.files) (g.S.Source.reads c.args.input.now) (g.K.Sink.writes c.worldless.new.out) in
    let P : Answer → Type 0 = λ a. RunEnds (fitting c.args.world.now c.args.script.now) before now a in
    subst P (sym c.without.ensures)
    (no_world c.in-Err.why c.args.world.now c.args.script.now (g.F.Files.loads c.args.files.now) (g.F.Files.loads c.load_world.new.files) (g.S.Source.reads c.args.input.now) (g.K.Sink.writes c.args.out.now) (g.K.Sink.writes c.worldless.new.out)
    (nothing c.worldless.result) c.in-Err.ensures.refused c.in-Err.ensures.asked c.in-Err.ensures.failed c.worldless.ensures)
