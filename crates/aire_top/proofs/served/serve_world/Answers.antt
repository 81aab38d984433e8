use Rattle.aire_top.specs.Endings.{nothing}
use Rattle.aire_top.proofs.ServingLaws.{world_not_served, world_served}
use Rattle.aire_top.proofs.served.serve_world.Goals as goal

pub returns-in-Ok : goal.returns-in-Ok
returns-in-Ok g c = λ words reads fit is.
    world_served words c.args.world.now fit is _ _ (g.F.Files.loads c.args.files.now) (g.F.Files.loads c.load_world.new.files) reads (g.K.Sink.writes c.args.out.now) (g.K.Sink.writes c.serve.new.out) _
    c.in-Ok.setups.items c.in-Ok.ensures.world (c.in-Ok.ensures.asked (λ e. cc)) c.serve.ensures

pub returns-in-Err : goal.returns-in-Err
returns-in-Err g c = λ words reads fit is.
    world_not_served words c.args.world.now fit is _ _ (g.F.Files.loads c.args.files.now) (g.F.Files.loads c.load_world.new.files) reads (g.K.Sink.writes c.args.out.now) (g.K.Sink.writes c.worldless.new.out) _
    _ c.in-Err.why (nothing c.worldless.result) c.without.ensures.ends c.in-Err.ensures.refused c.in-Err.ensures.asked c.in-Err.ensures.failed c.worldless.ensures
