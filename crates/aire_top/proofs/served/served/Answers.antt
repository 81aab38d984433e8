use Rattle.std.proofs.Common.{inr, map}
use Rattle.std.specs.String.{string_bytes}
use Rattle.aire_top.specs.Endings.{nothing}
use Rattle.aire_top.proofs.Bare.{misused_now}
use Rattle.aire_top.proofs.ServingLaws.{not_fitting}
use Rattle.aire_top.proofs.served.served.Goals as goal

pub returns-in-Ok : goal.returns-in-Ok
returns-in-Ok g c = λ reads. c.serve_world.ensures (map string_bytes c.args.words.now) reads c.in-Ok.ensures.fit c.in-Ok.ensures.world

pub returns-in-Err : goal.returns-in-Err
returns-in-Err g c = λ reads.
    let closes = misused_now (g.K.Sink.writes c.args.out.now) (g.K.Sink.writes c.misused.new.out) 2 _ c.misused.result c.misused.ensures in
    inr (nothing c.misused.result, c.without.ensures.ends, not_fitting (map string_bytes c.args.words.now) c.in-Err.place (g.F.Files.loads c.args.files.now) reads (g.K.Sink.writes c.args.out.now) (g.K.Sink.writes c.misused.new.out) _ c.in-Err.ensures.misfit closes)
