use Rattle.std.proofs.Common.{◌∙◌}
use Rattle.aire_top.proofs.MadeWell.{seed_ends}
use Rattle.aire_top.proofs.making.make_of.Goals as goal

pub returns : goal.returns
returns g c =
    seed_ends c.args.seed c.args.n _ _ (g.K.Sink.writes c.args.out.now) (g.K.Sink.writes c.run_made.new.out) _
    c.requires c.in-Ok-posts_world.ensures.world (c.as_bytes.ensures ∙ c.in-Ok.ensures) c.run_made.ensures
