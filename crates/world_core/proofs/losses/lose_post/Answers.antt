use Rattle.world_events.specs.Events.{post_lost, posted_served, sender}
use Rattle.service_events.specs.declared.answers.PostReply.TheVariants.{Lost}
use Rattle.world_core.proofs.ActLemmas.{losing_acts}
use Rattle.std.proofs.Common.{refl}
use Rattle.world_core.proofs.PartLemmas.{lacks_acts}
use Rattle.world_core.proofs.losses.lose_post.Goals as goal

pub returns : goal.returns
returns c packets all found =
    losing_acts all packets (sender c.args.post.now) c.args.service.now found c.args.environment.now c.lose.new.self (λ x note. posted_served c.args.post.now (Lost note) x)
    c.note-note.result c.posted.new.service c.in_ok-served.served c.note-note.ensures.before c.note-note.ensures.after c.lose.ensures c.in_ok-served.ensures

pub returns-in_err-served : goal.returns-in_err-served
returns-in_err-served c packets = lacks_acts (λ w. post_lost w c.args.post.now) _ packets _ _ c.from_residual.result _ _ c.from_residual.ensures.1 c.in_err-served.ensures refl
