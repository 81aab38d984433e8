use Rattle.std.proofs.Common.{refl}
use Rattle.world_events.specs.Events.{post_delivered}
use Rattle.world_core.proofs.ActLemmas.{delivers_fetch, delivers_set, delivers_token}
use Rattle.world_core.proofs.PartLemmas.{lacks_acts}
use Rattle.world_core.proofs.deliveries.deliver_post.Goals as goal

pub returns-in_err-served-in-Set : goal.returns-in_err-served-in-Set
returns-in_err-served-in-Set c packets = lacks_acts (λ w. post_delivered w c.args.post.now) _ packets _ _ c.from_residual.result _ _ c.from_residual.ensures.1 c.in_err-served-in-Set.ensures refl

pub returns-in_ok-served-in-Set : goal.returns-in_ok-served-in-Set
returns-in_ok-served-in-Set c packets all found =
    delivers_set all packets c.args.service.now c.args.environment.now c.use_up.new.self c.in-Set.set c.args.post.now c.in-Set.is found
    c.draw-drawn.result.inputs c.draw-drawn.result.word c.take.new.service c.in_ok-served-in-Set.served c.draw-drawn.ensures.inputs c.draw-drawn.ensures.word c.use_up.ensures c.in_ok-served-in-Set.ensures

pub returns-in_err-served-in-Token : goal.returns-in_err-served-in-Token
returns-in_err-served-in-Token c packets = lacks_acts (λ w. post_delivered w c.args.post.now) _ packets _ _ c.from_residual-in_err-served-in-Token.result _ _ c.from_residual-in_err-served-in-Token.ensures.1 c.in_err-served-in-Token.ensures refl

pub returns-in_ok-served-in-Token : goal.returns-in_ok-served-in-Token
returns-in_ok-served-in-Token c packets all found =
    delivers_token all packets c.args.service.now c.args.environment.now c.in-Token.token c.args.post.now c.in-Token.is found c.take_token.new.service c.in_ok-served-in-Token.served c.in_ok-served-in-Token.ensures

pub returns-in_err-served-in-Fetch : goal.returns-in_err-served-in-Fetch
returns-in_err-served-in-Fetch c packets = lacks_acts (λ w. post_delivered w c.args.post.now) _ packets _ _ c.from_residual-in_err-served-in-Fetch.result _ _ c.from_residual-in_err-served-in-Fetch.ensures.1 c.in_err-served-in-Fetch.ensures refl

pub returns-in_ok-served-in-Fetch : goal.returns-in_ok-served-in-Fetch
returns-in_ok-served-in-Fetch c packets all found =
    delivers_fetch all packets c.args.service.now c.args.environment.now c.in-Fetch.fetch c.args.post.now c.in-Fetch.is found c.give.new.service c.in_ok-served-in-Fetch.served c.in_ok-served-in-Fetch.ensures
