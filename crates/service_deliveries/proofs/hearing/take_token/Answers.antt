use Rattle.std.proofs.Common.{refl}
use Rattle.service_events.specs.Doing.{answer_memory}
use Rattle.service_events.specs.Messages.{take_token_event}
use Rattle.service_events.specs.declared.event.Event.TheVariants as events
use Rattle.service_parts.specs.Parts.{kept}
use Rattle.service_parts.proofs.ServiceLaws.{done_service}
use Rattle.service_deliveries.proofs.hearing.take_token.Goals as goal

pub returns-clause-service : goal.returns-clause-service
returns-clause-service c =
    done_service c.args.parts.now c.confirm_token.new.parts (events.TakeToken c.args.token.now) answer_memory (take_token_event (kept c.args.parts.now) c.args.token.now)
    c.confirm_token.result c.confirm_token.ensures.does refl c.confirm_token.ensures.room c.requires
