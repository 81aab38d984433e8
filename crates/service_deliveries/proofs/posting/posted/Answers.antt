use Rattle.std.proofs.Common.{refl}
use Rattle.service_events.specs.Doing.{post_memory}
use Rattle.service_events.specs.Messages.{posted_event}
use Rattle.service_events.specs.declared.event.Event.TheVariants as events
use Rattle.service_parts.specs.Parts.{kept}
use Rattle.service_parts.proofs.ServiceLaws.{done_service}
use Rattle.service_deliveries.proofs.posting.posted.Goals as goal

pub returns-clause-service : goal.returns-clause-service
returns-clause-service c =
    done_service c.args.parts.now c.meet.new.parts (events.Posted c.args.post.now c.args.reply) post_memory (posted_event (kept c.args.parts.now) c.args.post.now c.args.reply)
    c.meet.result c.meet.ensures.does refl c.meet.ensures.room c.requires
