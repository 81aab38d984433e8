use Rattle.service_events.proofs.StepLaw.{apart_behind}
use Rattle.service_parts.specs.Parts.{kept}
use Rattle.service_repairs.proofs.DraftedLemmas.{accepted_does, accepted_service, drafted_tells_none, refused_does}
use Rattle.service_repairs.proofs.RepairLemmas.{may_order}
use Rattle.service_repairs.proofs.ordering.new_order.Goals as goal

pub drafted-requires-clause-apart : goal.drafted-requires-clause-apart
drafted-requires-clause-apart c = apart_behind (kept c.args.parts.now) c.requires.service.fits.asked.distinct

pub accepted-requires-clause-may : goal.accepted-requires-clause-may
accepted-requires-clause-may c =
    may_order c.args.parts.now c.args.command c.args.who c.requires.service c.in-Ok.ensures.draft.allowed

pub accepted-requires-clause-plain : goal.accepted-requires-clause-plain
accepted-requires-clause-plain c =
    drafted_tells_none (kept c.args.parts.now) c.args.command c.args.token c.args.who c.args.inputs c.in-Ok.draft c.in-Ok.ensures.draft

pub returns-in-Err-clause-does : goal.returns-in-Err-clause-does
returns-in-Err-clause-does c =
    refused_does (kept c.args.parts.now) c.args.command c.args.who c.args.token c.args.inputs c.in-Err.why c.requires.new c.in-Err.ensures.refused

pub returns-in-Ok-clause-does : goal.returns-in-Ok-clause-does
returns-in-Ok-clause-does c =
    accepted_does (kept c.args.parts.now) c.args.command c.args.who c.args.token c.args.inputs (kept c.accepted.new.parts) c.in-Ok.draft
    c.accepted.result c.requires.new c.in-Ok.ensures.draft c.accepted.ensures.ok c.accepted.ensures.err

pub returns-in-Ok-clause-service : goal.returns-in-Ok-clause-service
returns-in-Ok-clause-service c =
    accepted_service c.args.parts.now c.accepted.new.parts c.args.command c.args.token c.args.who c.args.inputs c.in-Ok.draft c.accepted.result
    c.requires.service c.requires.new c.in-Ok.ensures.draft c.accepted.ensures.ok c.accepted.ensures.err c.accepted.ensures.room
