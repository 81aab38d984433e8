use Rattle.service_parts.specs.Parts.{kept}
use Rattle.service_repairs.specs.Resolving.{resolved}
use Rattle.service_repairs.proofs.DraftedLemmas.{draft_is, refused_for}
use Rattle.service_repairs.proofs.ordering.drafted.Goals as goal

pub returns-in-Err-clause-refused : goal.returns-in-Err-clause-refused
returns-in-Err-clause-refused c = λ _.
    refused_for (kept c.args.parts.now) c.args.command.now c.args.who.now (resolved c.resolve-order.result) c.resolve-order.ensures c.in-Err.refusal c.in-Err.ensures

pub returns-in_ok-draft-in-Ok-clause-draft : goal.returns-in_ok-draft-in-Ok-clause-draft
returns-in_ok-draft-in-Ok-clause-draft c =
    draft_is (kept c.args.parts.now) c.args.command.now c.args.who.now (resolved c.resolve-order.result) c.resolve-order.ensures c.args.token c.args.inputs c.in-Ok.rule
    c.in_ok-draft-in-Ok.draft c.in-Ok.ensures c.in_ok-draft-in-Ok.ensures.about c.in_ok-draft-in-Ok.ensures.rule c.in_ok-draft-in-Ok.ensures.rows
