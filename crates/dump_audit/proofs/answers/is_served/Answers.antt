use Rattle.std.proofs.Common.{sym, ◌∙◌}
use Rattle.dump_audit.proofs.FoundLemmas.{served_by_none, served_by_one, served_nowhere}
use Rattle.dump_audit.proofs.answers.is_served.Goals as goal

pub returns-in_default : goal.returns-in_default
returns-in_default c = sym (served_nowhere c.args.caller.now c.args.number c.args.call.now c.args.answer.now c.args.services.now c.requires c.in_default.ensures)

pub returns-in-None : goal.returns-in-None
returns-in-None c =
    sym (served_by_none c.args.caller.now c.args.number c.args.call.now c.args.answer.now c.args.services.now c.in-Some.service.now c.requires c.in-Some.ensures c.in-None.ensures)

pub returns-in-Some-of_call : goal.returns-in-Some-of_call
returns-in-Some-of_call c =
    c.serves.ensures
    ∙ sym (served_by_one c.args.caller.now c.args.number c.args.call.now c.args.answer.now c.args.services.now c.in-Some.service.now c.in-Some-of_call.entry.now c.requires c.in-Some.ensures c.in-Some-of_call.ensures)
