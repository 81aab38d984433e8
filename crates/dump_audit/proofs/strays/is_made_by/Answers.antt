use Rattle.std.proofs.Common.{sym, ◌∙◌}
use Rattle.dump_audit.proofs.FoundLemmas.{made_by_none, made_by_one, made_nowhere}
use Rattle.dump_audit.proofs.strays.is_made_by.Goals as goal

pub returns-in_default : goal.returns-in_default
returns-in_default c = sym (made_nowhere c.args.caller.now c.args.number (record { dest = c.args.dest.now; request = c.args.request.now }) c.args.services.now c.requires c.in_default.ensures)

pub returns-in-None : goal.returns-in-None
returns-in-None c =
    sym (made_by_none c.args.caller.now c.args.number (record { dest = c.args.dest.now; request = c.args.request.now }) c.args.services.now c.in-Some.service.now c.requires c.in-Some.ensures c.in-None.ensures)

pub returns-in-Some-with_number : goal.returns-in-Some-with_number
returns-in-Some-with_number c =
    c.makes.ensures
    ∙ sym (made_by_one c.args.caller.now c.args.number (record { dest = c.args.dest.now; request = c.args.request.now }) c.args.services.now c.in-Some.service.now c.in-Some-with_number.entry.now c.requires c.in-Some.ensures
    c.in-Some-with_number.ensures)
