use Rattle.std.proofs.Common.{◌∙◌, ap}
use Rattle.call_registers.specs.Replies.{at_entry, made_due}
use Rattle.service_deliveries.proofs.ReplyLemmas.{taken_and_due}
use Rattle.service_deliveries.proofs.take_applying.amend_due.Goals as goal

pub returns-clause-replies : goal.returns-clause-replies
returns-clause-replies c =
    let e = c.args.entry in
    c.make_due.ensures
    ∙ ap (at_entry e.id (made_due c.args.since)) c.note_taken.ensures
    ∙ taken_and_due e.id c.args.since e.version e.wanted c.args.replies.now.list
