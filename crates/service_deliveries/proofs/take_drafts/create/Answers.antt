use Rattle.std.proofs.Common.{◌≤◌, List, length, subst, sym}
use Rattle.request_log.specs.declared.entry.Entry.{Entry}
use Rattle.service_parts.specs.Parts.{kept}
use Rattle.service_parts.proofs.WholeLemmas.{unfolded_kept}
use Rattle.service_deliveries.proofs.TakeLemmas.{can_create}
use Rattle.service_deliveries.proofs.take_drafts.create.Goals as goal

pub returns-clause-can : goal.returns-clause-can
returns-clause-can c =
    can_create (kept c.args.parts.now) c.args.set.now c.args.request.now c.args.inputs.now c.args.spot.at c.in_ok-entry.entry c.in_ok-reply.reply
    c.requires.fits c.requires.none (subst (λ (l : List Entry). c.args.spot.at ≤ length l) (sym (unfolded_kept c.args.parts.now)) c.requires.within) c.in_ok-entry.ensures c.in_ok-reply.ensures
