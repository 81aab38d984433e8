use Rattle.std.proofs.Common.{◌∙◌, ap, subst}
use Rattle.lang_lists.specs.Keys.{text_key}
use Rattle.call_registers.specs.Replies.{AreDue, KeptReplies}
use Rattle.call_registers.proofs.ReplyLemmas.{are_due}
use Rattle.call_registers.proofs.replies.Replies.due_to.Goals as goal

pub returns-clause-due : goal.returns-clause-due
returns-clause-due c =
    subst (λ (r : KeptReplies). AreDue c.args.caller.now r.list c.of_code.result.now) c.self.view_is
    (are_due c.self.inside.list.items c.self.inside.due.keys c.self.invariant.rising c.self.invariant.queued c.args.caller.now c.text_key.result c.of_code.result.now
    (c.text_key.ensures ∙ ap text_key c.text.ensures.text) c.of_code.ensures.keys c.of_code.ensures.rising)
