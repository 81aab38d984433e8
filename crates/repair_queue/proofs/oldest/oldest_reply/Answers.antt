use Rattle.std.proofs.Common.{◌≡◌, ◌∙◌, Some, sym, ap, option_map}
use Rattle.std.specs.Option.{option_copied}
use Rattle.repair_queue.specs.Queue.{reply_of}
use Rattle.repair_queue.proofs.FirstLemmas.{first_reply_is}
use Rattle.repair_queue.proofs.oldest.oldest_reply.Goals as goal

pub returns-in-None : goal.returns-in-None
returns-in-None c =
    ap (λ o. option_map reply_of (option_copied o)) (sym c.in-None.is)
    ∙ first_reply_is c.args.dest.now c.args.replies.now.list c.due_to.result.now c.due_to.ensures.rising c.due_to.ensures.due (option_copied c.first_reply.result) c.first_reply.ensures

pub returns-in-Some : goal.returns-in-Some
returns-in-Some c =
    ap Some c.reply_of.ensures
    ∙ ap (λ o. option_map reply_of (option_copied o)) (sym c.in-Some.is)
    ∙ first_reply_is c.args.dest.now c.args.replies.now.list c.due_to.result.now c.due_to.ensures.rising c.due_to.ensures.due (option_copied c.first_reply.result) c.first_reply.ensures
