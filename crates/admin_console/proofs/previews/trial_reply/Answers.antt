use Rattle.admin_console.proofs.PreviewLemmas.{told_shown}
use Rattle.admin_console.proofs.previews.trial_reply.Goals as goal

pub returns : goal.returns
returns c =
    told_shown c.args.trial c.args.who.now c.args.service.now c.in_ok-shown.shown c.shown_reply.result c.in_ok-shown.ensures.exact c.in_ok-shown.ensures.within c.shown_reply.ensures
