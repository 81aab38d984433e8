use Rattle.std.proofs.Common.{◌∙◌, IfSome, List, subst}
use Rattle.request_log.specs.declared.entry.Entry.{Entry}
use Rattle.service_posts.specs.Walks.{IsSlot}
use Rattle.service_posts.proofs.outward.slot_of.Goals as goal

pub returns-in-Some : goal.returns-in-Some
returns-in-Some c =
    subst (λ (es : List Entry). IfSome c.slot_at.result (IsSlot c.args.number es)) (c.as_slice.ensures.entries ∙ c.log-log.ensures.entries) c.slot_at.ensures
