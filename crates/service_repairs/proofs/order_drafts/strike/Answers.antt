use Rattle.std.proofs.Common.{length}
use Rattle.service_events.specs.Orders.{entry_of}
use Rattle.service_events.proofs.OrderLaw.{present_is}
use Rattle.service_parts.specs.Parts.{kept}
use Rattle.service_parts.proofs.WholeLemmas.{none_past}
use Rattle.service_repairs.proofs.order_drafts.strike.Goals as goal

pub set_struck-requires : goal.set_struck-requires
set_struck-requires c =
    let p = c.args.parts.now in
    none_past p c.args.id (present_is (kept p) c.args.id (entry_of c.args.id (kept p)) c.requires)

pub returns-clause-kept : goal.returns-clause-kept
returns-clause-kept c =
    let s = kept c.args.parts.now in
    let entries = c.set_struck.ensures.entries in
    let folded = c.set_struck.ensures.folded in
    let base = c.set_struck.ensures.base in
    (λ i. record s { entries = entries i; horizon = length (folded i); base = base i })
