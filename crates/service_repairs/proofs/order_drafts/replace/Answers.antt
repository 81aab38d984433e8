use Rattle.std.proofs.Common.{List, Some, length, ◌∙◌, sym, ap}
use Rattle.request_log.specs.declared.entry.Entry.{Entry}
use Rattle.request_log.proofs.ChangeLemmas.{none_replaced}
use Rattle.service_events.specs.Orders.{entry_of}
use Rattle.service_events.proofs.OrderLaw.{present_too}
use Rattle.service_parts.specs.Parts.{kept}
use Rattle.service_parts.proofs.WholeLemmas.{none_past}
use Rattle.service_repairs.proofs.order_drafts.replace.Goals as goal

pub returns-in-None-clause-ok : goal.returns-in-None-clause-ok
returns-in-None-clause-ok c =
    let s = kept c.args.parts.now in
    ap (λ (es : List Entry). record s { entries = es })
    (none_replaced c.args.id s.entries c.args.method c.args.path.now c.args.body.now (sym c.in_ok-repaired.ensures ∙ c.in-None.is))

pub rewrite-requires : goal.rewrite-requires
rewrite-requires c =
    let p = c.args.parts.now in
    none_past p c.args.id (present_too (kept p) c.args.id (entry_of c.args.id (kept p)) c.requires)

pub returns-in_ok-held-in-Some-clause-ok : goal.returns-in_ok-held-in-Some-clause-ok
returns-in_ok-held-in-Some-clause-ok c =
    let s = kept c.args.parts.now in
    let entries =
    c.rewrite.ensures.replaced c.args.method c.args.path.now c.args.body.now
    (sym c.in_ok-repaired.ensures ∙ c.in-Some.is ∙ ap Some (sym c.in_ok-held-in-Some.ensures)) in
    let folded = c.rewrite.ensures.folded in
    let base = c.rewrite.ensures.base in
    (λ i. record s { entries = entries i; horizon = length (folded i); base = base i })
