use Rattle.std.proofs.Common.{Option, subst, sym}
use Rattle.node_core.specs.Memos.{IsGivenReceipt}
use Rattle.node_core.specs.declared.receipts.Committed.{Committed}
use Rattle.node_core.proofs.events.count.Goals as goal

pub returns-clause-receipts : goal.returns-clause-receipts
returns-clause-receipts g c =
    let a = c.args in
    subst (λ (o : Option Committed). IsGivenReceipt a.service.now a.secret.now o a.pass.now.receipts.items c.push_reserved.new.self.items) (sym c.in-Some.is)
    (record { receipt = c.receipt_of-receipt.result; last = c.push_reserved.ensures.items; so = c.receipt_of-receipt.ensures })
