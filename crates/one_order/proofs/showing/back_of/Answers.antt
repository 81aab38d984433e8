use Rattle.std.proofs.Common.{◌∙◌, sym}
use Rattle.std.proofs.lemmas.Result.{IfOk-weaker}
use Rattle.dump_audit.specs.Histories.{histories_of}
use Rattle.one_order.specs.Shown.{name_at}
use Rattle.one_order.proofs.CycleLaws.{back_leads, back_turned}
use Rattle.one_order.proofs.showing.back_of.Goals as goal

pub returns-then-is_same : goal.returns-then-is_same
returns-then-is_same c =
    let pair = c.args.pair.now in
    back_turned (histories_of c.args.world.now) (name_at pair.first.at) (name_at pair.second.at) (name_at pair.root) (name_at pair.other) pair.first.slots.items pair.second.slots.items
    (sym c.is_pair.ensures ∙ c.if-not-is_pair.false) c.is_same.result c.is_same.ensures c.if-is_same.true c.turned_back.result c.turned_back.ensures

pub returns-else-is_same : goal.returns-else-is_same
returns-else-is_same c =
    let pair = c.args.pair.now in
    IfOk-weaker c.way_back.result _ _
    (λ found way. back_leads (histories_of c.args.world.now) (name_at pair.first.at) (name_at pair.second.at) (name_at pair.root) (name_at pair.other) pair.first.slots.items pair.second.slots.items
    (sym c.is_pair.ensures ∙ c.if-not-is_pair.false) c.is_same.result c.is_same.ensures c.if-is_same.false found way)
    c.way_back.ensures
