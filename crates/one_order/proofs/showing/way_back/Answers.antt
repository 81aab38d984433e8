use Rattle.dump_audit.specs.Histories.{histories_of}
use Rattle.one_order.specs.Shown.{name_at}
use Rattle.one_order.proofs.CycleLaws.{way_goes_on}
use Rattle.one_order.proofs.showing.way_back.Goals as goal

pub loop-link-preserved : goal.loop-link-preserved
loop-link-preserved c =
    let link = c.link-item.result in
    way_goes_on (histories_of c.args.world.now) (name_at c.args.from.now) (name_at c.loop-link.last) (name_at link.root) (name_at link.first.at) (name_at link.second.at)
    link.first.slots.items link.second.slots.items c.is_before.result c.loop-link.ids c.push_id-in-loop-link.new.ids c.loop-link.invariant c.is_before.ensures
    c.if-not-is_before.false c.in_ok-push_id-2.ensures
