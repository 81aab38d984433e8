use Rattle.std.proofs.Common.{refl}
use Rattle.node_workers.proofs.HeldLemmas.{order_answered, order_made, order_named, order_noted, order_silent}
use Rattle.node_workers.proofs.held.HeldNodeOrders.order.Goals as goal

pub ordered_by-requires : goal.ordered_by-requires
ordered_by-requires g c =
    let held = c.args.self.now in
    order_answered c.args.command c.args.token c.args.who c.args.inputs held.state.now.service c.event.new.kept.service held.pass.now.notes.begun c.event.result c.event.ensures.done

pub returns-clause-desk : goal.returns-clause-desk
returns-clause-desk g c =
    let held = c.args.self.now in
    let s = held.state.now.service in
    let t = c.event.new.kept.service in
    let makes = order_made c.args.command c.args.token c.args.who c.args.inputs _ s t held.pass.now.notes.begun c.event.result c.ordered_by.result c.ordered_by.ensures
    c.event.ensures.done c.event.ensures.service_err in
    record {
      same_pass = refl;
      named = order_named c.args.command c.args.token c.args.who c.args.inputs s t c.ordered_by.result makes;
      made = order_noted c.args.command c.args.token c.args.who c.args.inputs _ s t held.state.now.secret held.pass.now.notes c.event.new.pass.notes
          held.pass.now.receipts.items c.event.new.pass.receipts.items c.event.result c.ordered_by.result c.ordered_by.ensures c.event.ensures.done c.event.ensures.notes
          c.event.ensures.receipts c.event.ensures.pass_err c.fits.ensures;
    }

pub returns-clause-service : goal.returns-clause-service
returns-clause-service g c =
    let held = c.args.self.now in
    order_made c.args.command c.args.token c.args.who c.args.inputs _ held.state.now.service c.event.new.kept.service held.pass.now.notes.begun c.event.result
    c.ordered_by.result c.ordered_by.ensures c.event.ensures.done c.event.ensures.service_err

pub returns-clause-silent : goal.returns-clause-silent
returns-clause-silent g c =
    let held = c.args.self.now in
    let s = held.state.now.service in
    let t = c.event.new.kept.service in
    let makes = order_made c.args.command c.args.token c.args.who c.args.inputs _ s t held.pass.now.notes.begun c.event.result c.ordered_by.result c.ordered_by.ensures
    c.event.ensures.done c.event.ensures.service_err in
    order_silent c.args.command c.args.token c.args.who c.args.inputs s t c.ordered_by.result makes
