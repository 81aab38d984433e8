use Rattle.std.proofs.Common.{refl, subst, sym}
use Rattle.node_exchanges.proofs.CallLemmas.{Came, IsCalled, called}
use Rattle.node_exchanges.specs.Endpoints.{at_place}
use Rattle.node_exchanges.proofs.calls.call.Goals as goal

pub returns : goal.returns
returns g c =
    let e = at_place c.args.place.now in
    let set = c.args.set.now in
    let peer = c.in-Some.peer in
    let before = g.L.Link.exchanges c.args.link.now in
    let now = g.L.Link.exchanges c.exchange-back.new.link in
    let made = called e set peer.secret.now peer.door.now c.in-Ok.bytes before now c.exchange-back.result
    (λ answer. record {
      door = c.in-Some.ensures.door;
      peer = c.in-Some.ensures.secret;
      sends = record { from = c.requires.from; dest = refl; spelled = c.in-Ok.ensures.bytes };
    })
    c.exchange-back.ensures.made in
    let so = subst (λ (came : Came). IsCalled e set before now came) (sym c.came_with.ensures) made in
    record { came = so.came; sends = so.sends; calls = so.calls; rose = so.rose; failure = so.failure; counted = c.exchange-back.ensures.counted }
