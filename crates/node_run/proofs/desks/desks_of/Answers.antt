use Rattle.std.proofs.Common.{◌≡◌, ◌+◌, ◌++◌, ◌∷◌, [], All, List, map, take, subst, sym, arith}
use Rattle.node_workers.specs.declared.desk.Desk.{Desk}
use Rattle.node_run.specs.Peers.{node_at, setup_at, KnowsPeers}
use Rattle.node_run.proofs.DeskLemmas.{nodes_more, peers_more, setups_more}
use Rattle.node_run.proofs.desks.desks_of.Goals as goal

pub loop-place-preserved : goal.loop-place-preserved
loop-place-preserved g c =
    let D = Desk g.row.R.Denot g.row.Q.Denot in
    let desks = c.loop-place.desks.items in
    let desk = c.in_ok-desk_at.field-0 in
    let place = c.loop-place.place in
    let before = c.loop-place.invariant in
    let pushed : desks ++ desk ∷ [] ≡ c.push.new.self.items = sym c.in_ok-push.ensures.items in
    record {
      len = (let had = before.len in let one = c.in_ok-push.ensures.len in omega (arith, had, one));
      nodes = subst (λ (all : List D). map node_at all ≡ take (place + 1) c.args.nodes.now.nodes.items) pushed
          (nodes_more desks c.args.nodes.now.nodes.items place desk before.nodes c.in_ok-desk_at.ensures.node);
      setups = subst (λ (all : List D). map setup_at all ≡ take (place + 1) c.args.here.now) pushed
          (setups_more desks c.args.here.now place desk before.setups c.in_ok-desk_at.ensures.setup);
      peers = subst (All (KnowsPeers c.args.known.now)) pushed (peers_more c.args.known.now desks desk before.peers c.in_ok-desk_at.ensures.peers);
    }
