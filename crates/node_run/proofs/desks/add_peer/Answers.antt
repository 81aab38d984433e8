use Rattle.std.proofs.Common.{sym}
use Rattle.node_run.specs.Peers.{door_of, secret_of}
use Rattle.node_run.proofs.PeerLemmas.{named_more, told_more}
use Rattle.node_run.proofs.desks.add_peer.Goals as goal

pub returns-then-secret-clause-doors : goal.returns-then-secret-clause-doors
returns-then-secret-clause-doors c = named_more _ _ _ _ _ _ c.in_ok-door.ensures.list c.in_ok-copied.ensures c.if-door.true

pub returns-then-secret-clause-secrets : goal.returns-then-secret-clause-secrets
returns-then-secret-clause-secrets c = named_more _ _ _ _ _ _ c.in_ok-secret.ensures.list c.in_ok-copied-3.ensures c.if-secret.true

pub returns-then-secret-clause-told_doors : goal.returns-then-secret-clause-told_doors
returns-then-secret-clause-told_doors c =
    told_more door_of c.args.known.now c.in-Some.setup.now _ _ _ _ _ _ (sym c.in-Some.ensures) c.in_ok-door.ensures.list c.in_ok-copied.ensures
    c.in_ok-copied-2.ensures c.if-door.true

pub returns-then-secret-clause-told_secrets : goal.returns-then-secret-clause-told_secrets
returns-then-secret-clause-told_secrets c =
    told_more secret_of c.args.known.now c.in-Some.setup.now _ _ _ _ _ _ (sym c.in-Some.ensures) c.in_ok-secret.ensures.list c.in_ok-copied-3.ensures
    c.in_ok-copied-4.ensures c.if-secret.true
