use Rattle.aire_wire.proofs.SealedRequests.{sealed_from}
use Rattle.aire_wire.proofs.outgoing.call_asking.Goals as goal

pub returns : goal.returns
returns c =
    sealed_from c.sealed.result c.args.secret.now c.as_str-path.result.now c.args.request.now.path c.as_str.result.now c.args.request.now.body
    c.args.request.now.method c.in_ok-head.head _ c.in_ok-head.ensures c.as_str-path.ensures c.as_str.ensures c.sealed.ensures
