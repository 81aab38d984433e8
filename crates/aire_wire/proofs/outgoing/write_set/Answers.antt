use Rattle.std.proofs.Common.{codes, refl}
use Rattle.aire_wire.proofs.SealedRequests.{sealed_from}
use Rattle.aire_wire.specs.Written.{body_of}
use Rattle.lang_tree.specs.declared.method.Method.TheVariants.{Post}
use Rattle.aire_wire.proofs.outgoing.write_set.Goals as goal

pub returns : goal.returns
returns c =
    sealed_from c.sealed.result c.args.secret.now (codes "/aire/repair") _ c.body_of-body.result.now (body_of c.args.set.now.desired)
    Post c.in_ok-head.head _ c.in_ok-head.ensures refl c.body_of-body.ensures c.sealed.ensures
