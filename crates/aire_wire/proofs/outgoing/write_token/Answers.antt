use Rattle.std.proofs.Common.{[], codes, refl}
use Rattle.aire_wire.proofs.SealedRequests.{sealed_from}
use Rattle.lang_tree.specs.declared.method.Method.TheVariants.{Post}
use Rattle.aire_wire.proofs.outgoing.write_token.Goals as goal

pub returns : goal.returns
returns c =
    sealed_from c.sealed.result c.args.secret.now (codes "/aire/notify") _ [] [] Post c.in_ok-head.head _ c.in_ok-head.ensures refl refl c.sealed.ensures
