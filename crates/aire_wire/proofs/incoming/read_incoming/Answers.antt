use Rattle.aire_wire.proofs.KnownMessages.{known_if_read}
use Rattle.aire_wire.proofs.incoming.read_incoming.Goals as goal

pub returns-clause-known : goal.returns-clause-known
returns-clause-known c =
    known_if_read c.args.me.now c.args.peers.now c.args.console.now c.args.request.now c.read_any.result c.read_any.ensures
