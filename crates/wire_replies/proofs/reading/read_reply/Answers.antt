use Rattle.std.proofs.Common.{sym, ap, ◌∙◌}
use Rattle.wire_fields.specs.Fits.{lacks_memory}
use Rattle.wire_replies.proofs.KnownKinds.{of_known_kind}
use Rattle.wire_replies.proofs.reading.read_reply.Goals as goal

pub returns-clause-known : goal.returns-clause-known
returns-clause-known c = λ is.
    of_known_kind c.args.me.now c.args.peer.now c.args.secret.now c.reply_kind-kind.result c.args.response.now
    (sym (c.read_kind.ensures (ap lacks_memory is)) ∙ is)
