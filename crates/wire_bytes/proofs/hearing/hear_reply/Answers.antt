use Rattle.std.proofs.Common.{refl}
use Rattle.wire_bytes.proofs.hearing.hear_reply.Goals as goal

pub returns-in-Ok-clause-replied : goal.returns-in-Ok-clause-replied
returns-in-Ok-clause-replied g c whole bytes is =
    let read = c.in-Ok.ensures.response refl bytes is in
    (read.0, read.1, (c.in-Ok.response, read.2, refl, c.read_reply.ensures.reply whole))
