use Rattle.wire_bytes.proofs.Sayings.{if_any, reply_said_to}
use Rattle.wire_bytes.proofs.sending.reply_bytes.Goals as goal

pub returns-clause-said : goal.returns-clause-said
returns-clause-said c =
    if_any c.response_bytes.result _
    (reply_said_to c.args.me.now c.args.secret.now _ c.args.reply.now c.in_ok-response.response c.in_ok-response.ensures.written
    c.in_ok-response.ensures.bytes_read_back)
