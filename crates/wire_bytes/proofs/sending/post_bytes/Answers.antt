use Rattle.wire_bytes.proofs.Sayings.{if_any, post_said}
use Rattle.wire_bytes.proofs.sending.post_bytes.Goals as goal

pub returns-clause-said : goal.returns-clause-said
returns-clause-said c =
    if_any c.sent.result _
    (post_said c.args.address.now c.args.secret.now c.args.post.now c.in_ok-request.request c.in_ok-request.ensures.written
    c.in_ok-request.ensures.bytes_read_back)
