use Rattle.wire_bytes.proofs.Sayings.{call_said, if_any}
use Rattle.wire_bytes.proofs.sending.call_bytes.Goals as goal

pub returns-clause-said : goal.returns-clause-said
returns-clause-said c =
    if_any c.sent.result _
    (call_said c.args.address.now c.args.door.now c.args.secret.now c.args.set.now c.in_ok-request.request c.in_ok-request.ensures.written
    c.in_ok-request.ensures.read)
