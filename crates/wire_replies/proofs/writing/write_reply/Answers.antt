use Rattle.std.proofs.Common.{Result, Ok, Err, IfOk, ap}
use Rattle.std.specs.Option.{option_copied}
use Rattle.wire_replies.proofs.BytesBack.{bytes_of}
use Rattle.wire_replies.proofs.RoundTrip.{back_of}
use Rattle.wire_replies.proofs.writing.write_reply.Goals as goal

for_ok : {X E : Type 0} (P Q : X → Type 0) (r : Result X E) → IfOk r P → ((x : X) → P x → Q x) → IfOk r Q
for_ok P Q (Ok x) h f = f x h
for_ok P Q (Err e) h f = tt

pub returns-in-Some-clause-reads_back : goal.returns-in-Some-clause-reads_back
returns-in-Some-clause-reads_back c =
    for_ok _ _ c.sealed_reply.result c.sealed_reply.ensures
    (λ response is.
    back_of c.args.me.now c.in-Some.peer.now c.text.result.now c.text-in-Some.result.now c.args.secret.now (option_copied c.args.to)
    c.args.reply.now response c.text.ensures.name c.text-in-Some.ensures.name c.numbers.ensures c.requires
    (ap option_copied c.in-Some.is) c.text.ensures.text c.text-in-Some.ensures.text is)

pub returns-in-Some-clause-bytes_read_back : goal.returns-in-Some-clause-bytes_read_back
returns-in-Some-clause-bytes_read_back c =
    for_ok _ _ c.sealed_reply.result c.sealed_reply.ensures
    (λ response is.
    bytes_of c.args.me.now c.in-Some.peer.now c.text.result.now c.text-in-Some.result.now c.args.secret.now (option_copied c.args.to)
    c.args.reply.now response c.text.ensures.name c.text-in-Some.ensures.name c.numbers.ensures c.reply_text.ensures c.requires
    (ap option_copied c.in-Some.is) c.text.ensures.text c.text-in-Some.ensures.text is)
