use Rattle.std.proofs.Common.{refl}
use Rattle.http_front.proofs.TakenLemmas.{up_to_none, up_to_weaker}
use Rattle.http_front.proofs.ReadLemmas.{response_read}
use Rattle.http_front.proofs.read.response_behind.Goals as goal

pub returns-in-Ok-clause-response : goal.returns-in-Ok-clause-response
returns-in-Ok-clause-response g c =
    response_read (g.S.Source.reads c.args.source.now) (g.S.Source.reads c.read_body-body.new.source) c.args.head.now c.in-Ok.start c.read_body-body.result c.response_with.result
    (c.in-Ok.ensures.answer refl) c.response_with.ensures c.read_body-body.ensures.body

pub returns-in-Err-clause-taken : goal.returns-in-Err-clause-taken
returns-in-Err-clause-taken g c = up_to_none 65536 (g.S.Source.reads c.args.source.now) (g.S.Source.reads c.args.source.now) refl

pub returns-in-Ok-clause-taken : goal.returns-in-Ok-clause-taken
returns-in-Ok-clause-taken g c =
    up_to_weaker 65536 (g.S.Source.reads c.args.source.now) (g.S.Source.reads c.read_body-body.new.source) c.in-Ok.start.length c.read_body-body.ensures.taken c.in-Ok.ensures.short
