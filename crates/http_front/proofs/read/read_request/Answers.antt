use Rattle.std.proofs.Common.{arith}
use Rattle.http_front.proofs.TakenLemmas.{up_to_both, up_to_weaker}
use Rattle.http_front.proofs.read.read_request.Goals as goal

pub returns-in-Err-clause-taken : goal.returns-in-Err-clause-taken
returns-in-Err-clause-taken g c =
    up_to_weaker 81920 (g.S.Source.reads c.args.source.now) (g.S.Source.reads c.read_head.new.source) 16384 c.read_head.ensures.taken (omega arith)

pub returns-in-Ok-clause-taken : goal.returns-in-Ok-clause-taken
returns-in-Ok-clause-taken g c =
    up_to_both 81920 (g.S.Source.reads c.args.source.now) (g.S.Source.reads c.read_head.new.source) (g.S.Source.reads c.request_behind.new.source) 16384 65536
    c.read_head.ensures.taken c.request_behind.ensures.taken (omega arith)
