use Rattle.std.proofs.Common.{Some, ◌∙◌, ap}
use Rattle.io_links.specs.Slices.{slice_reads}
use Rattle.node_exchanges.proofs.ExchangeLemmas.{nothing_back, response_back}
use Rattle.node_exchanges.proofs.exchanges.read_back.Goals as goal

pub returns-in-Ok : goal.returns-in-Ok
returns-in-Ok c =
    response_back c.args.me.now c.args.dest.now c.args.secret.now c.args.asking c.args.bytes.now (slice_reads c.new-source.result) (slice_reads c.hear_reply.new.source)
    (ap Some (c.new-source.ensures.left ∙ c.as_slice.ensures)) c.in-Ok.replied c.heard.result c.in-Ok.ensures.replied c.heard.ensures.back c.heard.ensures.whole

pub returns-in-Err : goal.returns-in-Err
returns-in-Err c =
    nothing_back c.args.me.now c.args.dest.now c.args.secret.now c.args.asking c.args.bytes.now (slice_reads c.new-source.result) (slice_reads c.hear_reply.new.source)
    (ap Some (c.new-source.ensures.left ∙ c.as_slice.ensures)) c.in-Err.why c.unheard.result c.in-Err.ensures.replied c.unheard.ensures.back c.unheard.ensures.whole
