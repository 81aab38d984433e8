use Rattle.wire_bytes.proofs.HearingLemmas.{heard_alone}
use Rattle.wire_bytes.proofs.hearing.hear.Goals as goal

pub returns-in-Ok-read_incoming-clause-alone : goal.returns-in-Ok-read_incoming-clause-alone
returns-in-Ok-read_incoming-clause-alone g c =
    heard_alone c.args.me.now c.args.peers.now c.args.console.now (g.S.Source.reads c.args.source.now) (g.S.Source.reads c.read_request.new.source)
    c.in-Ok.request c.in-Ok-read_incoming.message c.read_incoming.result c.in-Ok.ensures.request c.in-Ok-read_incoming.is
    c.read_incoming.ensures.message c.in-Ok-read_incoming.ensures.known
