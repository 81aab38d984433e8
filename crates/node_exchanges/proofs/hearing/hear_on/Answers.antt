use Rattle.std.proofs.Common.{◌∙◌, sym}
use Rattle.node_exchanges.proofs.hearing.hear_on.Goals as goal

pub returns-clause-writes : goal.returns-clause-writes
returns-clause-writes g c =
    let law = g.met.C.Connection.read_keeps in
    sym (law c.hear.new.source) ∙ (c.hear.ensures.beside ∙ law c.args.conn.now)
