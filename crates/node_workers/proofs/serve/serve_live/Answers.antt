use Rattle.std.proofs.Common.{refl}
use Rattle.std.specs.Option.{option_copied}
use Rattle.node_workers.proofs.ServeLemmas.{has_last, known_for, live_committed, live_gone, live_known, live_refused, live_wants}
use Rattle.node_workers.specs.Desks.{at_desk}
use Rattle.node_workers.specs.declared.live.Ending.TheVariants as ends
use Rattle.node_workers.proofs.serve.serve_live.Goals as goal

pub write_last-requires : goal.write_last-requires
write_last-requires g c =
    record {
      some = has_last c.args.origin c.args.request c.args.inputs c.in-Committed.index c.args.pass.now.receipts.items c.live.new.pass.receipts.items c.in-Committed.ensures.ends;
    }

pub returns-in-Committed-clause-served : goal.returns-in-Committed-clause-served
returns-in-Committed-clause-served g c =
    live_committed (at_desk c.args.desk.now) c.args.inputs (g.C.Source.reads c.args.conn.now) (g.C.Sink.writes c.args.conn.now) (g.C.Sink.writes c.write_last.new.conn)
    c.live.new.pass.notes c.args.pass.now.receipts.items c.live.new.pass.receipts.items c.args.origin c.args.request c.in-Committed.index c.write_last.result
    c.in-Committed.ensures.ends c.write_last.ensures.wrote

pub say_known-requires : goal.say_known-requires
say_known-requires g c =
    record {
      from = c.in-Known.ensures.ends.1;
      to = known_for c.in-Known.answer.caller c.args.origin (option_copied c.args.to) c.in-Known.ensures.ends.2 c.requires.to;
    }

pub returns-in-Known-clause-served : goal.returns-in-Known-clause-served
returns-in-Known-clause-served g c =
    live_known (at_desk c.args.desk.now) c.args.inputs (g.C.Source.reads c.args.conn.now) (g.C.Sink.writes c.args.conn.now) (g.C.Sink.writes c.say_known.new.conn)
    c.live.new.pass.notes c.args.pass.now.receipts.items c.live.new.pass.receipts.items c.args.origin c.args.request (option_copied c.args.to) c.in-Known.answer
    c.say_known.result c.requires.to c.in-Known.ensures.ends.0 c.in-Known.ensures.ends.3 c.say_known.ensures.said

pub returns-in-Refused-clause-served : goal.returns-in-Refused-clause-served
returns-in-Refused-clause-served g c =
    live_refused (at_desk c.args.desk.now) c.args.inputs (g.C.Source.reads c.args.conn.now) (g.C.Sink.writes c.args.conn.now) (g.C.Sink.writes c.refuse.new.conn)
    c.live.new.pass.notes c.args.pass.now.receipts.items c.live.new.pass.receipts.items c.args.origin c.args.request (option_copied c.args.to) c.in-Refused.why
    (c.arrive_told-number.result.0.now, c.arrive_told-number.result.1) c.refuse.result c.requires.to c.in-Refused.ensures.ends.0 c.in-Refused.ensures.ends.2
    c.in-Refused.ensures.ends.3 c.arrive_told-number.ensures.told c.refuse.ensures.said

pub returns-in-Gone-clause-served : goal.returns-in-Gone-clause-served
returns-in-Gone-clause-served g c =
    live_gone (at_desk c.args.desk.now) c.args.inputs (g.C.Source.reads c.args.conn.now) (g.C.Sink.writes c.args.conn.now) (g.C.Sink.writes c.args.conn.now)
    c.live.new.pass.notes c.args.pass.now.receipts.items c.live.new.pass.receipts.items c.args.origin c.args.request c.in-Gone.ensures.ends.0 c.in-Gone.ensures.ends.1 refl

pub returns-in-NoMemory-clause-served : goal.returns-in-NoMemory-clause-served
returns-in-NoMemory-clause-served g c =
    live_wants (at_desk c.args.desk.now) c.args.inputs (g.C.Source.reads c.args.conn.now) (g.C.Sink.writes c.args.conn.now) (g.C.Sink.writes c.say_no_memory.new.conn)
    c.live.new.pass.notes c.args.pass.now.receipts.items c.live.new.pass.receipts.items c.args.origin c.args.request (option_copied c.args.to) c.say_no_memory.result
    c.requires.to c.in-NoMemory.ensures.ends c.say_no_memory.ensures.said

pub returns-in-Committed-clause-makes : goal.returns-in-Committed-clause-makes
returns-in-Committed-clause-makes g c = (ends.Committed c.in-Committed.index, c.in-Committed.ensures.told)

pub returns-in-Known-clause-makes : goal.returns-in-Known-clause-makes
returns-in-Known-clause-makes g c = (ends.Known c.in-Known.answer, c.in-Known.ensures.told)

pub returns-in-Refused-clause-makes : goal.returns-in-Refused-clause-makes
returns-in-Refused-clause-makes g c = (ends.Refused c.in-Refused.why, c.in-Refused.ensures.told)

pub returns-in-Gone-clause-makes : goal.returns-in-Gone-clause-makes
returns-in-Gone-clause-makes g c = (ends.Gone, c.in-Gone.ensures.told)

pub returns-in-NoMemory-clause-makes : goal.returns-in-NoMemory-clause-makes
returns-in-NoMemory-clause-makes g c = (ends.NoMemory, c.in-NoMemory.ensures.told)
