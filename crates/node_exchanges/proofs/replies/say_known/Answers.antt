use Rattle.std.proofs.Common.{subst, sym}
use Rattle.std.specs.Option.{option_copied}
use Rattle.wire_replies.specs.Writing.{IsFor}
use Rattle.wire_replies.specs.declared.replies.Outgoing.{Outgoing}
use Rattle.node_exchanges.specs.Replies.{SaysIt}
use Rattle.node_exchanges.proofs.replies.say_known.Goals as goal

pub say-requires : goal.say-requires
say-requires g c =
    subst (λ (r : Outgoing). IsFor c.args.setup.now.setting.me (option_copied c.args.to) r) (sym c.in-Ok.ensures) (c.requires.from, c.requires.to)

pub returns-in-Ok-clause-said : goal.returns-in-Ok-clause-said
returns-in-Ok-clause-said g c =
    subst (λ (r : Outgoing). SaysIt c.args.setup.now.setting.me c.args.setup.now.secret (option_copied c.args.to) r (g.C.Sink.writes c.args.conn.now) (g.C.Sink.writes c.say.new.conn) c.say.result)
    c.in-Ok.ensures c.say.ensures.said
