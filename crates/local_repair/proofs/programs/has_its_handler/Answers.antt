use Rattle.std.proofs.Common.{sym, ◌∙◌}
use Rattle.local_repair.proofs.HandlerTests.{alive_has, dead_has, settled_has}
use Rattle.local_repair.proofs.programs.has_its_handler.Goals as goal

pub returns-then-not-is_alive : goal.returns-then-not-is_alive
returns-then-not-is_alive c = dead_has c.args.entry.now (sym c.is_alive.ensures ∙ c.if-not-is_alive.true)

pub returns-then-is_settled : goal.returns-then-is_settled
returns-then-is_settled c = settled_has c.args.entry.now (c.is_settled.ensures c.if-is_settled.true)

pub returns : goal.returns
returns c = alive_has c.leads_alike.result c.args.entry.now (sym c.is_alive.ensures ∙ c.if-not-is_alive.false) c.leads_alike.ensures
