use Rattle.node_core.proofs.noted.are_noted.Goals as goal

pub returns-in-Ok-None : goal.returns-in-Ok-None
returns-in-Ok-None c passed = (c.all_stand.ensures c.if-not-all_stand.false, rw c.in-Ok-None.field-0-is at c.in-Ok-None.ensures.none)
