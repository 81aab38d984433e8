-- What clauses see of how a command ended.
use Rattle.aire_top.specs.Ended.{Ending, ending, last_of, whose}
use Rattle.aire_top.specs.declared.ended.Ended.{Ended}

-- of the last connection, whose it is
abbrev pub ending_of : {C : Type 0} {reads : _} {writes : _} → Ended C reads writes → Ending
ending_of e = ending e.status e.services.items e.verdict e.receipts.items (last_of e.last (λ l. whose l.service l.console))
