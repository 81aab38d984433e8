use Rattle.log_index.proofs.ReadyLemmas.{ready_set}
use Rattle.log_index.proofs.rows.EntryRows.ready_set.Goals as goal

pub returns-clause-ok : goal.returns-clause-ok
returns-clause-ok c =
    ready_set c.ready_write_at.result c.args.writes.now c.self.inside.versions.room
    (record { base = c.ready_write_at.new.self.base; writes = c.args.self.now.writes; places = c.self.inside.order.room; copies = c.ready_write_at.new.self.room }) c.ready_write_at.ensures.ok
