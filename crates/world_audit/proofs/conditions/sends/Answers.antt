use Rattle.lang_base.proofs.EqualLemmas.{equal_is}
use Rattle.journal_rows.specs.contracts.caller.SentRow as sent_row
use Rattle.journal_rows.specs.declared.caller.SentRow.{SentRow}
use Rattle.world_audit.proofs.conditions.sends.Goals as goal

pub returns-in-Sent : goal.returns-in-Sent
returns-in-Sent c =
    let wanted : SentRow = record { number = c.args.number; dest = c.args.dest.now; version = c.args.version; desired = c.args.desired.now } in
    rw c.in-Sent.is (equal_is sent_row.the_row.coded c.in-Sent.sent wanted c.is_version.result c.is_version.ensures)
