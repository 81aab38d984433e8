-- Rows that are sought in another service's journal.
use Rattle.std.specs.Prelude.{ℕ, Bool}
use Rattle.lang_lists.specs.Keys.{call_key}
use Rattle.journal_rows.specs.declared.row.Row.{Row}
use Rattle.world_audit.specs.Conditions.{sends, gives, gives_any, confirms, acknowledges_so}
use Rattle.world_audit.specs.declared.sought.Sought.{Sought}
use Rattle.world_audit.specs.declared.sought.Sought.TheVariants.{Sent, Acknowledged, Given, Answered, Confirmed}

-- the row says so
abbrev pub is_sought : Sought → Row → Bool
is_sought (Sent dest took) row = sends (record { number = took.now.number; dest = dest.now; version = took.now.version; desired = took.now.desired }) row
is_sought (Acknowledged caller seen) row = acknowledges_so caller.now seen.number seen.version seen.how row
is_sought (Given caller noted) row = gives_any caller.now noted.now.number noted.now.answer_version row
is_sought (Answered caller seen) row = gives caller.now seen.now.number seen.now.answer_version seen.now.version seen.now.response row
is_sought (Confirmed noted) row = confirms noted.now.number noted.now.answer_version row

-- the key that a row has which says so
abbrev pub key_of : Sought → ℕ
key_of (Sent dest took) = took.now.number
key_of (Acknowledged caller seen) = call_key caller.now seen.number
key_of (Given caller noted) = call_key caller.now noted.now.number
key_of (Answered caller seen) = call_key caller.now seen.now.number
key_of (Confirmed noted) = noted.now.number
