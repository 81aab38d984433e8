-- Keys under which rows are found.
use Rattle.std.specs.Prelude.{◌≡◌, ℕ, List, map}
use Rattle.lang_lists.specs.Keys.{text_key, call_key}
use Rattle.lang_core.specs.declared.ids.Origin.{Origin}
use Rattle.lang_core.specs.declared.ids.Origin.TheVariants.{Outside, Call}
use Rattle.journal_rows.specs.declared.row.Row.{Row}
use Rattle.journal_rows.specs.declared.row.Row.TheVariants.{Asked, Took, Acked, Answered, WasConfirmed, Sent, SawAck, Noted, SawAnswer, Confirmed, Ordered}

-- of an entry of this number: that of its call, else its number
abbrev pub origin_key : ℕ → Origin → ℕ
origin_key id Outside = id
origin_key id (Call caller number) = call_key caller number

-- of a row
abbrev pub row_key : Row → ℕ
row_key (Asked a) = a.id
row_key (Took t) = call_key t.caller t.number
row_key (Acked a) = call_key a.caller a.number
row_key (Answered a) = origin_key a.id a.origin
row_key (WasConfirmed c) = c.number
row_key (Sent s) = s.number
row_key (SawAck a) = a.number
row_key (Noted n) = n.number
row_key (SawAnswer a) = a.number
row_key (Confirmed c) = c.number
row_key (Ordered o) = text_key o.token

-- these are the keys of the rows, in order
abbrev pub AreKeys : List ℕ → List Row → Type 0
AreKeys keys rows = keys ≡ map row_key rows
