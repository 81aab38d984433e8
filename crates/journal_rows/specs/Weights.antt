-- What rows weigh.
use Rattle.std.specs.Prelude.{ℕ, ◌+◌, ◌-◌, ◌^◌, List, Option, Some, None, length, min, sum_by}
use Rattle.lang_programs.specs.HandedOn.{text_of}
use Rattle.lang_core.specs.declared.request.Request.{Request}
use Rattle.journal_rows.specs.declared.orders.Command.{Command}
use Rattle.journal_rows.specs.declared.orders.Command.TheVariants.{Replace, Create, Deploy, Correct, Rules}
use Rattle.journal_rows.specs.declared.orders.OrderedRow.{OrderedRow}
use Rattle.journal_rows.specs.declared.row.Row.{Row}
use Rattle.journal_rows.specs.declared.row.Row.TheVariants.{Asked, Took, Answered, Sent, Noted, SawAnswer, Ordered}

-- the bytes of a request's path, body and user
abbrev pub request_bytes : Request → ℕ
request_bytes q = length q.path + length q.body + length q.who

abbrev pub wanted_bytes : Option Request → ℕ
wanted_bytes None = 0
wanted_bytes (Some q) = request_bytes q

-- the bytes of an order's texts: of a program as it is printed, of rules as they were given
abbrev pub command_bytes : Command → ℕ
command_bytes (Replace id method path body) = length path + length body
command_bytes (Create before after q) = request_bytes q
command_bytes (Deploy p) = length (text_of p)
command_bytes (Correct k p) = length (text_of p)
command_bytes (Rules g) = length g.text
command_bytes command = 0

abbrev pub order_bytes : OrderedRow → ℕ
order_bytes o =
    length o.token + length o.who + command_bytes o.command + (wanted_bytes o.original + wanted_bytes o.repaired)

-- the bytes of the paths, bodies, users, tokens, programs and rules that stand in a row
abbrev pub row_bytes : Row → ℕ
row_bytes (Asked a) = request_bytes a.request
row_bytes (Took t) = wanted_bytes t.desired + length t.who
row_bytes (Answered a) = length a.response.body
row_bytes (Sent s) = wanted_bytes s.desired
row_bytes (Noted n) = length n.who
row_bytes (SawAnswer a) = length a.response.body + length a.who
row_bytes (Ordered o) = order_bytes o
row_bytes row = 0

-- a sum that no number of 64 bits holds is the greatest of them
abbrev pub capped : ℕ → ℕ
capped n = min n (2 ^ 64 - 1)

-- 64, and the bytes of its texts
abbrev pub row_weight : Row → ℕ
row_weight row = capped (64 + row_bytes row)

-- what a journal weighs
abbrev pub journal_weight : List Row → ℕ
journal_weight rows = capped (sum_by row_weight rows)
