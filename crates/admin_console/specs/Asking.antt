-- What an operator asks of a service: by the word, and by a body, which is a JSON object.
use Rattle.std.specs.Prelude.{ℕ, Bool, true, false, List, [], Option, Some, None, Result, Ok, Err, if◌then◌else◌, option_and_then, option_map, codes}
use Rattle.std.specs.Option.{option_zip}
use Rattle.lang_tree.specs.declared.method.Method.{Method}
use Rattle.lang_core.specs.declared.request.Request.{Request}
use Rattle.journal_rows.specs.declared.orders.Command.{Command}
use Rattle.journal_rows.specs.declared.orders.Command.TheVariants as command
use Rattle.order_texts.specs.Texts.{command_given}
use Rattle.order_texts.specs.declared.refused.TextFault.{TextFault}
use Rattle.order_texts.specs.declared.text_order.TextOrder.{TextOrder}
use Rattle.order_texts.specs.declared.text_order.TextOrder.TheVariants.{Correct, Deploy, Rules}
use Rattle.serde_json.specs.Data.{Data}
use Rattle.wire_fields.specs.declared.console.ConsoleRequest.{ConsoleRequest}
use Rattle.wire_fields.specs.declared.console.ConsoleWord.{ConsoleWord}
use Rattle.wire_fields.specs.declared.console.ConsoleWord.TheVariants as word
use Rattle.admin_console.specs.Fields.{body_at, method_at, neighbour_at, number_at, object_in, path_at, post_at, short_text_at, who_at}
use Rattle.admin_console.specs.declared.asking.Asked.{Asked}
use Rattle.admin_console.specs.declared.asking.Asked.TheVariants as asked
use Rattle.admin_console.specs.declared.asking.Report.{Report}
use Rattle.admin_console.specs.declared.asking.Report.TheVariants as report

-- The word is one that the run answers, and not a desk: an audit and a stop are of all services, and a preview and a rehearsal are of one, but are tried
-- on a copy of it.
abbrev pub is_of_the_run : ConsoleWord → Bool
is_of_the_run word.Preview = true
is_of_the_run word.Rehearse = true
is_of_the_run word.Audit = true
is_of_the_run word.Stop = true
is_of_the_run word = false

-- ---- orders

abbrev pub call_of : Method × (List ℕ × List ℕ) → Method × List ℕ × List ℕ
call_of parts = (parts.0, parts.1.0, parts.1.1)

-- method, path and body
abbrev pub call_at : Data → Option (Method × List ℕ × List ℕ)
call_at json = option_map call_of (option_zip (method_at json) (option_zip (path_at json) (body_at json)))

abbrev pub replacement : ℕ × (Method × List ℕ × List ℕ) → Command
replacement to = command.Replace to.0 to.1.0 to.1.1 to.1.2

-- another method, path and body for the request of this number
abbrev pub replace_at : Data → Option Command
replace_at json = option_map replacement (option_zip (number_at (codes "id") json) (call_at json))

-- a request of a user, from outside
abbrev pub request_of : List ℕ × (Method × List ℕ × List ℕ) → Request
request_of by = record { method = by.1.0; path = by.1.1; body = by.1.2; who = by.0; chain = [] }

abbrev pub request_at : Data → Option Request
request_at json = option_map request_of (option_zip (who_at (codes "who") json) (call_at json))

abbrev pub neighbours_at : Data → Option (Option ℕ × Option ℕ)
neighbours_at json = option_zip (neighbour_at (codes "before") json) (neighbour_at (codes "after") json)

abbrev pub creation : (Option ℕ × Option ℕ) × Request → Command
creation made = command.Create made.0.0 made.0.1 made.1

-- a request that was never made, before one request or after another
abbrev pub create_at : Data → Option Command
create_at json = option_map creation (option_zip (neighbours_at json) (request_at json))

abbrev pub cancel_at : Data → Option Command
cancel_at json = option_map command.Cancel (number_at (codes "id") json)

abbrev pub restore_at : Data → Option Command
restore_at json = option_map command.Restore (number_at (codes "id") json)

-- the first requests are folded, up to the one of this number
abbrev pub fold_at : Data → Option Command
fold_at json = option_map command.Fold (number_at (codes "id") json)

abbrev pub retry_at : Data → Option Command
retry_at json = option_map command.Retry (post_at json)

-- the order of a word
unfoldable pub command_at : ConsoleWord → Data → Option Command
command_at word.Cancel json = cancel_at json
command_at word.Restore json = restore_at json
command_at word.Replace json = replace_at json
command_at word.Create json = create_at json
command_at word.Retry json = retry_at json
command_at word.Fold json = fold_at json
command_at word json = None

abbrev pub order_of : List ℕ × Command → Asked
order_of by = asked.Order by.0 by.1

-- an order has a token
abbrev pub order_at : ConsoleWord → Data → Option Asked
order_at word json = option_map order_of (option_zip (who_at (codes "token") json) (command_at word json))

-- ---- orders that come with a text

-- the words of these
abbrev pub has_text : ConsoleWord → Bool
has_text word.Deploy = true
has_text word.Correct = true
has_text word.Rules = true
has_text word = false

-- what the text is given for
abbrev pub text_order_at : ConsoleWord → Data → Option TextOrder
text_order_at word.Deploy json = Some Deploy
text_order_at word.Correct json = option_map Correct (number_at (codes "number") json)
text_order_at word.Rules json = Some Rules
text_order_at word json = None

-- the text, of rules or of a program
abbrev pub given_text_at : ConsoleWord → Data → Option (List ℕ)
given_text_at word.Rules json = short_text_at (codes "rules") json
given_text_at word json = short_text_at (codes "program") json

abbrev pub given_command : TextOrder × List ℕ → Result Command TextFault
given_command given = command_given given.0 given.1

-- the order that is made of it, or where it is none
abbrev pub given_command_at : ConsoleWord → Data → Option (Result Command TextFault)
given_command_at word json = option_map given_command (option_zip (text_order_at word json) (given_text_at word json))

abbrev pub asked_with : List ℕ → Result Command TextFault → Asked
asked_with token (Ok command) = asked.Order token command
asked_with token (Err fault) = asked.IllText fault

abbrev pub given_asked : List ℕ × Result Command TextFault → Asked
given_asked by = asked_with by.0 by.1

-- each field is tested before the text is read
abbrev pub given_at : ConsoleWord → Data → Option Asked
given_at word json = option_map given_asked (option_zip (who_at (codes "token") json) (given_command_at word json))

-- an order, with a text or without
abbrev pub any_order_at : ConsoleWord → Data → Option Asked
any_order_at word json = if has_text word then given_at word json else order_at word json

-- ---- all words

-- the report of a word
abbrev pub report_named : ConsoleWord → Option Report
report_named word.Notices = Some report.Notices
report_named word.Log = Some report.Log
report_named word.Rows = Some report.Rows
report_named word.Programs = Some report.Programs
report_named word.Changed = Some report.Changed
report_named word = None

-- a report, else what else is asked
abbrev pub report_or : Option Report → Option Asked → Option Asked
report_or (Some which) other = Some (asked.Report which)
report_or None other = other

-- what is asked by an object: a report wants none of its fields
abbrev pub asked_at : ConsoleWord → Data → Option Asked
asked_at word json = report_or (report_named word) (any_order_at word json)

-- what is asked; none where the body is ill: no JSON object, or one that lacks a field or has one that is ill
abbrev pub asked_in : ConsoleRequest → Option Asked
asked_in request = option_and_then (asked_at request.word) (object_in request.body)
