-- What an operator is replied: JSON without spaces, keys in the order of their bytes.
use Rattle.std.specs.Prelude.{ℕ, ◌++◌, List, [], Result, Ok, Err, codes, decimal}
use Rattle.order_texts.specs.declared.refused.TextFault.{TextFault}
use Rattle.order_texts.specs.declared.refused.TextFault.TheVariants.{Program, Rules}
use Rattle.service_events.specs.declared.answers.Ordered.{Ordered}
use Rattle.service_events.specs.declared.refusals.OrderRefused.{OrderRefused}
use Rattle.service_reports.specs.HandedOn.{about_text}
use Rattle.serde_json.specs.Data.{Data, string, object, no_members, member}
use Rattle.serde_json.specs.Written.{compact_text}
use Rattle.http_front.specs.declared.header.AireHeader.TheVariants as headers
use Rattle.http_front.specs.declared.message.WireResponse.{WireResponse}
use Rattle.wire_fields.specs.Heads.{with_field}
use Rattle.wire_words.specs.Refusals.{Told, order_told}
use Rattle.wire_bytes.specs.Console.{as_json, console_refusal, console_reply, refusal_json}

-- the body was ill: status 400, the word `bad`, and as JSON number 0 and that word
abbrev pub bad : WireResponse
bad = console_refusal (codes "bad") 0

-- a refusal that only an operator is told, whose word isn't of the table: with this status, this text beside the JSON, and this word and number in it
abbrev pub own_refusal : ℕ → List ℕ → List ℕ → ℕ → WireResponse
own_refusal status field word n = record { status = status; head = with_field (as_json []) (headers.Refused, field); body = refusal_json word n }

-- its text is the word and the number
abbrev pub own_numbered : ℕ → List ℕ → ℕ → WireResponse
own_numbered status word n = own_refusal status (word ++ (codes " " ++ decimal n)) word n

-- ---- orders

-- the text of an order is no program, or no rules: status 400, and where
abbrev pub fault_reply : TextFault → WireResponse
fault_reply (Program at) = own_numbered 400 (codes "program") at
fault_reply (Rules line) = own_numbered 400 (codes "rules") line

-- what an order was about, and the rule that allowed it
abbrev pub accepted_json : List ℕ → Ordered → List ℕ
accepted_json me o =
    codes "{\"about\":\"" ++ (about_text me o.about ++ (codes "\",\"rule\":" ++ (decimal o.rule ++ codes "}")))

-- a refusal as its word and number, with the status of that word
abbrev pub refused_reply : Told → WireResponse
refused_reply told = console_refusal told.0 told.1

-- the answer of an order, at the service of this name
abbrev pub order_reply : List ℕ → Result Ordered OrderRefused → WireResponse
order_reply me (Ok o) = console_reply (accepted_json me o)
order_reply me (Err why) = refused_reply (order_told why)

-- ---- reports

-- an object that has the text of a report, and nothing else
abbrev pub report_object : List ℕ → Data
report_object text = object (member (codes "text") (string text) no_members)

abbrev pub report_reply : List ℕ → WireResponse
report_reply text = console_reply (compact_text (report_object text))
