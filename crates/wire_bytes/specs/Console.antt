-- What a service replies to an operator: JSON, and beside a refusal its word.
use Rattle.std.specs.Prelude.{ℕ, List, [], ◌∷◌, ◌++◌, codes, decimal}
use Rattle.http_header.specs.FieldValue.{FieldValue, plain_value}
use Rattle.http_header.specs.HeaderMap.{Entries, insert}
use Rattle.http_front.specs.declared.header.AireHeader.TheVariants as headers
use Rattle.http_front.specs.declared.message.WireResponse.{WireResponse}
use Rattle.wire_fields.specs.Heads.{with_fields}
use Rattle.wire_fields.specs.Words.{refusal_status, refusal_text}

-- the head with the type of JSON
abbrev pub as_json : Entries FieldValue → Entries FieldValue
as_json head = insert head (codes "content-type") (plain_value (codes "application/json"))

-- what was asked for
abbrev pub console_reply : List ℕ → WireResponse
console_reply body = record { status = 200; head = as_json []; body = body }

-- a refusal as JSON
abbrev pub refusal_json : List ℕ → ℕ → List ℕ
refusal_json word n = codes "{\"number\":" ++ (decimal n ++ (codes ",\"refused\":\"" ++ (word ++ codes "\"}")))

-- why it wasn't done
abbrev pub console_refusal : List ℕ → ℕ → WireResponse
console_refusal word n = record {
  status = refusal_status word;
  head = as_json (with_fields [] ((headers.Refused, refusal_text word n) ∷ []));
  body = refusal_json word n;
}
