-- What is written for a message is read as that message.
use Rattle.std.specs.Prelude.{◌≡◌, ℕ, ◌+◌, ◌<◌, ◌≤◌, Bool, true, ◌&&◌, List, ◌++◌, Result, Ok, codes, length}
use Rattle.std.specs.List.{list_all}
use Rattle.std.specs.Str.{is_utf8}
use Rattle.lang_base.specs.Texts.{same_text}
use Rattle.lang_tree.specs.Forms.{is_path}
use Rattle.httparse.specs.Grammar.{is_value_byte, trim_ows}
use Rattle.http_front.specs.Fields.{map_of}
use Rattle.http_front.specs.Reading.{SpellsRequest, SpellsResponse}
use Rattle.http_front.specs.Writing.{Line, aire_lines, first_of, request_bytes, request_lines, response_bytes, response_lines, type_line}
use Rattle.http_front.specs.declared.message.FrontRefused.{FrontRefused}
use Rattle.http_front.specs.declared.message.WireRequest.{WireRequest}
use Rattle.http_front.specs.declared.message.WireResponse.{WireResponse}

-- bytes that a field's value may have, with no white space around them
abbrev pub is_plain : List ℕ → Bool
is_plain value = list_all is_value_byte value && same_text (trim_ows value) value

abbrev pub is_plain_line : Line → Bool
is_plain_line line = is_plain line.1

-- before a body the bytes have a head within the limit, and the body is within its own
pub record IsWithin (bytes body : List ℕ) : Type 0 where
  pub short_head : length bytes ≤ 16384 + length body
  pub short_body : length body ≤ 65536

-- ---- requests

-- to a path, with a head and a text as its body within the limits, and field values that a line gives back
pub record IsSendable (request : WireRequest) : Type 0 where
  pub path : is_path request.path ≡ true
  pub host : list_all is_plain_line (first_of request.head (codes "Host")) ≡ true
  pub fields : list_all is_plain_line (aire_lines request.head) ≡ true
  pub within : IsWithin (request_bytes request) request.body
  pub text : is_utf8 request.body ≡ true

-- what is read of it: the same request, with the fields that are written
abbrev pub request_read : WireRequest → WireRequest
request_read request = record {
  method = request.method;
  path = request.path;
  head = map_of (request_lines request);
  body = request.body;
}

-- its bytes, whatever follows them, spell that and nothing else, and what follows is left
abbrev pub RequestReadsBack : WireRequest → Type 0
RequestReadsBack request =
    (rest : List ℕ) (answer : Result WireRequest FrontRefused) (left : List ℕ) → SpellsRequest (request_bytes request ++ rest) answer left
    → (answer ≡ Ok (request_read request)) × (left ≡ rest)

-- ---- responses

-- with a status of three digits, a head and a text as its body within the limits, and field values that a line gives back
pub record IsRepliable (response : WireResponse) : Type 0 where
  pub three_digits : (100 ≤ response.status) × (response.status < 1000)
  pub kind : is_plain_line (type_line response.head) ≡ true
  pub fields : list_all is_plain_line (aire_lines response.head) ≡ true
  pub within : IsWithin (response_bytes response) response.body
  pub text : is_utf8 response.body ≡ true

-- what is read of it: the same response, with the fields that are written
abbrev pub response_read : WireResponse → WireResponse
response_read response = record {
  status = response.status;
  head = map_of (response_lines response);
  body = response.body;
}

-- its bytes, whatever follows them, spell that and nothing else, and what follows is left
abbrev pub ResponseReadsBack : WireResponse → Type 0
ResponseReadsBack response =
    (rest : List ℕ) (answer : Result WireResponse FrontRefused) (left : List ℕ) → SpellsResponse (response_bytes response ++ rest) answer left
    → (answer ≡ Ok (response_read response)) × (left ≡ rest)
