-- The bytes of a message that is written.
use Rattle.std.specs.Prelude.{ℕ, ◌&&◌, List, [], ◌∷◌, ◌++◌, Option, Some, None, length, codes, decimal, nat_le, nat_lt, if◌then◌else◌}
use Rattle.std.specs.List.{flat_map}
use Rattle.http.specs.StatusCode.{reason_phrase}
use Rattle.http_header.specs.Token.{lowercase}
use Rattle.http_header.specs.FieldValue.{FieldValue}
use Rattle.http_header.specs.HeaderMap.{Entries, get}
use Rattle.lang_tree.specs.Methods.{method_word}
use Rattle.http_front.specs.Table.{aire_headers, spelling}
use Rattle.http_front.specs.declared.header.AireHeader.{AireHeader}
use Rattle.http_front.specs.declared.message.WireRequest.{WireRequest}
use Rattle.http_front.specs.declared.message.WireResponse.{WireResponse}

-- a field's name and value
abbrev pub Line : Type 0
Line = List ℕ × List ℕ

-- its line
abbrev pub field_line : Line → List ℕ
field_line field = field.0 ++ (codes ": " ++ (field.1 ++ codes "\r\n"))

abbrev pub line_if : List ℕ → Option FieldValue → List Line
line_if name None = []
line_if name (Some value) = (name, value.bytes) ∷ []

-- the first value under a name, where there is one, with the name spelled so
abbrev pub first_of : Entries FieldValue → List ℕ → List Line
first_of head name = line_if name (get head (lowercase name))

abbrev pub first_of_header : Entries FieldValue → AireHeader → List Line
first_of_header head header = first_of head (spelling header)

-- those of the table, in its order
abbrev pub aire_lines : Entries FieldValue → List Line
aire_lines head = flat_map (first_of_header head) aire_headers

-- what stands last in each head
abbrev pub last_lines : List ℕ → List Line
last_lines body = (codes "Content-Length", decimal (length body)) ∷ (codes "Connection", codes "close") ∷ []

-- the lines of a head, the blank line that ends it, and the body
abbrev pub with_body : List Line → List ℕ → List ℕ
with_body lines body = flat_map field_line lines ++ (codes "\r\n" ++ body)

-- ---- requests

abbrev pub request_lines : WireRequest → List Line
request_lines request = first_of request.head (codes "Host") ++ (aire_lines request.head ++ last_lines request.body)

abbrev pub request_bytes : WireRequest → List ℕ
request_bytes request =
    method_word request.method ++ (codes " " ++ (request.path ++ (codes " HTTP/1.1\r\n" ++ with_body (request_lines request) request.body)))

-- ---- responses

-- the phrase of a status, empty where it has none
abbrev pub phrase_or_none : Option (List ℕ) → List ℕ
phrase_or_none None = []
phrase_or_none (Some phrase) = phrase

abbrev pub phrase : ℕ → List ℕ
phrase status = phrase_or_none (if nat_le 100 status && nat_lt status 1000 then reason_phrase status else None)

abbrev pub type_or_plain : Option FieldValue → List ℕ
type_or_plain None = codes "text/plain; charset=utf-8"
type_or_plain (Some value) = value.bytes

-- the head's own type, or plain text
abbrev pub type_line : Entries FieldValue → Line
type_line head = (codes "Content-Type", type_or_plain (get head (codes "content-type")))

abbrev pub response_lines : WireResponse → List Line
response_lines response = aire_lines response.head ++ (type_line response.head ∷ last_lines response.body)

abbrev pub response_bytes : WireResponse → List ℕ
response_bytes response =
    codes "HTTP/1.1 " ++ (decimal response.status ++ (codes " " ++ (phrase response.status ++ (codes "\r\n" ++ with_body (response_lines response) response.body))))
