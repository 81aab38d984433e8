-- A head that was read has what the head that was written has, of each header of the table.
use Rattle.std.proofs.Common.{◌≡◌, ℕ, true, List, map, ap, ◌∙◌}
use Rattle.std.specs.List.{list_all, slice_get}
use Rattle.http_header.specs.FieldValue.{FieldValue}
use Rattle.http_header.specs.HeaderMap.{Entries, get_all}
use Rattle.http_front.specs.Table.{aire_headers}
use Rattle.http_front.specs.Writing.{aire_lines}
use Rattle.http_front.specs.declared.header.AireHeader.{AireHeader}
use Rattle.http_front.specs.declared.message.WireRequest.{WireRequest}
use Rattle.http_front.specs.declared.message.WireResponse.{WireResponse}
use Rattle.http_front.specs.ReadBack.{is_plain_line, request_read, response_read}
use Rattle.http_front.proofs.MapLemmas.{first_plain, key, request_field, response_field}
use Rattle.wire_fields.proofs.MadeHeads.{AreSingle, single}

-- both heads have the same values of each header of the table
abbrev pub Agree : Entries FieldValue → Entries FieldValue → Type 0
Agree head other = (header : AireHeader) → get_all head (key header) ≡ get_all other (key header)

-- a head without other fields, its fields in the order of the table
abbrev pub of_table : Entries FieldValue → Entries FieldValue
of_table head = map (λ header. (key header, get_all head (key header))) aire_headers

pub same_table : (head other : Entries FieldValue) → Agree head other → of_table head ≡ of_table other
same_table head other agree = ap (λ (f : AireHeader → List ℕ × List FieldValue). map f aire_headers) (λ i header. (key header, agree header i))

-- the lines of the table are by its fields
pub same_lines : (head other : Entries FieldValue) → Agree head other → list_all is_plain_line (aire_lines other) ≡ true → list_all is_plain_line (aire_lines head) ≡ true
same_lines head other agree plain = ap (λ (h : Entries FieldValue). list_all is_plain_line (aire_lines h)) (same_table head other agree) ∙ plain

-- ---- sent and read

pub request_agrees : (sent : WireRequest) (head : Entries FieldValue) → Agree sent.head head → AreSingle head → Agree (request_read sent).head head
request_agrees sent head agree one = λ header.
    request_field sent header ∙ ap (λ (values : List FieldValue). first_plain (slice_get values 0)) (agree header) ∙ single (get_all head (key header)) (one header)

pub response_agrees : (sent : WireResponse) (head : Entries FieldValue) → Agree sent.head head → AreSingle head → Agree (response_read sent).head head
response_agrees sent head agree one = λ header.
    response_field sent header ∙ ap (λ (values : List FieldValue). first_plain (slice_get values 0)) (agree header) ∙ single (get_all head (key header)) (one header)
