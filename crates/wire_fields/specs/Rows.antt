-- Which header fields a message has, and the first that is missing or bad.
use Rattle.std.specs.Prelude.{ℕ, Bool, ◌&&◌, List, [], ◌∷◌, Option, Some, None, if◌then◌else◌}
use Rattle.std.specs.Str.{is_utf8}
use Rattle.http_header.specs.FieldValue.{FieldValue}
use Rattle.http_header.specs.HeaderMap.{Entries, get, get_all}
use Rattle.http_header.specs.Token.{lowercase}
use Rattle.http_front.specs.Table.{spelling}
use Rattle.http_front.specs.declared.header.AireHeader.{AireHeader}
use Rattle.http_front.specs.declared.header.AireHeader.TheVariants.{From, Dest, RequestId, ResponseId, NotifierUrl, Repair, Version, AnswerVersion, Who, Method, Path, RequestWho, Chain, Before, After, Refused, Seal}
use Rattle.wire_fields.specs.Forms.{has_form}
use Rattle.wire_fields.specs.declared.refused.WireRefused.{WireRefused}
use Rattle.wire_fields.specs.declared.refused.WireRefused.TheVariants.{BadHeader, MissingHeader}

-- the value is a text of its header's form
abbrev pub is_spelt : AireHeader → List ℕ → Bool
is_spelt header bytes = is_utf8 bytes && has_form header bytes

-- what is wrong with a field that has these values
abbrev pub values_refusal : Bool → AireHeader → List FieldValue → Option WireRefused
values_refusal wanted header [] = if wanted then Some (MissingHeader header) else None
values_refusal wanted header (value ∷ []) = if is_spelt header value.bytes then None else Some (BadHeader header)
values_refusal wanted header (value ∷ other ∷ values) = Some (BadHeader header)

abbrev pub field_refusal : Entries FieldValue → Bool → AireHeader → Option WireRefused
field_refusal head wanted header = values_refusal wanted header (get_all head (lowercase (spelling header)))

-- the first of two
abbrev pub first_of : Option WireRefused → Option WireRefused → Option WireRefused
first_of None second = second
first_of (Some why) second = Some why

-- what is wrong with these fields, of which the first counts
abbrev pub first_refusal : Entries FieldValue → Bool → List AireHeader → Option WireRefused
first_refusal head wanted [] = None
first_refusal head wanted (header ∷ headers) = first_of (field_refusal head wanted header) (first_refusal head wanted headers)

abbrev pub text_or_none : Option FieldValue → List ℕ
text_or_none None = []
text_or_none (Some value) = if is_utf8 value.bytes then value.bytes else []

-- the text of a field, empty where there is none
abbrev pub text_at : Entries FieldValue → AireHeader → List ℕ
text_at head header = text_or_none (get head (lowercase (spelling header)))

-- ---- the fields of each kind of request, in the order of the table

abbrev pub call_headers : List AireHeader
call_headers = From ∷ Dest ∷ ResponseId ∷ NotifierUrl ∷ Who ∷ Chain ∷ []

abbrev pub set_headers : List AireHeader
set_headers = From ∷ Dest ∷ ResponseId ∷ Repair ∷ Version ∷ Who ∷ []

-- those of the desired request, which a deletion doesn't have
abbrev pub desired_headers : List AireHeader
desired_headers = Method ∷ Path ∷ RequestWho ∷ Chain ∷ []

abbrev pub neighbour_headers : List AireHeader
neighbour_headers = Before ∷ After ∷ []

abbrev pub token_headers : List AireHeader
token_headers = From ∷ Dest ∷ RequestId ∷ ResponseId ∷ Repair ∷ AnswerVersion ∷ Who ∷ []

abbrev pub fetch_headers : List AireHeader
fetch_headers = From ∷ Dest ∷ ResponseId ∷ AnswerVersion ∷ []

abbrev pub console_headers : List AireHeader
console_headers = Dest ∷ Who ∷ []

-- the field that stands last in each kind of message between services
abbrev pub seal_header : List AireHeader
seal_header = Seal ∷ []

-- ---- the fields of each kind of reply between services but its seal, in the order of the table

abbrev pub live_reply_headers : List AireHeader
live_reply_headers = From ∷ Dest ∷ RequestId ∷ ResponseId ∷ Version ∷ AnswerVersion ∷ []

abbrev pub ack_headers : List AireHeader
ack_headers = From ∷ Dest ∷ ResponseId ∷ Version ∷ []

abbrev pub confirm_headers : List AireHeader
confirm_headers = From ∷ Dest ∷ ResponseId ∷ AnswerVersion ∷ []

abbrev pub refusal_headers : List AireHeader
refusal_headers = From ∷ Dest ∷ Refused ∷ []
