-- What the texts of a message's fields say, and whether they fit the message.
use Rattle.std.specs.Prelude.{ℕ, Bool, true, false, List, [], Option, Some, None, Result, IsTrue, if◌then◌else◌}
use Rattle.lang_base.specs.Memory.{lacks}
use Rattle.lang_base.specs.Texts.{same_text}
use Rattle.lang_core.specs.Names.{is_name}
use Rattle.http_header.specs.FieldValue.{FieldValue}
use Rattle.http_header.specs.HeaderMap.{Entries}
use Rattle.http_front.specs.declared.header.AireHeader.{AireHeader}
use Rattle.http_front.specs.declared.header.AireHeader.TheVariants as headers
use Rattle.request_names.specs.Numbers.{number_of}
use Rattle.request_names.specs.Ids.{id_of}
use Rattle.wire_fields.specs.Forms.{is_chain}
use Rattle.wire_fields.specs.Rows.{text_at}
use Rattle.wire_fields.specs.declared.refused.WireRefused.{WireRefused}
use Rattle.wire_fields.specs.declared.refused.WireRefused.TheVariants.{NoMemory, BadHeader}

abbrev pub is_memory : WireRefused → Bool
is_memory NoMemory = true
is_memory refused = false

abbrev pub lacks_memory : {X : Type 0} → Result X WireRefused → Bool
lacks_memory result = lacks is_memory result

-- ---- parts of texts

abbrev pub service_or_none : Option (List ℕ × ℕ) → List ℕ
service_or_none None = []
service_or_none (Some id) = id.0

-- the service of an id
abbrev pub service_in : List ℕ → List ℕ
service_in text = service_or_none (id_of text)

abbrev pub number_or_zero : Option (List ℕ × ℕ) → ℕ
number_or_zero None = 0
number_or_zero (Some id) = id.1

-- the number of an id
abbrev pub number_in : List ℕ → ℕ
number_in text = number_or_zero (id_of text)

abbrev pub or_zero : Option ℕ → ℕ
or_zero None = 0
or_zero (Some n) = n

-- the number in a field
abbrev pub version_at : Entries FieldValue → AireHeader → ℕ
version_at head header = or_zero (number_of (text_at head header))

-- ---- names

-- both services have names
abbrev pub AreNamed : Entries FieldValue → Type 0
AreNamed head = IsTrue (is_name (text_at head headers.From)) × IsTrue (is_name (text_at head headers.Dest))

-- the chain is one
abbrev pub IsChained : Entries FieldValue → Type 0
IsChained head = IsTrue (is_chain (text_at head headers.Chain))

-- ---- how fields fit

abbrev pub bad_unless : AireHeader → Bool → Option WireRefused
bad_unless header fits = if fits then None else Some (BadHeader header)

-- the id in this field is one of the service that this other field names
abbrev pub side_refusal : Entries FieldValue → AireHeader → AireHeader → Option WireRefused
side_refusal head id side = bad_unless id (same_text (service_in (text_at head id)) (text_at head side))

-- the message is for this service
abbrev pub dest_refusal : List ℕ → Entries FieldValue → Option WireRefused
dest_refusal me head = bad_unless headers.Dest (same_text (text_at head headers.Dest) me)
