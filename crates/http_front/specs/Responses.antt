-- What the head of a response says.
use Rattle.std.specs.Prelude.{◌≡◌, ℕ, ◌≤◌, ◌⊎◌, List, [], Result, Ok, Err, length}
use Rattle.httparse.specs.Grammar.{ResponseHead, ReadsResponse, status_code}
use Rattle.http_header.specs.FieldValue.{FieldValue}
use Rattle.http_header.specs.HeaderMap.{Entries}
use Rattle.http_front.specs.Fields.{head_of}
use Rattle.http_front.specs.Lengths.{body_length}
use Rattle.http_front.specs.declared.message.FrontRefused.{FrontRefused}
use Rattle.http_front.specs.declared.message.FrontRefused.TheVariants.{BadHead}
use Rattle.http_front.specs.declared.response_head.ResponseStart.{ResponseStart}

-- the bytes, as a whole, are this head, and it has at most 64 fields
abbrev pub IsResponseHeadOf : List ℕ → ResponseHead → Type 0
IsResponseHeadOf bytes head = ReadsResponse bytes head [] × (length head.fields ≤ 64)

abbrev pub with_length : ℕ → Entries FieldValue → Result ℕ FrontRefused → Result ResponseStart FrontRefused
with_length status head (Err why) = Err why
with_length status head (Ok length) = Ok (record { status = status; head = head; length = length })

-- what its parts say, or why they are refused
abbrev pub start_from : ℕ → Entries FieldValue → Result ResponseStart FrontRefused
start_from status head = with_length status head (body_length head)

-- what a head says
abbrev pub response_start : ResponseHead → Result ResponseStart FrontRefused
response_start head = start_from (status_code head) (head_of head.fields)

-- what the bytes up to a head's end say: what the head that they are says, or that they are none
abbrev pub StartsResponse : List ℕ → Result ResponseStart FrontRefused → Type 0
StartsResponse bytes answer =
    (((head : ResponseHead) → ¬ (IsResponseHeadOf bytes head)) × (answer ≡ Err BadHead))
    ⊎ ((head : ResponseHead) × IsResponseHeadOf bytes head × (answer ≡ response_start head))
