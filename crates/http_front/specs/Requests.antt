-- What the head of a request says.
use Rattle.std.specs.Prelude.{◌≡◌, ℕ, ◌≤◌, ◌⊎◌, List, [], Option, Some, None, Result, Ok, Err, length, if◌then◌else◌}
use Rattle.lang_tree.specs.Forms.{is_path}
use Rattle.lang_tree.specs.declared.method.Method.{Method}
use Rattle.httparse.specs.Grammar.{RequestHead, ReadsRequest}
use Rattle.http_header.specs.FieldValue.{FieldValue}
use Rattle.http_header.specs.HeaderMap.{Entries}
use Rattle.http_front.specs.Fields.{head_of}
use Rattle.http_front.specs.Lengths.{body_length}
use Rattle.lang_tree.specs.Methods.{method_named}
use Rattle.http_front.specs.declared.message.FrontRefused.{FrontRefused}
use Rattle.http_front.specs.declared.message.FrontRefused.TheVariants.{BadHead, Method as OtherMethod}
use Rattle.http_front.specs.declared.request_head.RequestStart.{RequestStart}

-- the bytes, as a whole, are this head, and it has at most 64 fields
abbrev pub IsRequestHeadOf : List ℕ → RequestHead → Type 0
IsRequestHeadOf bytes head = ReadsRequest bytes head [] × (length head.fields ≤ 64)

-- a method and the length of a body, tested in this order
abbrev pub started : Option Method → List ℕ → Entries FieldValue → Result ℕ FrontRefused → Result RequestStart FrontRefused
started None path head length = Err OtherMethod
started (Some method) path head (Err why) = Err why
started (Some method) path head (Ok length) = Ok (record { method = method; path = path; head = head; length = length })

-- what its parts say, or why they are refused
abbrev pub start_from : List ℕ → List ℕ → Entries FieldValue → Result RequestStart FrontRefused
start_from method target head =
    if is_path target then started (method_named method) target head (body_length head) else Err BadHead

-- what a head says
abbrev pub request_start : RequestHead → Result RequestStart FrontRefused
request_start head = start_from head.method head.target (head_of head.fields)

-- what the bytes up to a head's end say: what the head that they are says, or that they are none
abbrev pub StartsRequest : List ℕ → Result RequestStart FrontRefused → Type 0
StartsRequest bytes answer =
    (((head : RequestHead) → ¬ (IsRequestHeadOf bytes head)) × (answer ≡ Err BadHead))
    ⊎ ((head : RequestHead) × IsRequestHeadOf bytes head × (answer ≡ request_start head))
