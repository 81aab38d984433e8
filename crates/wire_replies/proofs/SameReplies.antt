-- A response says what its fields of the table say, whatever else its head has.
use Rattle.std.proofs.Common.{◌≡◌, ℕ, List, codes, refl, sym, ap, ◌∙◌}
use Rattle.http_header.specs.FieldValue.{FieldValue}
use Rattle.http_header.specs.HeaderMap.{Entries, get}
use Rattle.http_front.specs.declared.message.WireResponse.{WireResponse}
use Rattle.wire_fields.proofs.SameFields.{Agree, of_table, same_table}
use Rattle.wire_replies.specs.Kinds.{reply_kind}
use Rattle.wire_replies.specs.Reading.{replied, reply_of}
use Rattle.wire_replies.specs.declared.kinds.Asking.{Asking}
use Rattle.wire_replies.specs.declared.kinds.ReplyKind.{ReplyKind}
use Rattle.wire_replies.specs.declared.kinds.ReplyKind.TheVariants as kinds

-- the response with no other fields
abbrev tabled : WireResponse → WireResponse
tabled response = record { status = response.status; head = of_table response.head; body = response.body }

as_tabled : (me peer secret : List ℕ) (response : WireResponse) (kind : ReplyKind) → reply_of me peer secret kind response ≡ reply_of me peer secret kind (tabled response)
as_tabled me peer secret response kinds.Live = refl
as_tabled me peer secret response kinds.Ack = refl
as_tabled me peer secret response kinds.Confirm = refl
as_tabled me peer secret response kinds.Refusal = refl

by_table : (me peer secret : List ℕ) (asking : Asking) (response : WireResponse) → replied me peer secret asking response ≡ replied me peer secret asking (tabled response)
by_table me peer secret asking response = as_tabled me peer secret response (reply_kind asking (get response.head (codes "aire-refused")))

parts : (status other : ℕ) (head made : Entries FieldValue) (body said : List ℕ) → status ≡ other → head ≡ made → body ≡ said
    → ◌≡◌ {A = WireResponse} (record { status = status; head = head; body = body }) (record { status = other; head = made; body = said })
parts status other head made body said a b c = rw (a, b, c) refl

pub same_reply : (me peer secret : List ℕ) (asking : Asking) (read written : WireResponse) → read.status ≡ written.status → read.body ≡ written.body → Agree read.head written.head
    → replied me peer secret asking read ≡ replied me peer secret asking written
same_reply me peer secret asking read written status body agree =
    by_table me peer secret asking read
    ∙ ap (replied me peer secret asking) (parts read.status written.status (of_table read.head) (of_table written.head) read.body written.body
    status (same_table read.head written.head agree) body)
    ∙ sym (by_table me peer secret asking written)
