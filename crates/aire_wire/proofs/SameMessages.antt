-- A request says what its fields of the table say, whatever else its head has.
use Rattle.std.proofs.Common.{◌≡◌, ℕ, Bool, true, false, List, Option, Some, None, Result, refl, sym, ap, ◌∙◌}
use Rattle.lang_core.specs.declared.request.Request.{Request}
use Rattle.lang_tree.specs.declared.method.Method.{Method}
use Rattle.http_header.specs.FieldValue.{FieldValue}
use Rattle.http_header.specs.HeaderMap.{Entries}
use Rattle.http_front.specs.declared.header.AireHeader.TheVariants as headers
use Rattle.http_front.specs.declared.message.WireRequest.{WireRequest}
use Rattle.request_names.specs.Numbers.{number_of}
use Rattle.wire_fields.specs.Fits.{bad_unless, service_in, version_at}
use Rattle.wire_fields.specs.Kinds.{request_kind}
use Rattle.wire_fields.specs.Rows.{first_of, first_refusal, neighbour_headers, seal_header, set_headers, text_at}
use Rattle.wire_fields.specs.declared.kinds.RequestKind.{RequestKind}
use Rattle.wire_fields.specs.declared.kinds.RequestKind.TheVariants as kinds
use Rattle.wire_fields.specs.declared.refused.WireRefused.{WireRefused}
use Rattle.wire_fields.specs.Secrets.{Secrets}
use Rattle.wire_fields.proofs.SameFields.{Agree, of_table, same_table}
use Rattle.lang_base.specs.Texts.{same_text}
use Rattle.aire_wire.specs.Incoming.{desired_in, desired_refusal, incoming, incoming_as, is_deletion, says_replace_response, seal_refusal, set_answer, set_fields, set_with, set_word, unless_refused}
use Rattle.aire_wire.specs.declared.incoming.Incoming.{Incoming}
use Rattle.aire_wire.specs.declared.incoming.Incoming.TheVariants.{Set}

-- the request with no other fields
abbrev tabled : WireRequest → WireRequest
tabled request = record { method = request.method; path = request.path; head = of_table request.head; body = request.body }

-- ---- set messages

desired_same : (deletion : Bool) (head : Entries FieldValue) → desired_refusal deletion head ≡ desired_refusal deletion (of_table head)
desired_same true head = refl
desired_same false head = refl

request_same : (deletion : Bool) (request : WireRequest) → desired_in deletion request ≡ desired_in deletion (tabled request)
request_same true request = refl
request_same false request = refl

seal_same : (peers : Secrets) (deletion : Bool) (request : WireRequest) → seal_refusal peers request (set_fields deletion) ≡ seal_refusal peers (tabled request) (set_fields deletion)
seal_same peers true request = refl
seal_same peers false request = refl

-- what a set message is read as, by what is wrong with its desired request and its seal, and by that request
abbrev set_by : List ℕ → WireRequest → Option WireRefused → Option WireRefused → Option Request → Result Incoming WireRefused
set_by me request desired seal asked =
    let head = request.head in
    unless_refused
    (first_of (first_of (first_refusal head true set_headers)
    (first_of desired
    (first_of (first_refusal head false neighbour_headers)
    (first_of (first_refusal head true seal_header)
    (first_of (bad_unless headers.Dest (same_text (text_at head headers.Dest) me))
    (first_of (bad_unless headers.Repair (same_text (text_at head headers.Repair) (set_word (is_deletion head) (version_at head headers.Version))))
    (bad_unless headers.ResponseId (same_text (service_in (text_at head headers.ResponseId)) (text_at head headers.From)))))))))
    seal)
    (Set (set_with request asked (version_at head headers.Version) (number_of (text_at head headers.Before)) (number_of (text_at head headers.After))))

set_same : (me : List ℕ) (peers : Secrets) (request : WireRequest) → set_answer me peers request ≡ set_answer me peers (tabled request)
set_same me peers request =
    let head = request.head in
    let deletion = is_deletion head in
    ap (λ (why : Option WireRefused). set_by me request why (seal_refusal peers request (set_fields deletion)) (desired_in deletion request)) (desired_same deletion head)
    ∙ ap (λ (why : Option WireRefused). set_by me request (desired_refusal deletion (of_table head)) why (desired_in deletion request)) (seal_same peers deletion request)
    ∙ ap (λ (asked : Option Request). set_by me request (desired_refusal deletion (of_table head)) (seal_refusal peers (tabled request) (set_fields deletion)) asked) (request_same deletion request)

-- ---- any request

as_tabled : (me : List ℕ) (peers : Secrets) (console : List ℕ) (request : WireRequest) (kind : Option RequestKind)
    → incoming_as me peers console request kind ≡ incoming_as me peers console (tabled request) kind
unfolding says_replace_response
as_tabled me peers console request None = refl
as_tabled me peers console request (Some kinds.Outside) = refl
as_tabled me peers console request (Some kinds.Call) = refl
as_tabled me peers console request (Some kinds.Set) = set_same me peers request
as_tabled me peers console request (Some kinds.Token) = refl
as_tabled me peers console request (Some kinds.Fetch) = refl
as_tabled me peers console request (Some (kinds.Console word)) = refl

by_table : (me : List ℕ) (peers : Secrets) (console : List ℕ) (request : WireRequest) → incoming me peers console request ≡ incoming me peers console (tabled request)
by_table me peers console request =
    as_tabled me peers console request (request_kind request.method request.path request.head)

parts : (method other : Method) (path named : List ℕ) (head made : Entries FieldValue) (body said : List ℕ) → method ≡ other → path ≡ named → head ≡ made → body ≡ said
    → ◌≡◌ {A = WireRequest} (record { method = method; path = path; head = head; body = body }) (record { method = other; path = named; head = made; body = said })
parts method other path named head made body said a b c d = rw (a, b, c, d) refl

pub same_message : (me : List ℕ) (peers : Secrets) (console : List ℕ) (read written : WireRequest) → read.method ≡ written.method → read.path ≡ written.path
    → read.body ≡ written.body → Agree read.head written.head → incoming me peers console read ≡ incoming me peers console written
same_message me peers console read written method path body agree =
    by_table me peers console read
    ∙ ap (incoming me peers console) (parts read.method written.method read.path written.path (of_table read.head) (of_table written.head) read.body written.body
    method path (same_table read.head written.head agree) body)
    ∙ sym (by_table me peers console written)
