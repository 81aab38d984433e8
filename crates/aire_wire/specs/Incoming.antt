-- Which message a request spells, or the first refusal.
use Rattle.std.specs.Prelude.{ℕ, ◌-◌, Bool, true, false, ◌&&◌, ◌||◌, List, [], ◌∷◌, ◌++◌, Option, Some, None, Result, Ok, Err, codes, length, take, nat_eq, ◌==◌, if◌then◌else◌}
use Rattle.std.specs.List.{ends_with, slice_split}
use Rattle.lang_core.specs.declared.request.Request.{Request}
use Rattle.lang_base.specs.Texts.{same_text}
use Rattle.lang_tree.specs.declared.method.Method.{Method}
use Rattle.lang_tree.specs.declared.method.Method.TheVariants.{Get}
use Rattle.http_header.specs.FieldValue.{FieldValue}
use Rattle.http_header.specs.HeaderMap.{Entries}
use Rattle.lang_tree.specs.Methods.{method_named}
use Rattle.http_front.specs.declared.header.AireHeader.{AireHeader}
use Rattle.http_front.specs.declared.header.AireHeader.TheVariants as headers
use Rattle.http_front.specs.declared.message.WireRequest.{WireRequest}
use Rattle.peer_seal.specs.Seal.{seal_digits}
use Rattle.repair_messages.specs.declared.messages.Fetch.{Fetch as FetchMessage}
use Rattle.repair_messages.specs.declared.messages.SetMessage.{SetMessage}
use Rattle.repair_messages.specs.declared.messages.TokenMessage.{TokenMessage}
use Rattle.request_names.specs.Numbers.{number_of}
use Rattle.wire_fields.specs.Fits.{bad_unless, dest_refusal, number_in, service_in, side_refusal, version_at}
use Rattle.wire_fields.specs.Kinds.{request_kind}
use Rattle.wire_fields.specs.Rows.{call_headers, console_headers, desired_headers, fetch_headers, first_of, first_refusal, neighbour_headers, seal_header, set_headers, text_at, token_headers}
use Rattle.wire_fields.specs.Sealed.{sealed_request}
use Rattle.wire_fields.specs.Named.{value_of}
use Rattle.wire_fields.specs.Secrets.{Secrets}
use Rattle.wire_fields.specs.declared.console.ConsoleRequest.{ConsoleRequest}
use Rattle.wire_fields.specs.declared.console.ConsoleWord.{ConsoleWord}
use Rattle.wire_fields.specs.declared.kinds.RequestKind.{RequestKind}
use Rattle.wire_fields.specs.declared.kinds.RequestKind.TheVariants as kinds
use Rattle.wire_fields.specs.declared.refused.WireRefused.{WireRefused}
use Rattle.wire_fields.specs.declared.refused.WireRefused.TheVariants.{UnknownKind, Seal}
use Rattle.aire_wire.specs.declared.incoming.Incoming.{Incoming}
use Rattle.aire_wire.specs.declared.incoming.Incoming.TheVariants.{Outside, Live, Set, Token, Fetch, Console}

-- ---- answers

abbrev pub unless_refused : Option WireRefused → Incoming → Result Incoming WireRefused
unless_refused None message = Ok message
unless_refused (Some why) message = Err why

-- ---- parts of texts

abbrev pub or_get : Option Method → Method
or_get None = Get
or_get (Some method) = method

-- nothing stands there, or a comma stands last
abbrev pub is_behind_comma : List ℕ → Bool
is_behind_comma front = nat_eq (length front) 0 || ends_with nat_eq front (codes ",")

-- the last name of a chain
abbrev pub ends_with_name : List ℕ → List ℕ → Bool
ends_with_name chain name = ends_with nat_eq chain name && is_behind_comma (take (length chain - length name) chain)

-- the names of a chain
abbrev pub names_in : List ℕ → List (List ℕ)
names_in chain = slice_split (λ b. b == 44) chain

-- ---- seals

-- these bytes were sealed with a peer's secret, which the sender has if it is one
abbrev pub sealed_by : Option (List ℕ) → List ℕ → List ℕ → Option WireRefused
sealed_by None bytes text = Some Seal
sealed_by (Some secret) bytes text = if same_text text (seal_digits secret bytes) then None else Some Seal

abbrev pub sealed_bytes : WireRequest → List AireHeader → List ℕ
sealed_bytes request fields = sealed_request request.method request.path request.head fields request.body

abbrev pub seal_refusal : Secrets → WireRequest → List AireHeader → Option WireRefused
seal_refusal peers request fields =
    sealed_by (value_of (text_at request.head headers.From) peers) (sealed_bytes request fields) (text_at request.head headers.Seal)

-- ---- requests from outside

abbrev pub who_or_anyone : List ℕ → List ℕ
who_or_anyone who = if nat_eq (length who) 0 then codes "anyone" else who

abbrev pub outside_request : WireRequest → Request
outside_request request = record {
  method = request.method;
  path = request.path;
  body = request.body;
  who = who_or_anyone (text_at request.head headers.Who);
  chain = [];
}

abbrev pub outside_refusal : Entries FieldValue → Option WireRefused
outside_refusal head = first_refusal head false (headers.Who ∷ [])

-- ---- live calls

abbrev pub call_head_refusal : List ℕ → Entries FieldValue → Option WireRefused
call_head_refusal me head =
    first_of (first_refusal head true call_headers)
    (first_of (first_refusal head true seal_header)
    (first_of (bad_unless headers.Dest (same_text (text_at head headers.Dest) me))
    (first_of (bad_unless headers.ResponseId (same_text (service_in (text_at head headers.ResponseId)) (text_at head headers.From)))
    (bad_unless headers.Chain (ends_with_name (text_at head headers.Chain) (text_at head headers.From))))))

abbrev pub call_request : WireRequest → Request
call_request request = record {
  method = request.method;
  path = request.path;
  body = request.body;
  who = text_at request.head headers.Who;
  chain = names_in (text_at request.head headers.Chain);
}

-- what a request's fields say of a version of a call
abbrev pub set_with : WireRequest → Option Request → ℕ → Option ℕ → Option ℕ → SetMessage
set_with request desired version before after = record {
  caller = text_at request.head headers.From;
  dest = text_at request.head headers.Dest;
  number = number_in (text_at request.head headers.ResponseId);
  version = version;
  desired = desired;
  before = before;
  after = after;
  who = text_at request.head headers.Who;
}

abbrev pub call_message : WireRequest → SetMessage
call_message request = set_with request (Some (call_request request)) 1 None None

-- ---- set messages

abbrev pub is_deletion : Entries FieldValue → Bool
is_deletion head = same_text (text_at head headers.Repair) (codes "delete")

-- those fields that it has
abbrev pub set_fields : Bool → List AireHeader
set_fields true = set_headers ++ neighbour_headers
set_fields false = set_headers ++ (desired_headers ++ neighbour_headers)

abbrev pub desired_refusal : Bool → Entries FieldValue → Option WireRefused
desired_refusal true head = None
desired_refusal false head = first_refusal head true desired_headers

-- how a message of this version is spelled
abbrev pub set_word : Bool → ℕ → List ℕ
set_word true version = codes "delete"
set_word false version = if nat_eq version 1 then codes "create" else codes "replace"

abbrev pub set_head_refusal : List ℕ → Entries FieldValue → Option WireRefused
set_head_refusal me head =
    first_of (first_refusal head true set_headers)
    (first_of (desired_refusal (is_deletion head) head)
    (first_of (first_refusal head false neighbour_headers)
    (first_of (first_refusal head true seal_header)
    (first_of (bad_unless headers.Dest (same_text (text_at head headers.Dest) me))
    (first_of (bad_unless headers.Repair (same_text (text_at head headers.Repair) (set_word (is_deletion head) (version_at head headers.Version))))
    (bad_unless headers.ResponseId (same_text (service_in (text_at head headers.ResponseId)) (text_at head headers.From))))))))

abbrev pub set_request : WireRequest → Request
set_request request = record {
  method = or_get (method_named (text_at request.head headers.Method));
  path = text_at request.head headers.Path;
  body = request.body;
  who = text_at request.head headers.RequestWho;
  chain = names_in (text_at request.head headers.Chain);
}

abbrev pub desired_in : Bool → WireRequest → Option Request
desired_in true request = None
desired_in false request = Some (set_request request)

abbrev pub set_message : WireRequest → SetMessage
set_message request =
    set_with request (desired_in (is_deletion request.head) request) (version_at request.head headers.Version)
    (number_of (text_at request.head headers.Before)) (number_of (text_at request.head headers.After))

-- ---- tokens

unfoldable pub says_replace_response : Entries FieldValue → Bool
says_replace_response head = same_text (text_at head headers.Repair) (codes "replace_response")

abbrev pub token_sides : List ℕ → Entries FieldValue → Option WireRefused
token_sides me head =
    first_of (dest_refusal me head)
    (first_of (bad_unless headers.Repair (says_replace_response head))
    (first_of (side_refusal head headers.RequestId headers.From) (side_refusal head headers.ResponseId headers.Dest)))

abbrev pub token_head_refusal : List ℕ → Entries FieldValue → Option WireRefused
token_head_refusal me head =
    first_of (first_refusal head true token_headers) (first_of (first_refusal head true seal_header) (token_sides me head))

-- the service that was called announces, and the one that called hears it
abbrev pub token_message : WireRequest → TokenMessage
token_message request = record {
  caller = text_at request.head headers.Dest;
  callee = text_at request.head headers.From;
  id = number_in (text_at request.head headers.RequestId);
  number = number_in (text_at request.head headers.ResponseId);
  answer_version = version_at request.head headers.AnswerVersion;
  who = text_at request.head headers.Who;
}

-- ---- fetches

abbrev pub fetch_sides : List ℕ → Entries FieldValue → Option WireRefused
fetch_sides me head = first_of (dest_refusal me head) (side_refusal head headers.ResponseId headers.From)

abbrev pub fetch_head_refusal : List ℕ → Entries FieldValue → Option WireRefused
fetch_head_refusal me head =
    first_of (first_refusal head true fetch_headers) (first_of (first_refusal head true seal_header) (fetch_sides me head))

-- the service that called asks the one that was called
abbrev pub fetch_message : WireRequest → FetchMessage
fetch_message request = record {
  caller = text_at request.head headers.From;
  callee = text_at request.head headers.Dest;
  number = number_in (text_at request.head headers.ResponseId);
  answer_version = version_at request.head headers.AnswerVersion;
}

-- ---- operators

abbrev pub console_head_refusal : List ℕ → Entries FieldValue → Option WireRefused
console_head_refusal me head =
    first_of (first_refusal head true console_headers)
    (first_of (first_refusal head true seal_header)
    (bad_unless headers.Dest (same_text (text_at head headers.Dest) me)))

abbrev pub console_seal_refusal : List ℕ → WireRequest → Option WireRefused
console_seal_refusal secret request =
    if same_text (text_at request.head headers.Seal) (seal_digits secret (sealed_bytes request console_headers)) then None else Some Seal

abbrev pub console_request : ConsoleWord → WireRequest → ConsoleRequest
console_request word request = record { word = word; who = text_at request.head headers.Who; body = request.body }

-- ---- any request

abbrev pub outside_answer : WireRequest → Result Incoming WireRefused
outside_answer request = unless_refused (outside_refusal request.head) (Outside (outside_request request))

abbrev pub call_refusal : List ℕ → Secrets → WireRequest → Option WireRefused
call_refusal me peers request = first_of (call_head_refusal me request.head) (seal_refusal peers request call_headers)

abbrev pub call_answer : List ℕ → Secrets → WireRequest → Result Incoming WireRefused
call_answer me peers request = unless_refused (call_refusal me peers request) (Live (call_message request))

abbrev pub set_refusal : List ℕ → Secrets → WireRequest → Option WireRefused
set_refusal me peers request =
    first_of (set_head_refusal me request.head) (seal_refusal peers request (set_fields (is_deletion request.head)))

abbrev pub set_answer : List ℕ → Secrets → WireRequest → Result Incoming WireRefused
set_answer me peers request = unless_refused (set_refusal me peers request) (Set (set_message request))

abbrev pub token_refusal : List ℕ → Secrets → WireRequest → Option WireRefused
token_refusal me peers request = first_of (token_head_refusal me request.head) (seal_refusal peers request token_headers)

abbrev pub token_answer : List ℕ → Secrets → WireRequest → Result Incoming WireRefused
token_answer me peers request = unless_refused (token_refusal me peers request) (Token (token_message request))

abbrev pub fetch_refusal : List ℕ → Secrets → WireRequest → Option WireRefused
fetch_refusal me peers request = first_of (fetch_head_refusal me request.head) (seal_refusal peers request fetch_headers)

abbrev pub fetch_answer : List ℕ → Secrets → WireRequest → Result Incoming WireRefused
fetch_answer me peers request = unless_refused (fetch_refusal me peers request) (Fetch (fetch_message request))

abbrev pub console_refusal : List ℕ → List ℕ → WireRequest → Option WireRefused
console_refusal me secret request = first_of (console_head_refusal me request.head) (console_seal_refusal secret request)

abbrev pub console_answer : List ℕ → List ℕ → ConsoleWord → WireRequest → Result Incoming WireRefused
console_answer me secret word request = unless_refused (console_refusal me secret request) (Console (console_request word request))

-- what a request of a kind says
abbrev pub incoming_as : List ℕ → Secrets → List ℕ → WireRequest → Option RequestKind → Result Incoming WireRefused
incoming_as me peers secret request None = Err UnknownKind
incoming_as me peers secret request (Some kinds.Outside) = outside_answer request
incoming_as me peers secret request (Some kinds.Call) = call_answer me peers request
incoming_as me peers secret request (Some kinds.Set) = set_answer me peers request
incoming_as me peers secret request (Some kinds.Token) = token_answer me peers request
incoming_as me peers secret request (Some kinds.Fetch) = fetch_answer me peers request
incoming_as me peers secret request (Some (kinds.Console word)) = console_answer me secret word request

-- what a request says to the service of this name, whose peers these are and whose console has this secret
abbrev pub incoming : List ℕ → Secrets → List ℕ → WireRequest → Result Incoming WireRefused
incoming me peers secret request =
    incoming_as me peers secret request (request_kind request.method request.path request.head)
