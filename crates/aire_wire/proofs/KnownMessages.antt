-- What is known of a message that was read.
use Rattle.std.proofs.Common.{◌≡◌, ℕ, Bool, true, false, cond, List, [], ◌∷◌, Option, Some, None, Result, Ok, Err, length, codes, nat_eq, option_map, drop, refl, sym, subst, ap, ◌∙◌, arith}
use Rattle.std.specs.List.{slice_get, starts_with}
use Rattle.std.specs.Str.{is_utf8}
use Rattle.std.proofs.lemmas.Bool.{and_parts}
use Rattle.std.specs.Option.{ForSome}
use Rattle.std.specs.Result.{IfOk}
use Rattle.lang_base.specs.Texts.{same_text}
use Rattle.lang_core.specs.Names.{is_who}
use Rattle.lang_tree.specs.declared.method.Method.{Method}
use Rattle.lang_tree.specs.declared.method.Method.TheVariants as methods
use Rattle.http_header.specs.FieldValue.{FieldValue}
use Rattle.http_header.specs.HeaderMap.{Entries, get, get_all}
use Rattle.http_header.specs.Token.{lowercase}
use Rattle.http_front.specs.Table.{spelling}
use Rattle.http_front.specs.declared.header.AireHeader.{AireHeader}
use Rattle.http_front.specs.declared.header.AireHeader.TheVariants as headers
use Rattle.http_front.specs.declared.message.WireRequest.{WireRequest}
use Rattle.peer_seal.specs.Seal.{seal_digits}
use Rattle.wire_fields.specs.Fits.{bad_unless, lacks_memory, number_in, service_in}
use Rattle.wire_fields.specs.Forms.{has_form}
use Rattle.wire_fields.specs.Kinds.{console_word, handled_kind, own_kind, request_kind}
use Rattle.wire_fields.specs.Named.{value_of}
use Rattle.wire_fields.specs.Rows.{call_headers, console_headers, desired_headers, fetch_headers, field_refusal, first_refusal, is_spelt, neighbour_headers, seal_header, set_headers, text_at, text_or_none, token_headers, values_refusal}
use Rattle.wire_fields.specs.Secrets.{Secrets}
use Rattle.wire_fields.specs.declared.console.ConsoleWord.{ConsoleWord}
use Rattle.wire_fields.specs.declared.kinds.RequestKind.{RequestKind}
use Rattle.wire_fields.specs.declared.kinds.RequestKind.TheVariants as kinds
use Rattle.wire_fields.specs.declared.refused.WireRefused.{WireRefused}
use Rattle.wire_fields.specs.declared.refused.WireRefused.TheVariants.{BadHeader, Seal}
use Rattle.wire_fields.proofs.FormLemmas.{good_last, neither}
use Rattle.aire_wire.specs.Incoming.{call_head_refusal, call_message, call_refusal, call_request, console_head_refusal, console_refusal, console_request, console_seal_refusal, desired_in, desired_refusal, ends_with_name, fetch_head_refusal, fetch_message, fetch_refusal, fetch_sides, incoming, incoming_as, is_deletion, outside_refusal, outside_request, seal_refusal, sealed_by, sealed_bytes, set_fields, set_head_refusal, set_message, set_refusal, set_request, token_head_refusal, token_message, token_refusal, token_sides, unless_refused, who_or_anyone}
use Rattle.aire_wire.specs.Known.{IsConsoleRequest, IsFetchMessage, IsKnown, IsLiveCall, IsOutside, IsSealedBy, IsSetMessage, IsTokenMessage}
use Rattle.aire_wire.specs.ReadBack.{IsCalled, IsFromOne, IsNumber}
use Rattle.aire_wire.specs.declared.incoming.Incoming.{Incoming}
use Rattle.aire_wire.specs.declared.incoming.Incoming.TheVariants.{Outside, Live, Set, Token, Fetch, Console}
use Rattle.aire_wire.proofs.ReadFacts.{fitted, id_from_one, last_name, number_small, same, some_names, version_small}

-- ---- fields

-- of these fields none is refused
record Good (head : Entries FieldValue) (list : List AireHeader) : Type 0 where
  pub none : first_refusal head true list ≡ None

-- the first of them has its form, and the others are good
first_good : (head : Entries FieldValue) (header : AireHeader) {others : List AireHeader} → Good head (header ∷ others)
    → (has_form header (text_at head header) ≡ true) × Good head others
first_good head header {others} good =
    let both = neither (field_refusal head true header) (first_refusal head true others) good.none in
    let alone : first_refusal head true (header ∷ []) ≡ None = rw both.0 refl in
    (good_last head [] header alone, record { none = both.1 })

-- ---- seals

-- a test that refuses nothing holds
passed : (b : Bool) (why : WireRefused) → cond b None (Some why) ≡ None → b ≡ true
passed true why none = refl
passed false why none = cc

sealed_one : (secret bytes text : List ℕ) → sealed_by (Some secret) bytes text ≡ None → text ≡ seal_digits secret bytes
sealed_one secret bytes text none =
    let digits = seal_digits secret bytes in same text digits (passed (same_text text digits) Seal none)

sealed_found : (peers : Secrets) (sender : List ℕ) (request : WireRequest) (fields : List AireHeader) (found : Option (List ℕ)) → value_of sender peers ≡ found
    → sealed_by found (sealed_bytes request fields) (text_at request.head headers.Seal) ≡ None → IsSealedBy peers sender request fields
sealed_found peers sender request fields None is none = cc
sealed_found peers sender request fields (Some secret) is none =
    let bytes = sealed_bytes request fields in
    let text = text_at request.head headers.Seal in
    record { secret = secret; peer = is; sealed = sealed_one secret bytes text none }

sealed_well : (peers : Secrets) (request : WireRequest) (fields : List AireHeader) → seal_refusal peers request fields ≡ None
    → IsSealedBy peers (text_at request.head headers.From) request fields
sealed_well peers request fields none =
    let sender = text_at request.head headers.From in
    sealed_found peers sender request fields (value_of sender peers) refl none

-- ---- answers

accepted : (why : Option WireRefused) (read message : Incoming) → unless_refused why read ≡ Ok message → (why ≡ None) × (read ≡ message)
accepted None read message is = (refl, cc)
accepted (Some why) read message is = cc

-- ---- kinds

-- kinds of messages below `/aire/`
abbrev IsOwn : Option RequestKind → Type 0
IsOwn None = Unit {0}
IsOwn (Some kinds.Outside) = ⊥
IsOwn (Some kinds.Call) = ⊥
IsOwn (Some kinds.Set) = Unit {0}
IsOwn (Some kinds.Token) = Unit {0}
IsOwn (Some kinds.Fetch) = Unit {0}
IsOwn (Some (kinds.Console word)) = Unit {0}

posted : (set token fetch console : Bool) (word : Option ConsoleWord)
    → IsOwn (cond set (Some kinds.Set) (cond token (Some kinds.Token) (cond fetch (Some kinds.Fetch) (cond console (option_map kinds.Console word) None))))
posted true token fetch console word = tt
posted false true fetch console word = tt
posted false false true console word = tt
posted false false false true None = tt
posted false false false true (Some word) = tt
posted false false false false word = tt

own : (method : Method) (path : List ℕ) → IsOwn (own_kind method path)
own methods.Get path = tt
own methods.Put path = tt
own methods.Post path =
    posted (same_text path (codes "/aire/repair")) (same_text path (codes "/aire/notify")) (same_text path (codes "/aire/fetch"))
    (starts_with nat_eq path (codes "/aire/console/")) (console_word (drop 14 path))
own methods.Delete path = tt

handled_by : (below : Bool) (mine : Option RequestKind) (other kind : RequestKind) → IsOwn mine → cond below mine (Some other) ≡ Some kind → (IsOwn (Some kind) → ⊥) → below ≡ false
handled_by true mine other kind is same never = absurd (never (subst IsOwn same is))
handled_by false mine other kind is same never = refl

-- other messages go to a handler
handled : (request : WireRequest) (kind : RequestKind) → request_kind request.method request.path request.head ≡ Some kind → (IsOwn (Some kind) → ⊥)
    → starts_with nat_eq request.path (codes "/aire/") ≡ false
handled request kind is never =
    handled_by (starts_with nat_eq request.path (codes "/aire/")) (own_kind request.method request.path) (handled_kind (get request.head (codes "aire-response-id"))) kind
    (own request.method request.path) is never

-- ---- from outside

whoever : (nobody : Bool) (who : List ℕ) → is_who who ≡ true → is_who (cond nobody (codes "anyone") who) ≡ true
whoever true who is = refl
whoever false who is = is

some_who : (values : List FieldValue) → values_refusal false headers.Who values ≡ None → is_who (who_or_anyone (text_or_none (slice_get values 0))) ≡ true
some_who [] none = refl
some_who (value ∷ []) none =
    let both = and_parts (is_utf8 value.bytes) (is_who value.bytes) (passed (is_spelt headers.Who value.bytes) (BadHeader headers.Who) none) in
    rw both.0 (whoever (nat_eq (length value.bytes) 0) value.bytes both.1)
some_who (value ∷ other ∷ values) none = cc

outside_known : (request : WireRequest) → outside_refusal request.head ≡ None → starts_with nat_eq request.path (codes "/aire/") ≡ false
    → IsOutside request (outside_request request)
outside_known request none to_handler = record {
  method = refl;
  path = refl;
  body = refl;
  who = some_who (get_all request.head (lowercase (spelling headers.Who))) (neither (field_refusal request.head false headers.Who) None none).0;
  chain = refl;
  handled = to_handler;
}

-- ---- live calls

nothing : {X : Type 0} (P : X → Type 0) → ForSome None P
nothing P = λ x is. absurd (cc is)

only : {X : Type 0} (P : X → Type 0) (x : X) → P x → ForSome (Some x) P
only P x holds = λ y is. let it : x ≡ y = cc in subst P it holds

call_known : (me : List ℕ) (peers : Secrets) (request : WireRequest) → call_refusal me peers request ≡ None → starts_with nat_eq request.path (codes "/aire/") ≡ false
    → IsLiveCall me peers request (call_message request)
call_known me peers request none to_handler =
    let head = request.head in
    let text = text_at head in
    let both = neither (call_head_refusal me head) (seal_refusal peers request call_headers) none in
    let fields = neither (first_refusal head true call_headers) _ both.0 in
    let sealing = neither (first_refusal head true seal_header) _ fields.1 in
    let dest = neither (bad_unless headers.Dest (same_text (text headers.Dest) me)) _ sealing.1 in
    let sides = neither (bad_unless headers.ResponseId (same_text (service_in (text headers.ResponseId)) (text headers.From)))
    (bad_unless headers.Chain (ends_with_name (text headers.Chain) (text headers.From))) dest.1 in
    let all : Good head call_headers = record { none = fields.0 } in
    let from_good = first_good head headers.From all in
    let dest_good = first_good head headers.Dest from_good.1 in
    let id_good = first_good head headers.ResponseId dest_good.1 in
    let url_good = first_good head headers.NotifierUrl id_good.1 in
    let who_good = first_good head headers.Who url_good.1 in
    let chain_good = first_good head headers.Chain who_good.1 in
    let number : IsFromOne (number_in (text headers.ResponseId)) = id_from_one (text headers.ResponseId) id_good.0 in
    record {
      sealed = sealed_well peers request call_headers both.1;
      dest = same (text headers.Dest) me (fitted headers.Dest _ dest.0);
      number = number;
      asked = call_request request;
      live = record {
        desired = refl;
        version = refl;
        before = refl;
        after = refl;
        who = refl;
        last = last_name (text headers.Chain) (text headers.From) (fitted headers.Chain _ sides.1) from_good.0;
        handled = to_handler;
      };
      sent = λ path. record {
        caller = from_good.0;
        dest = dest_good.0;
        who = who_good.0;
        number = number;
        version = omega arith;
        before = nothing IsNumber;
        after = nothing IsNumber;
        desired = only IsCalled (call_request request) (record { path = path; who = who_good.0; chain = chain_good.0; some = some_names (text headers.Chain) });
      };
    }

-- ---- set messages

desired_known : (deletion : Bool) (request : WireRequest) → desired_refusal deletion request.head ≡ None → ForSome (desired_in deletion request) IsCalled
desired_known true request none = nothing IsCalled
desired_known false request none =
    let head = request.head in
    let all : Good head desired_headers = record { none = none } in
    let method_good = first_good head headers.Method all in
    let path_good = first_good head headers.Path method_good.1 in
    let who_good = first_good head headers.RequestWho path_good.1 in
    let chain_good = first_good head headers.Chain who_good.1 in
    only IsCalled (set_request request)
    (record { path = path_good.0; who = who_good.0; chain = chain_good.0; some = some_names (text_at head headers.Chain) })

set_known : (me : List ℕ) (peers : Secrets) (request : WireRequest) → set_refusal me peers request ≡ None → IsSetMessage me peers request (set_message request)
set_known me peers request none =
    let head = request.head in
    let text = text_at head in
    let both = neither (set_head_refusal me head) (seal_refusal peers request (set_fields (is_deletion head))) none in
    let fields = neither (first_refusal head true set_headers) _ both.0 in
    let desired = neither (desired_refusal (is_deletion head) head) _ fields.1 in
    let neighbours = neither (first_refusal head false neighbour_headers) _ desired.1 in
    let sealing = neither (first_refusal head true seal_header) _ neighbours.1 in
    let dest = neither (bad_unless headers.Dest (same_text (text headers.Dest) me)) _ sealing.1 in
    let all : Good head set_headers = record { none = fields.0 } in
    let from_good = first_good head headers.From all in
    let dest_good = first_good head headers.Dest from_good.1 in
    let id_good = first_good head headers.ResponseId dest_good.1 in
    let repair_good = first_good head headers.Repair id_good.1 in
    let version_good = first_good head headers.Version repair_good.1 in
    let who_good = first_good head headers.Who version_good.1 in
    record {
      sealed = sealed_well peers request (set_fields (is_deletion head)) both.1;
      dest = same (text headers.Dest) me (fitted headers.Dest _ dest.0);
      sent = record {
        caller = from_good.0;
        dest = dest_good.0;
        who = who_good.0;
        number = id_from_one (text headers.ResponseId) id_good.0;
        version = version_small (text headers.Version);
        before = number_small (text headers.Before);
        after = number_small (text headers.After);
        desired = desired_known (is_deletion head) request desired.0;
      };
    }

-- ---- tokens

token_known : (me : List ℕ) (peers : Secrets) (request : WireRequest) → token_refusal me peers request ≡ None → IsTokenMessage me peers request (token_message request)
token_known me peers request none =
    let head = request.head in
    let text = text_at head in
    let both = neither (token_head_refusal me head) (seal_refusal peers request token_headers) none in
    let fields = neither (first_refusal head true token_headers) _ both.0 in
    let sealing = neither (first_refusal head true seal_header) (token_sides me head) fields.1 in
    let dest = neither (bad_unless headers.Dest (same_text (text headers.Dest) me)) _ sealing.1 in
    let all : Good head token_headers = record { none = fields.0 } in
    let from_good = first_good head headers.From all in
    let dest_good = first_good head headers.Dest from_good.1 in
    let id_good = first_good head headers.RequestId dest_good.1 in
    let call_good = first_good head headers.ResponseId id_good.1 in
    let repair_good = first_good head headers.Repair call_good.1 in
    let answer_good = first_good head headers.AnswerVersion repair_good.1 in
    let who_good = first_good head headers.Who answer_good.1 in
    record {
      sealed = sealed_well peers request token_headers both.1;
      caller = same (text headers.Dest) me (fitted headers.Dest _ dest.0);
      formed = record {
        caller = dest_good.0;
        callee = from_good.0;
        who = who_good.0;
        id = id_from_one (text headers.RequestId) id_good.0;
        number = id_from_one (text headers.ResponseId) call_good.0;
        answer_version = version_small (text headers.AnswerVersion);
      };
    }

-- ---- fetches

fetch_known : (me : List ℕ) (peers : Secrets) (request : WireRequest) → fetch_refusal me peers request ≡ None → IsFetchMessage me peers request (fetch_message request)
fetch_known me peers request none =
    let head = request.head in
    let text = text_at head in
    let both = neither (fetch_head_refusal me head) (seal_refusal peers request fetch_headers) none in
    let fields = neither (first_refusal head true fetch_headers) _ both.0 in
    let sealing = neither (first_refusal head true seal_header) (fetch_sides me head) fields.1 in
    let dest = neither (bad_unless headers.Dest (same_text (text headers.Dest) me)) _ sealing.1 in
    let all : Good head fetch_headers = record { none = fields.0 } in
    let from_good = first_good head headers.From all in
    let dest_good = first_good head headers.Dest from_good.1 in
    let call_good = first_good head headers.ResponseId dest_good.1 in
    record {
      sealed = sealed_well peers request fetch_headers both.1;
      callee = same (text headers.Dest) me (fitted headers.Dest _ dest.0);
      formed = record {
        caller = from_good.0;
        callee = dest_good.0;
        number = id_from_one (text headers.ResponseId) call_good.0;
        answer_version = version_small (text headers.AnswerVersion);
      };
    }

-- ---- operators

console_known : (me : List ℕ) (peers : Secrets) (console : List ℕ) (request : WireRequest) (word : ConsoleWord)
    → request_kind request.method request.path request.head ≡ Some (kinds.Console word) → console_refusal me console request ≡ None
    → IsConsoleRequest me console request (console_request word request)
console_known me peers console request word kind none =
    let head = request.head in
    let text = text_at head in
    let both = neither (console_head_refusal me head) (console_seal_refusal console request) none in
    let fields = neither (first_refusal head true console_headers) _ both.0 in
    let sealing = neither (first_refusal head true seal_header) _ fields.1 in
    let all : Good head console_headers = record { none = fields.0 } in
    let dest_good = first_good head headers.Dest all in
    let who_good = first_good head headers.Who dest_good.1 in
    let digits = seal_digits console (sealed_bytes request console_headers) in
    record {
      sealed = same (text headers.Seal) digits (passed (same_text (text headers.Seal) digits) Seal both.1);
      dest = same (text headers.Dest) me (fitted headers.Dest _ sealing.1);
      who = who_good.0;
      body = refl;
      alone = λ others.
          ap (incoming_as me others console request) kind ∙ ap (λ (why : Option WireRefused). unless_refused why (Console (console_request word request))) none;
    }

-- ---- any message

of_message : (me : List ℕ) (peers : Secrets) (console : List ℕ) (request : WireRequest) (why : Option WireRefused) (read message : Incoming)
    → (why ≡ None → IsKnown me peers console request read) → unless_refused why read ≡ Ok message → IsKnown me peers console request message
of_message me peers console request why read message holds is =
    let it = accepted why read message is in
    subst (λ (m : Incoming). IsKnown me peers console request m) it.1 (holds it.0)

of_kind : (me : List ℕ) (peers : Secrets) (console : List ℕ) (request : WireRequest) (message : Incoming) (kind : Option RequestKind)
    → request_kind request.method request.path request.head ≡ kind → incoming_as me peers console request kind ≡ Ok message → IsKnown me peers console request message
of_kind me peers console request message None kind is = cc
of_kind me peers console request message (Some kinds.Outside) kind is =
    of_message me peers console request (outside_refusal request.head) (Outside (outside_request request)) message
    (λ none. outside_known request none (handled request kinds.Outside kind (λ never. never))) is
of_kind me peers console request message (Some kinds.Call) kind is =
    of_message me peers console request (call_refusal me peers request) (Live (call_message request)) message
    (λ none. call_known me peers request none (handled request kinds.Call kind (λ never. never))) is
of_kind me peers console request message (Some kinds.Set) kind is =
    of_message me peers console request (set_refusal me peers request) (Set (set_message request)) message (set_known me peers request) is
of_kind me peers console request message (Some kinds.Token) kind is =
    of_message me peers console request (token_refusal me peers request) (Token (token_message request)) message (token_known me peers request) is
of_kind me peers console request message (Some kinds.Fetch) kind is =
    of_message me peers console request (fetch_refusal me peers request) (Fetch (fetch_message request)) message (fetch_known me peers request) is
of_kind me peers console request message (Some (kinds.Console word)) kind is =
    of_message me peers console request (console_refusal me console request) (Console (console_request word request)) message
    (console_known me peers console request word kind) is

pub known : (me : List ℕ) (peers : Secrets) (console : List ℕ) (request : WireRequest) (message : Incoming) → incoming me peers console request ≡ Ok message
    → IsKnown me peers console request message
known me peers console request message is =
    of_kind me peers console request message (request_kind request.method request.path request.head) refl is

-- what was read without want of memory
pub known_if_read : (me : List ℕ) (peers : Secrets) (console : List ℕ) (request : WireRequest) (result : Result Incoming WireRefused)
    → (lacks_memory result ≡ false → result ≡ incoming me peers console request) → IfOk result (IsKnown me peers console request)
known_if_read me peers console request (Ok message) read = known me peers console request message (sym (read refl))
known_if_read me peers console request (Err why) read = tt
