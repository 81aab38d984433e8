-- The requests that are written for messages.
use Rattle.std.specs.Prelude.{ℕ, List, [], ◌∷◌, ◌++◌, Option, Some, None, codes, decimal}
use Rattle.std.specs.List.{flat_map}
use Rattle.lang_core.specs.declared.request.Request.{Request}
use Rattle.lang_tree.specs.declared.method.Method.{Method}
use Rattle.lang_tree.specs.declared.method.Method.TheVariants.{Post}
use Rattle.lang_tree.specs.Methods.{method_word}
use Rattle.http_front.specs.Table.{aire_headers}
use Rattle.http_front.specs.declared.header.AireHeader.{AireHeader}
use Rattle.http_front.specs.declared.header.AireHeader.TheVariants as headers
use Rattle.http_front.specs.declared.message.WireRequest.{WireRequest}
use Rattle.peer_seal.specs.Seal.{seal_digits}
use Rattle.repair_messages.specs.Kinds.{kind_word, spelling as message_kind}
use Rattle.repair_messages.specs.declared.kinds.Kind.TheVariants.{ReplaceResponse}
use Rattle.repair_messages.specs.declared.messages.Fetch.{Fetch as FetchMessage}
use Rattle.repair_messages.specs.declared.messages.SetMessage.{SetMessage}
use Rattle.repair_messages.specs.declared.messages.TokenMessage.{TokenMessage}
use Rattle.repair_messages.specs.declared.posts.Post.{Post as PostMessage}
use Rattle.repair_messages.specs.declared.posts.Post.TheVariants as posts
use Rattle.request_names.specs.Ids.{id_text}
use Rattle.wire_fields.specs.Heads.{Field, with_field, with_fields}
use Rattle.aire_wire.specs.Incoming.{sealed_bytes}

-- ---- chains

abbrev pub behind_comma : List ℕ → List ℕ
behind_comma name = codes "," ++ name

-- the names of a chain with commas between them
abbrev pub chain_text : List (List ℕ) → List ℕ
chain_text [] = []
chain_text (name ∷ names) = name ++ flat_map behind_comma names

-- ---- seals

-- the request with one field more: the seal of all fields that it has
abbrev pub sealed : List ℕ → WireRequest → WireRequest
sealed secret request = record {
  method = request.method;
  path = request.path;
  head = with_field request.head (headers.Seal, seal_digits secret (sealed_bytes request aire_headers));
  body = request.body;
}

-- a request whose head has these fields and their seal
abbrev pub sealed_with : List ℕ → Method → List ℕ → List Field → List ℕ → WireRequest
sealed_with secret method path fields body =
    sealed secret (record { method = method; path = path; head = with_fields [] fields; body = body })

-- ---- live calls

abbrev pub call_fields : SetMessage → Request → List ℕ → List Field
call_fields set request notifier =
    (headers.From, set.caller) ∷ (headers.Dest, set.dest) ∷ (headers.ResponseId, id_text set.caller set.number)
    ∷ (headers.NotifierUrl, notifier) ∷ (headers.Who, request.who) ∷ (headers.Chain, chain_text request.chain) ∷ []

abbrev pub call_asking : SetMessage → List ℕ → List ℕ → Request → WireRequest
call_asking set notifier secret request = sealed_with secret request.method request.path (call_fields set request notifier) request.body

-- ---- set messages

abbrev pub request_fields : Request → List Field
request_fields request =
    (headers.Method, method_word request.method) ∷ (headers.Path, request.path) ∷ (headers.RequestWho, request.who)
    ∷ (headers.Chain, chain_text request.chain) ∷ []

-- those of the desired request, where there is one
abbrev pub desired_fields : Option Request → List Field
desired_fields None = []
desired_fields (Some request) = request_fields request

-- that of a neighbour, where there is one
abbrev pub neighbour_field : AireHeader → Option ℕ → List Field
neighbour_field header None = []
neighbour_field header (Some number) = (header, decimal number) ∷ []

abbrev pub neighbour_fields : SetMessage → List Field
neighbour_fields set = neighbour_field headers.Before set.before ++ neighbour_field headers.After set.after

-- those that each has
abbrev pub version_fields : SetMessage → List Field
version_fields set =
    (headers.From, set.caller) ∷ (headers.Dest, set.dest) ∷ (headers.ResponseId, id_text set.caller set.number)
    ∷ (headers.Repair, kind_word (message_kind set)) ∷ (headers.Version, decimal set.version) ∷ (headers.Who, set.who) ∷ []

abbrev pub set_message_fields : SetMessage → List Field
set_message_fields set = version_fields set ++ (desired_fields set.desired ++ neighbour_fields set)

abbrev pub body_of : Option Request → List ℕ
body_of None = []
body_of (Some request) = request.body

abbrev pub written_set : SetMessage → List ℕ → WireRequest
written_set set secret = sealed_with secret Post (codes "/aire/repair") (set_message_fields set) (body_of set.desired)

-- a message without a request is no call, and is written as the deletion that it is
abbrev pub call_or_deletion : SetMessage → List ℕ → List ℕ → Option Request → WireRequest
call_or_deletion set notifier secret None = written_set set secret
call_or_deletion set notifier secret (Some request) = call_asking set notifier secret request

abbrev pub written_call : SetMessage → List ℕ → List ℕ → WireRequest
written_call set notifier secret = call_or_deletion set notifier secret set.desired

-- ---- tokens

abbrev pub token_fields : TokenMessage → List Field
token_fields token =
    (headers.From, token.callee) ∷ (headers.Dest, token.caller) ∷ (headers.RequestId, id_text token.callee token.id)
    ∷ (headers.ResponseId, id_text token.caller token.number) ∷ (headers.Repair, kind_word ReplaceResponse)
    ∷ (headers.AnswerVersion, decimal token.answer_version) ∷ (headers.Who, token.who) ∷ []

abbrev pub written_token : TokenMessage → List ℕ → WireRequest
written_token token secret = sealed_with secret Post (codes "/aire/notify") (token_fields token) []

-- ---- fetches

abbrev pub fetch_fields : FetchMessage → List Field
fetch_fields fetch =
    (headers.From, fetch.caller) ∷ (headers.Dest, fetch.callee) ∷ (headers.ResponseId, id_text fetch.caller fetch.number)
    ∷ (headers.AnswerVersion, decimal fetch.answer_version) ∷ []

abbrev pub written_fetch : FetchMessage → List ℕ → WireRequest
written_fetch fetch secret = sealed_with secret Post (codes "/aire/fetch") (fetch_fields fetch) []

-- ---- posts

abbrev pub written_post : PostMessage → List ℕ → WireRequest
written_post (posts.Set set) secret = written_set set secret
written_post (posts.Token token) secret = written_token token secret
written_post (posts.Fetch fetch) secret = written_fetch fetch secret
