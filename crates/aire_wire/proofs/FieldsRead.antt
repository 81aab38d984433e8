-- What is read of fields that were written.
use Rattle.std.proofs.Common.{◌≡◌, ℕ, ◌<◌, ◌^◌, Bool, true, false, cond, List, [], ◌∷◌, Option, Some, None, Ok, length, codes, decimal, Err, Result, refl, sym, subst, ap, ◌∙◌, arith}
use Rattle.std.specs.List.{list_all}
use Rattle.std.specs.Option.{ForSome, is_some}
use Rattle.std.specs.Result.{IfOk}
use Rattle.request_names.specs.Numbers.{number_of}
use Rattle.std.specs.Str.{is_utf8}
use Rattle.lang_core.specs.declared.request.Request.{Request}
use Rattle.lang_core.specs.Names.{is_name, is_who}
use Rattle.lang_tree.specs.declared.method.Method.{Method}
use Rattle.lang_base.specs.Texts.{same_text}
use Rattle.http_header.specs.FieldValue.{FieldValue, plain_value}
use Rattle.http_header.specs.HeaderMap.{Entries, get_all}
use Rattle.http_header.specs.Token.{lowercase}
use Rattle.http_front.specs.Table.{spelling}
use Rattle.http_front.specs.declared.header.AireHeader.{AireHeader}
use Rattle.http_front.specs.declared.header.AireHeader.TheVariants as headers
use Rattle.peer_seal.specs.Seal.{seal_digits}
use Rattle.repair_messages.specs.declared.messages.Fetch.{Fetch}
use Rattle.repair_messages.specs.declared.messages.SetMessage.{SetMessage}
use Rattle.repair_messages.specs.declared.messages.TokenMessage.{TokenMessage}
use Rattle.request_names.specs.Ids.{id_text}
use Rattle.request_names.specs.Ids.{id_of}
use Rattle.wire_fields.specs.Forms.{has_form}
use Rattle.wire_fields.specs.Rows.{field_refusal, text_at}
use Rattle.wire_fields.specs.Named.{value_of}
use Rattle.wire_fields.specs.Secrets.{Secrets}
use Rattle.wire_fields.specs.declared.refused.WireRefused.{WireRefused}
use Rattle.wire_fields.specs.declared.refused.WireRefused.TheVariants.{Seal}
use Rattle.wire_fields.specs.Fits.{bad_unless, number_in, number_or_zero, service_in, service_or_none}
use Rattle.aire_wire.specs.Incoming.{names_in, says_replace_response, sealed_by, unless_refused}
use Rattle.aire_wire.specs.Written.{chain_text}
use Rattle.aire_wire.specs.declared.incoming.Incoming.{Incoming}
use Rattle.wire_fields.proofs.SealLemmas.{text_same, seal_form, seal_utf8}
use Rattle.wire_fields.proofs.SpeltLemmas.{decimal_utf8, id_back, id_utf8, name_utf8, number_back}
use Rattle.wire_fields.proofs.Refusals.{fits}
use Rattle.aire_wire.proofs.TextForms.{chain_read, chain_utf8, who_utf8}

-- ---- fields

-- a text of a header's form, which is UTF-8
pub record IsFine (header : AireHeader) (text : List ℕ) : Type 0 where
  pub utf8 : is_utf8 text ≡ true
  pub form : has_form header text ≡ true

-- a field that stands once
abbrev pub Holds : Entries FieldValue → AireHeader → List ℕ → Type 0
Holds head header text = get_all head (lowercase (spelling header)) ≡ plain_value text ∷ []

-- ---- texts of their forms

pub fine_name : (header : AireHeader) (name : List ℕ) → is_name name ≡ true → has_form header name ≡ is_name name → IsFine header name
fine_name header name is form = record { utf8 = name_utf8 name is; form = form ∙ is }

pub fine_who : (header : AireHeader) (who : List ℕ) → is_who who ≡ true → has_form header who ≡ is_who who → IsFine header who
fine_who header who is form = record { utf8 = who_utf8 who is; form = form ∙ is }

pub fine_id : (header : AireHeader) (name : List ℕ) (n : ℕ) → is_name name ≡ true → 0 < n → n < 2 ^ 64
    → has_form header (id_text name n) ≡ is_some (id_of (id_text name n)) → IsFine header (id_text name n)
fine_id header name n is positive small form = record {
  utf8 = id_utf8 name n is small;
  form = form ∙ ap is_some (id_back name n is positive small);
}

pub chain_back : (names : List (List ℕ)) → list_all is_name names ≡ true → 0 < length names → names_in (chain_text names) ≡ names
chain_back [] all some = absurd (omega (arith, some))
chain_back (name ∷ names) all some = chain_read name names all

pub fine_chain : (names : List (List ℕ)) → list_all is_name names ≡ true → 0 < length names → IsFine headers.Chain (chain_text names)
fine_chain names all some = record {
  utf8 = chain_utf8 names all;
  form = ap (list_all is_name) (chain_back names all some) ∙ all;
}

pub fine_seal : (key bytes : List ℕ) → IsFine headers.Seal (seal_digits key bytes)
fine_seal key bytes = record { utf8 = seal_utf8 key bytes; form = seal_form key bytes }

-- ---- what is read

pub none_refused : (head : Entries FieldValue) (header : AireHeader) (text : List ℕ) (wanted : Bool) → Holds head header text → IsFine header text → field_refusal head wanted header ≡ None
none_refused head header text wanted holds fine = rw (holds, fine.utf8, fine.form) refl

pub text_read : (head : Entries FieldValue) (header : AireHeader) (text : List ℕ) → Holds head header text → is_utf8 text ≡ true → text_at head header ≡ text
text_read head header text holds utf8 = rw (holds, utf8) refl

pub answered : (why : Option WireRefused) (read message : Incoming) → why ≡ None → read ≡ message → unless_refused why read ≡ Ok message
answered why read message none same = rw none (ap Ok same)

-- a text that stands where it is expected
pub good_where_expected : (header : AireHeader) (text wanted : List ℕ) → text ≡ wanted → bad_unless header (same_text text wanted) ≡ None
good_where_expected header text wanted is = fits header (same_text text wanted) (ap (λ t. same_text t wanted) is ∙ text_same wanted)

-- an id's service stands for its side
pub on_side : (header : AireHeader) (id side name : List ℕ) (n : ℕ) → id ≡ id_text name n → side ≡ name → is_name name ≡ true → 0 < n → n < 2 ^ 64
    → bad_unless header (same_text (service_in id) side) ≡ None
on_side header id side name n is its named positive small =
    fits header (same_text (service_in id) side)
    (ap (λ t. same_text (service_in t) side) is ∙ ap (λ t. same_text (service_in (id_text name n)) t) its
    ∙ ap (λ o. same_text (service_or_none o) name) (id_back name n named positive small) ∙ text_same name)

pub id_number : (id name : List ℕ) (n : ℕ) → id ≡ id_text name n → is_name name ≡ true → 0 < n → n < 2 ^ 64 → number_in id ≡ n
id_number id name n is named positive small = ap number_in is ∙ ap number_or_zero (id_back name n named positive small)

-- the seal is that of these bytes by the sender's secret
pub sealed_well : (peers : Secrets) (sender name secret bytes sealed text : List ℕ) → sender ≡ name
    → value_of name peers ≡ Some secret → bytes ≡ sealed → text ≡ seal_digits secret sealed
    → sealed_by (value_of sender peers) bytes text ≡ None
sealed_well peers sender name secret bytes sealed text is peer same_bytes digits =
    ap (λ t. sealed_by (value_of t peers) bytes text) is
    ∙ ap (λ p. sealed_by p bytes text) peer
    ∙ ap (λ b. sealed_by (Some secret) b text) same_bytes
    ∙ ap (λ t. sealed_by (Some secret) sealed t) digits
    ∙ ap (λ b. cond b None (Some Seal)) (text_same (seal_digits secret sealed))

-- ---- messages with the same parts

pub same_request : (q : Request) (method : Method) (path body who : List ℕ) (chain : List (List ℕ))
    → method ≡ q.method → path ≡ q.path → body ≡ q.body → who ≡ q.who → chain ≡ q.chain
    → record { method = method; path = path; body = body; who = who; chain = chain } ≡ q
same_request q method path body who chain a b c d e = rw (a, b, c, d, e) refl

pub same_set : (s : SetMessage) (caller dest : List ℕ) (number version : ℕ) (desired : Option Request) (before after : Option ℕ) (who : List ℕ)
    → caller ≡ s.caller → dest ≡ s.dest → number ≡ s.number → version ≡ s.version → desired ≡ s.desired → before ≡ s.before → after ≡ s.after → who ≡ s.who
    → record { caller = caller; dest = dest; number = number; version = version; desired = desired; before = before; after = after; who = who } ≡ s
same_set s caller dest number version desired before after who a b c d e f g h = rw (a, b, c, d, e, f, g, h) refl

pub same_token : (t : TokenMessage) (caller callee : List ℕ) (id number answer_version : ℕ) (who : List ℕ)
    → caller ≡ t.caller → callee ≡ t.callee → id ≡ t.id → number ≡ t.number → answer_version ≡ t.answer_version → who ≡ t.who
    → record { caller = caller; callee = callee; id = id; number = number; answer_version = answer_version; who = who } ≡ t
same_token t caller callee id number answer_version who a b c d e f = rw (a, b, c, d, e, f) refl

pub same_fetch : (f : Fetch) (caller callee : List ℕ) (number answer_version : ℕ)
    → caller ≡ f.caller → callee ≡ f.callee → number ≡ f.number → answer_version ≡ f.answer_version
    → record { caller = caller; callee = callee; number = number; answer_version = answer_version } ≡ f
same_fetch f caller callee number answer_version a b c d = rw (a, b, c, d) refl

-- what holds of the one value holds of a result that is it
pub of_result : {X E : Type 0} (r : Result X E) (x : X) (P : X → Type 0) → IfOk r (λ y. y ≡ x) → P x → IfOk r P
of_result (Ok y) x P is p = subst P (sym is) p
of_result (Err e) x P is p = is

-- ---- numbers

pub fine_number : (header : AireHeader) (n : ℕ) → n < 2 ^ 64 → has_form header (decimal n) ≡ is_some (number_of (decimal n)) → IsFine header (decimal n)
fine_number header n small form = record {
  utf8 = decimal_utf8 n small;
  form = form ∙ ap is_some (number_back n small);
}

-- the one value of a neighbour's field, where there is one
abbrev pub neighbour_values : Option ℕ → List FieldValue
neighbour_values None = []
neighbour_values (Some n) = plain_value (decimal n) ∷ []

pub neighbour_fine : (head : Entries FieldValue) (header : AireHeader) (o : Option ℕ) → get_all head (lowercase (spelling header)) ≡ neighbour_values o → ForSome o (λ n. n < 2 ^ 64)
    → ((text : List ℕ) → has_form header text ≡ is_some (number_of text)) → field_refusal head false header ≡ None
neighbour_fine head header None holds small form = rw holds refl
neighbour_fine head header (Some n) holds small form = none_refused head header (decimal n) false holds (fine_number header n (small n refl) (form (decimal n)))

pub neighbour_back : (head : Entries FieldValue) (header : AireHeader) (o : Option ℕ) → get_all head (lowercase (spelling header)) ≡ neighbour_values o → ForSome o (λ n. n < 2 ^ 64)
    → number_of (text_at head header) ≡ o
neighbour_back head header None holds small = rw holds refl
neighbour_back head header (Some n) holds small =
    ap number_of (text_read head header (decimal n) holds (decimal_utf8 n (small n refl))) ∙ number_back n (small n refl)

-- the word of a token
pub replaces_response : (head : Entries FieldValue) → text_at head headers.Repair ≡ codes "replace_response" → bad_unless headers.Repair (says_replace_response head) ≡ None
unfolding says_replace_response
replaces_response head is = good_where_expected headers.Repair (text_at head headers.Repair) (codes "replace_response") is
