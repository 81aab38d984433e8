-- A set message that was written is read back.
use Rattle.std.proofs.Common.{◌≡◌, ℕ, Bool, true, false, cond, List, [], ◌∷◌, ◌++◌, Option, Some, None, decimal, nat_eq, codes, refl, sym, ap, ◌∙◌}
use Rattle.std.specs.Prelude.{⊤}
use Rattle.std.specs.List.{list_all}
use Rattle.std.specs.Option.{ForSome, is_some}
use Rattle.wire_fields.specs.Forms.{kind_named}
use Rattle.lang_core.specs.declared.request.Request.{Request}
use Rattle.lang_tree.specs.declared.method.Method.{Method}
use Rattle.lang_tree.specs.declared.method.Method.TheVariants.{Get, Put, Post, Delete as DeleteMethod}
use Rattle.lang_base.specs.Characters.{is_visible}
use Rattle.lang_base.specs.Texts.{same_text}
use Rattle.http_header.specs.FieldValue.{FieldValue}
use Rattle.http_header.specs.HeaderMap.{Entries, get_all}
use Rattle.http_header.specs.Token.{lowercase}
use Rattle.lang_tree.specs.Methods.{method_named, method_word}
use Rattle.http_front.specs.Table.{aire_headers, spelling}
use Rattle.http_front.specs.declared.header.AireHeader.TheVariants as headers
use Rattle.http_front.specs.declared.message.WireRequest.{WireRequest}
use Rattle.peer_seal.specs.Seal.{seal_digits}
use Rattle.repair_messages.specs.Kinds.{kind_word, spelled}
use Rattle.repair_messages.specs.declared.kinds.Kind.TheVariants.{Create, Replace}
use Rattle.repair_messages.specs.declared.messages.SetMessage.{SetMessage}
use Rattle.request_names.specs.Ids.{id_text}
use Rattle.request_names.specs.Numbers.{number_of}
use Rattle.wire_fields.specs.Rows.{first_refusal, neighbour_headers, set_headers, text_at}
use Rattle.wire_fields.specs.Fits.{number_in, or_zero, version_at}
use Rattle.wire_fields.specs.Rows.{seal_header}
use Rattle.aire_wire.specs.Incoming.{desired_in, desired_refusal, is_deletion, names_in, or_get, seal_refusal, sealed_bytes, set_fields, set_head_refusal, set_message, set_refusal, set_word}
use Rattle.aire_wire.specs.ReadBack.{IsCalled, SetReadsBack}
use Rattle.aire_wire.specs.Written.{body_of, chain_text, desired_fields, neighbour_field, set_message_fields, written_set}
use Rattle.wire_fields.specs.Heads.{Field, with_field, with_fields}
use Rattle.aire_wire.specs.declared.incoming.Incoming.TheVariants.{Set}
use Rattle.aire_wire.proofs.FieldsRead.{Holds, IsFine, answered, chain_back, fine_chain, fine_id, fine_name, fine_number, fine_seal, fine_who, neighbour_back, neighbour_fine, neighbour_values, none_refused, id_number, on_side, same_request, same_set, sealed_well, good_where_expected, text_read}
use Rattle.wire_fields.proofs.Refusals.{first_of_none}
use Rattle.aire_wire.proofs.TextForms.{path_utf8, visible_utf8}
use Rattle.wire_fields.proofs.SpeltLemmas.{number_back}

-- ---- words

pub word_fine : (word : List ℕ) → list_all is_visible word ≡ true → is_some (kind_named word) ≡ true → IsFine headers.Repair word
word_fine word all form = record { utf8 = visible_utf8 word all; form = form }

-- no request is desired
abbrev deletes : Option Request → Bool
deletes None = true
deletes (Some request) = false

-- what a word says to its reader
abbrev Says : List ℕ → Bool → ℕ → Type 0
Says word deletion version =
    IsFine headers.Repair word × (same_text word (codes "delete") ≡ deletion) × (word ≡ set_word deletion version)

says : (b : Bool) (version : ℕ) → nat_eq version 1 ≡ b → Says (kind_word (cond b Create Replace)) false version
says true version is = (word_fine (codes "create") refl refl, refl, rw is refl)
says false version is = (word_fine (codes "replace") refl refl, refl, rw is refl)

word_says : (version : ℕ) (desired : Option Request) → Says (kind_word (spelled version desired)) (deletes desired) version
word_says version None = (word_fine (codes "delete") refl refl, refl, refl)
word_says version (Some request) = says (nat_eq version 1) version refl

method_fine : (method : Method) → IsFine headers.Method (method_word method)
method_fine Get = record { utf8 = visible_utf8 (codes "GET") refl; form = refl }
method_fine Put = record { utf8 = visible_utf8 (codes "PUT") refl; form = refl }
method_fine Post = record { utf8 = visible_utf8 (codes "POST") refl; form = refl }
method_fine DeleteMethod = record { utf8 = visible_utf8 (codes "DELETE") refl; form = refl }

method_back : (method : Method) → or_get (method_named (method_word method)) ≡ method
method_back Get = refl
method_back Put = refl
method_back Post = refl
method_back DeleteMethod = refl

-- ---- the head

abbrev pub listed : (from dest id repair version who : List ℕ) → Option Request → Option ℕ → Option ℕ → List Field
listed from dest id repair version who desired before after =
    ((headers.From, from) ∷ (headers.Dest, dest) ∷ (headers.ResponseId, id) ∷ (headers.Repair, repair) ∷ (headers.Version, version) ∷ (headers.Who, who) ∷ [])
    ++ (desired_fields desired ++ (neighbour_field headers.Before before ++ neighbour_field headers.After after))

abbrev HoldsDesired : Entries FieldValue → Option Request → Type 0
HoldsDesired head None = ⊤
HoldsDesired head (Some request) =
    Holds head headers.Method (method_word request.method) × Holds head headers.Path request.path × Holds head headers.RequestWho request.who
    × Holds head headers.Chain (chain_text request.chain)

record HoldsAll (head : Entries FieldValue) (from_text dest_text number_text word version_text who_text digits : List ℕ) (asked : Option Request) (next last : Option ℕ) : Type 0 where
  from : Holds head headers.From from_text
  dest : Holds head headers.Dest dest_text
  id : Holds head headers.ResponseId number_text
  repair : Holds head headers.Repair word
  version : Holds head headers.Version version_text
  who : Holds head headers.Who who_text
  desired : HoldsDesired head asked
  before : get_all head (lowercase (spelling headers.Before)) ≡ neighbour_values next
  after : get_all head (lowercase (spelling headers.After)) ≡ neighbour_values last
  seal : Holds head headers.Seal digits

holds_all : (from dest id repair version who seal : List ℕ) (desired : Option Request) (before after : Option ℕ)
    → HoldsAll (with_field (with_fields [] (listed from dest id repair version who desired before after)) (headers.Seal, seal)) from dest id repair version who seal desired before after
holds_all from dest id repair version who seal None None None =
    record { from = refl; dest = refl; id = refl; repair = refl; version = refl; who = refl; desired = tt; before = refl; after = refl; seal = refl }
holds_all from dest id repair version who seal None None (Some a) =
    record { from = refl; dest = refl; id = refl; repair = refl; version = refl; who = refl; desired = tt; before = refl; after = refl; seal = refl }
holds_all from dest id repair version who seal None (Some b) None =
    record { from = refl; dest = refl; id = refl; repair = refl; version = refl; who = refl; desired = tt; before = refl; after = refl; seal = refl }
holds_all from dest id repair version who seal None (Some b) (Some a) =
    record { from = refl; dest = refl; id = refl; repair = refl; version = refl; who = refl; desired = tt; before = refl; after = refl; seal = refl }
holds_all from dest id repair version who seal (Some q) None None =
    record { from = refl; dest = refl; id = refl; repair = refl; version = refl; who = refl; desired = (refl, refl, refl, refl); before = refl; after = refl; seal = refl }
holds_all from dest id repair version who seal (Some q) None (Some a) =
    record { from = refl; dest = refl; id = refl; repair = refl; version = refl; who = refl; desired = (refl, refl, refl, refl); before = refl; after = refl; seal = refl }
holds_all from dest id repair version who seal (Some q) (Some b) None =
    record { from = refl; dest = refl; id = refl; repair = refl; version = refl; who = refl; desired = (refl, refl, refl, refl); before = refl; after = refl; seal = refl }
holds_all from dest id repair version who seal (Some q) (Some b) (Some a) =
    record { from = refl; dest = refl; id = refl; repair = refl; version = refl; who = refl; desired = (refl, refl, refl, refl); before = refl; after = refl; seal = refl }

-- what is sealed in writing is what is sealed in reading
same_sealed : (from dest id repair version who seal body : List ℕ) (desired : Option Request) (before after : Option ℕ)
    → sealed_bytes (record { method = Post; path = codes "/aire/repair"; head = with_field (with_fields [] (listed from dest id repair version who desired before after)) (headers.Seal, seal); body = body }) (set_fields (deletes desired))
    ≡ sealed_bytes (record { method = Post; path = codes "/aire/repair"; head = with_fields [] (listed from dest id repair version who desired before after); body = body }) aire_headers
same_sealed from dest id repair version who seal body None None None = refl
same_sealed from dest id repair version who seal body None None (Some a) = refl
same_sealed from dest id repair version who seal body None (Some b) None = refl
same_sealed from dest id repair version who seal body None (Some b) (Some a) = refl
same_sealed from dest id repair version who seal body (Some q) None None = refl
same_sealed from dest id repair version who seal body (Some q) None (Some a) = refl
same_sealed from dest id repair version who seal body (Some q) (Some b) None = refl
same_sealed from dest id repair version who seal body (Some q) (Some b) (Some a) = refl

-- ---- the desired request

desired_fine : (head : Entries FieldValue) (desired : Option Request) → HoldsDesired head desired → ForSome desired IsCalled → desired_refusal (deletes desired) head ≡ None
desired_fine head None holds called = refl
desired_fine head (Some request) holds called =
    let q = called request refl in
    first_of_none _ _ (none_refused head headers.Method (method_word request.method) true holds.0 (method_fine request.method))
    (first_of_none _ _ (none_refused head headers.Path request.path true holds.1 (record { utf8 = path_utf8 request.path q.path; form = q.path }))
    (first_of_none _ _ (none_refused head headers.RequestWho request.who true holds.2 (fine_who headers.RequestWho request.who q.who refl))
    (first_of_none _ _ (none_refused head headers.Chain (chain_text request.chain) true holds.3 (fine_chain request.chain q.chain q.some)) refl)))

desired_back : (written : WireRequest) (desired : Option Request) → HoldsDesired written.head desired → ForSome desired IsCalled → written.body ≡ body_of desired
    → desired_in (deletes desired) written ≡ desired
desired_back written None holds called body = refl
desired_back written (Some request) holds called body =
    let q = called request refl in
    let head = written.head in
    let method = text_read head headers.Method (method_word request.method) holds.0 (method_fine request.method).utf8 in
    let path = text_read head headers.Path request.path holds.1 (path_utf8 request.path q.path) in
    let who = text_read head headers.RequestWho request.who holds.2 (fine_who headers.RequestWho request.who q.who refl).utf8 in
    let chain = text_read head headers.Chain (chain_text request.chain) holds.3 (fine_chain request.chain q.chain q.some).utf8 in
    ap Some (same_request request (or_get (method_named (text_at head headers.Method))) (text_at head headers.Path) written.body (text_at head headers.RequestWho) (names_in (text_at head headers.Chain))
    (ap (λ t. or_get (method_named t)) method ∙ method_back request.method) path body who (ap names_in chain ∙ chain_back request.chain q.chain q.some))

-- ---- the message

pub set_reads_back : (set : SetMessage) (secret : List ℕ) → SetReadsBack set secret (written_set set secret)
set_reads_back set secret = λ sent peers console peer.
    let written = written_set set secret in
    let head = written.head in
    let unsealed : WireRequest = record {
      method = Post;
      path = codes "/aire/repair";
      head = with_fields [] (set_message_fields set);
      body = body_of set.desired;
    } in
    let digits = seal_digits secret (sealed_bytes unsealed aire_headers) in
    let id = id_text set.caller set.number in
    let word = kind_word (spelled set.version set.desired) in
    let all = holds_all set.caller set.dest id word (decimal set.version) set.who digits set.desired set.before set.after in
    let word_is = word_says set.version set.desired in
    let from : IsFine headers.From set.caller = fine_name headers.From set.caller sent.caller refl in
    let dest : IsFine headers.Dest set.dest = fine_name headers.Dest set.dest sent.dest refl in
    let number : IsFine headers.ResponseId id = fine_id headers.ResponseId set.caller set.number sent.caller sent.number.0 sent.number.1 refl in
    let version : IsFine headers.Version (decimal set.version) = fine_number headers.Version set.version sent.version refl in
    let who : IsFine headers.Who set.who = fine_who headers.Who set.who sent.who refl in
    let seal : IsFine headers.Seal digits = fine_seal secret (sealed_bytes unsealed aire_headers) in
    let from_read = text_read head headers.From set.caller all.from from.utf8 in
    let dest_read = text_read head headers.Dest set.dest all.dest dest.utf8 in
    let id_read = text_read head headers.ResponseId id all.id number.utf8 in
    let word_read = text_read head headers.Repair word all.repair word_is.0.utf8 in
    let version_read = text_read head headers.Version (decimal set.version) all.version version.utf8 in
    let who_read = text_read head headers.Who set.who all.who who.utf8 in
    let seal_read = text_read head headers.Seal digits all.seal seal.utf8 in
    let version_back : version_at head headers.Version ≡ set.version = ap (λ t. or_zero (number_of t)) version_read ∙ ap or_zero (number_back set.version sent.version) in
    let deletion : is_deletion head ≡ deletes set.desired = ap (λ t. same_text t (codes "delete")) word_read ∙ word_is.1 in
    let fields : first_refusal head true set_headers ≡ None =
    first_of_none _ _ (none_refused head headers.From set.caller true all.from from)
    (first_of_none _ _ (none_refused head headers.Dest set.dest true all.dest dest)
    (first_of_none _ _ (none_refused head headers.ResponseId id true all.id number)
    (first_of_none _ _ (none_refused head headers.Repair word true all.repair word_is.0)
    (first_of_none _ _ (none_refused head headers.Version (decimal set.version) true all.version version)
    (first_of_none _ _ (none_refused head headers.Who set.who true all.who who) refl))))) in
    let asked : desired_refusal (is_deletion head) head ≡ None = ap (λ d. desired_refusal d head) deletion ∙ desired_fine head set.desired all.desired sent.desired in
    let neighbours : first_refusal head false neighbour_headers ≡ None =
    first_of_none _ _ (neighbour_fine head headers.Before set.before all.before sent.before (λ t. refl))
    (first_of_none _ _ (neighbour_fine head headers.After set.after all.after sent.after (λ t. refl)) refl) in
    let sealing : first_refusal head true seal_header ≡ None = first_of_none _ _ (none_refused head headers.Seal digits true all.seal seal) refl in
    let right_word : text_at head headers.Repair ≡ set_word (is_deletion head) (version_at head headers.Version) =
    word_read ∙ word_is.2 ∙ sym (ap (λ d. set_word d (version_at head headers.Version)) deletion ∙ ap (λ v. set_word (deletes set.desired) v) version_back) in
    let head_fits : set_head_refusal set.dest head ≡ None =
    first_of_none _ _ fields (first_of_none _ _ asked (first_of_none _ _ neighbours (first_of_none _ _ sealing
    (first_of_none _ _ (good_where_expected headers.Dest (text_at head headers.Dest) set.dest dest_read)
    (first_of_none _ _ (good_where_expected headers.Repair (text_at head headers.Repair) (set_word (is_deletion head) (version_at head headers.Version)) right_word)
    (on_side headers.ResponseId (text_at head headers.ResponseId) (text_at head headers.From) set.caller set.number id_read from_read sent.caller sent.number.0 sent.number.1)))))) in
    let bytes : sealed_bytes written (set_fields (is_deletion head)) ≡ sealed_bytes unsealed aire_headers =
    ap (λ d. sealed_bytes written (set_fields d)) deletion
    ∙ same_sealed set.caller set.dest id word (decimal set.version) set.who digits (body_of set.desired) set.desired set.before set.after in
    let well : seal_refusal peers written (set_fields (is_deletion head)) ≡ None =
    sealed_well peers (text_at head headers.From) set.caller secret (sealed_bytes written (set_fields (is_deletion head))) (sealed_bytes unsealed aire_headers)
    (text_at head headers.Seal) from_read peer bytes seal_read in
    let message : set_message written ≡ set =
    same_set set (text_at head headers.From) (text_at head headers.Dest) (number_in (text_at head headers.ResponseId)) (version_at head headers.Version)
    (desired_in (is_deletion head) written) (number_of (text_at head headers.Before)) (number_of (text_at head headers.After)) (text_at head headers.Who)
    from_read dest_read (id_number (text_at head headers.ResponseId) set.caller set.number id_read sent.caller sent.number.0 sent.number.1) version_back
    (ap (λ d. desired_in d written) deletion ∙ desired_back written set.desired all.desired sent.desired refl)
    (neighbour_back head headers.Before set.before all.before sent.before) (neighbour_back head headers.After set.after all.after sent.after) who_read in
    answered (set_refusal set.dest peers written) (Set (set_message written)) (Set set) (first_of_none _ _ head_fits well) (ap Set message)
