-- The fields of messages that are written have values that a line gives back, and each name one value.
use Rattle.std.proofs.Common.{◌≡◌, ℕ, true, List, [], ◌∷◌, ◌++◌, Option, Some, None, codes, decimal, refl, ◌∙◌}
use Rattle.std.specs.List.{list_all, flat_map}
use Rattle.std.specs.Option.{ForSome}
use Rattle.std.proofs.lemmas.List.Folds.{list_all-append}
use Rattle.lang_base.specs.Characters.{is_visible}
use Rattle.lang_core.specs.Names.{is_name}
use Rattle.lang_core.specs.declared.request.Request.{Request}
use Rattle.lang_tree.specs.Methods.{method_word}
use Rattle.lang_tree.specs.declared.method.Method.{Method}
use Rattle.lang_tree.specs.declared.method.Method.TheVariants as methods
use Rattle.http_front.specs.declared.header.AireHeader.{AireHeader}
use Rattle.http_front.specs.declared.header.AireHeader.TheVariants as headers
use Rattle.http_front.specs.ReadBack.{is_plain}
use Rattle.std.proofs.lemmas.Bool.{and_from, and_parts}
use Rattle.http_front.proofs.PlainLemmas.{decimal_plain, visible_plain}
use Rattle.repair_messages.specs.Kinds.{kind_word, spelling as message_kind}
use Rattle.repair_messages.specs.declared.kinds.Kind.{Kind}
use Rattle.repair_messages.specs.declared.kinds.Kind.TheVariants.{Create, Replace, Delete, ReplaceResponse, Retry, Fold, Deploy, Correct, Rules}
use Rattle.repair_messages.specs.declared.messages.Fetch.{Fetch}
use Rattle.repair_messages.specs.declared.messages.SetMessage.{SetMessage}
use Rattle.repair_messages.specs.declared.messages.TokenMessage.{TokenMessage}
use Rattle.request_names.specs.Ids.{id_text}
use Rattle.wire_fields.specs.Forms.{is_notifier}
use Rattle.wire_fields.specs.Heads.{Field, with_field, with_fields}
use Rattle.wire_fields.proofs.MadeHeads.{ArePlain, AreSingle, all_plain, are_single, each_single, is_plain_field, none_plain, one_plain}
use Rattle.wire_fields.proofs.PlainForms.{id_plain, name_bytes, name_plain, notifier_plain, path_plain, seal_plain, who_plain}
use Rattle.aire_wire.specs.ReadBack.{IsCalled, IsFetch, IsNumber, IsSent, IsToken}
use Rattle.aire_wire.specs.Written.{behind_comma, call_asking, call_fields, chain_text, desired_fields, fetch_fields, neighbour_field, set_message_fields, token_fields, version_fields, written_fetch, written_set, written_token}
use Rattle.aire_wire.proofs.ReadSets.{listed}

both : (fields others : List Field) → list_all is_plain_field fields ≡ true → list_all is_plain_field others ≡ true → list_all is_plain_field (fields ++ others) ≡ true
both fields others a b = list_all-append is_plain_field fields others ∙ and_from (list_all is_plain_field fields) (list_all is_plain_field others) a b

-- a head of such fields and a seal
sealed_plain : (fields : List Field) (seal : List ℕ) → list_all is_plain_field fields ≡ true → is_plain seal ≡ true → ArePlain (with_field (with_fields [] fields) (headers.Seal, seal))
sealed_plain fields seal plain digits = one_plain (with_fields [] fields) (headers.Seal, seal) (all_plain [] fields none_plain plain) digits

-- ---- chains and words

pieces_visible : (names : List (List ℕ)) → list_all is_name names ≡ true → list_all is_visible (flat_map behind_comma names) ≡ true
pieces_visible [] all = refl
pieces_visible (name ∷ names) all =
    let first = and_parts (is_name name) (list_all is_name names) all in
    list_all-append is_visible (44 ∷ name) (flat_map behind_comma names)
    ∙ and_from (list_all is_visible name) (list_all is_visible (flat_map behind_comma names)) (name_bytes name first.0) (pieces_visible names first.1)

chain_visible : (names : List (List ℕ)) → list_all is_name names ≡ true → list_all is_visible (chain_text names) ≡ true
chain_visible [] all = refl
chain_visible (name ∷ names) all =
    let first = and_parts (is_name name) (list_all is_name names) all in
    list_all-append is_visible name (flat_map behind_comma names)
    ∙ and_from (list_all is_visible name) (list_all is_visible (flat_map behind_comma names)) (name_bytes name first.0) (pieces_visible names first.1)

chain_plain : (names : List (List ℕ)) → list_all is_name names ≡ true → is_plain (chain_text names) ≡ true
chain_plain names all = visible_plain (chain_text names) (chain_visible names all)

method_plain : (method : Method) → is_plain (method_word method) ≡ true
method_plain methods.Get = visible_plain (codes "GET") refl
method_plain methods.Put = visible_plain (codes "PUT") refl
method_plain methods.Post = visible_plain (codes "POST") refl
method_plain methods.Delete = visible_plain (codes "DELETE") refl

kind_plain : (kind : Kind) → is_plain (kind_word kind) ≡ true
kind_plain Create = visible_plain (codes "create") refl
kind_plain Replace = visible_plain (codes "replace") refl
kind_plain Delete = visible_plain (codes "delete") refl
kind_plain ReplaceResponse = visible_plain (codes "replace_response") refl
kind_plain Retry = visible_plain (codes "retry") refl
kind_plain Fold = visible_plain (codes "fold") refl
kind_plain Deploy = visible_plain (codes "deploy") refl
kind_plain Correct = visible_plain (codes "correct") refl
kind_plain Rules = visible_plain (codes "rules") refl

-- ---- calls

pub call_plain : (set : SetMessage) (request : Request) (notifier secret : List ℕ) → IsSent set → IsCalled request → is_notifier notifier ≡ true
    → ArePlain (call_asking set notifier secret request).head
call_plain set request notifier secret sent called spelt =
    sealed_plain (call_fields set request notifier) _
    (and_from _ _ (name_plain set.caller sent.caller)
    (and_from _ _ (name_plain set.dest sent.dest)
    (and_from _ _ (id_plain set.caller set.number sent.caller sent.number.1)
    (and_from _ _ (notifier_plain notifier spelt)
    (and_from _ _ (who_plain request.who called.who)
    (and_from _ _ (chain_plain request.chain called.chain) refl))))))
    (seal_plain secret _)

pub call_single : (set : SetMessage) (request : Request) (notifier secret : List ℕ) → AreSingle (call_asking set notifier secret request).head
call_single set request notifier secret = are_single (call_asking set notifier secret request).head refl

-- ---- set messages

version_plain : (set : SetMessage) → IsSent set → list_all is_plain_field (version_fields set) ≡ true
version_plain set sent =
    and_from _ _ (name_plain set.caller sent.caller)
    (and_from _ _ (name_plain set.dest sent.dest)
    (and_from _ _ (id_plain set.caller set.number sent.caller sent.number.1)
    (and_from _ _ (kind_plain (message_kind set))
    (and_from _ _ (decimal_plain set.version sent.version)
    (and_from _ _ (who_plain set.who sent.who) refl)))))

desired_plain : (desired : Option Request) → ForSome desired IsCalled → list_all is_plain_field (desired_fields desired) ≡ true
desired_plain None called = refl
desired_plain (Some request) called =
    let q = called request refl in
    and_from _ _ (method_plain request.method)
    (and_from _ _ (path_plain request.path q.path)
    (and_from _ _ (who_plain request.who q.who)
    (and_from _ _ (chain_plain request.chain q.chain) refl)))

neighbour_plain : (header : AireHeader) (number : Option ℕ) → ForSome number IsNumber → list_all is_plain_field (neighbour_field header number) ≡ true
neighbour_plain header None small = refl
neighbour_plain header (Some n) small = and_from _ _ (decimal_plain n (small n refl)) refl

pub set_plain : (set : SetMessage) (secret : List ℕ) → IsSent set → ArePlain (written_set set secret).head
set_plain set secret sent =
    let before = neighbour_field headers.Before set.before in
    let after = neighbour_field headers.After set.after in
    sealed_plain (set_message_fields set) _
    (both (version_fields set) (desired_fields set.desired ++ (before ++ after)) (version_plain set sent)
    (both (desired_fields set.desired) (before ++ after) (desired_plain set.desired sent.desired)
    (both before after (neighbour_plain headers.Before set.before sent.before) (neighbour_plain headers.After set.after sent.after))))
    (seal_plain secret _)

listed_single : (from dest id repair version who seal : List ℕ) (desired : Option Request) (before after : Option ℕ)
    → each_single (with_field (with_fields [] (listed from dest id repair version who desired before after)) (headers.Seal, seal)) ≡ true
listed_single from dest id repair version who seal None None None = refl
listed_single from dest id repair version who seal None None (Some a) = refl
listed_single from dest id repair version who seal None (Some b) None = refl
listed_single from dest id repair version who seal None (Some b) (Some a) = refl
listed_single from dest id repair version who seal (Some q) None None = refl
listed_single from dest id repair version who seal (Some q) None (Some a) = refl
listed_single from dest id repair version who seal (Some q) (Some b) None = refl
listed_single from dest id repair version who seal (Some q) (Some b) (Some a) = refl

pub set_single : (set : SetMessage) (secret : List ℕ) → AreSingle (written_set set secret).head
set_single set secret =
    are_single (written_set set secret).head
    (listed_single set.caller set.dest (id_text set.caller set.number) (kind_word (message_kind set)) (decimal set.version) set.who _ set.desired set.before set.after)

-- ---- tokens

pub token_plain : (token : TokenMessage) (secret : List ℕ) → IsToken token → ArePlain (written_token token secret).head
token_plain token secret is =
    sealed_plain (token_fields token) _
    (and_from _ _ (name_plain token.callee is.callee)
    (and_from _ _ (name_plain token.caller is.caller)
    (and_from _ _ (id_plain token.callee token.id is.callee is.id.1)
    (and_from _ _ (id_plain token.caller token.number is.caller is.number.1)
    (and_from _ _ (kind_plain ReplaceResponse)
    (and_from _ _ (decimal_plain token.answer_version is.answer_version)
    (and_from _ _ (who_plain token.who is.who) refl)))))))
    (seal_plain secret _)

pub token_single : (token : TokenMessage) (secret : List ℕ) → AreSingle (written_token token secret).head
token_single token secret = are_single (written_token token secret).head refl

-- ---- fetches

pub fetch_plain : (fetch : Fetch) (secret : List ℕ) → IsFetch fetch → ArePlain (written_fetch fetch secret).head
fetch_plain fetch secret is =
    sealed_plain (fetch_fields fetch) _
    (and_from _ _ (name_plain fetch.caller is.caller)
    (and_from _ _ (name_plain fetch.callee is.callee)
    (and_from _ _ (id_plain fetch.caller fetch.number is.caller is.number.1)
    (and_from _ _ (decimal_plain fetch.answer_version is.answer_version) refl))))
    (seal_plain secret _)

pub fetch_single : (fetch : Fetch) (secret : List ℕ) → AreSingle (written_fetch fetch secret).head
fetch_single fetch secret = are_single (written_fetch fetch secret).head refl
