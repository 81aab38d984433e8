-- A token that was written is read back.
use Rattle.std.proofs.Common.{◌≡◌, ℕ, true, List, [], None, decimal, codes, refl, ap, ◌∙◌}
use Rattle.lang_tree.specs.declared.method.Method.TheVariants.{Post}
use Rattle.http_front.specs.Table.{aire_headers}
use Rattle.http_front.specs.declared.header.AireHeader.TheVariants as headers
use Rattle.http_front.specs.declared.message.WireRequest.{WireRequest}
use Rattle.peer_seal.specs.Seal.{seal_digits}
use Rattle.repair_messages.specs.declared.messages.TokenMessage.{TokenMessage}
use Rattle.request_names.specs.Ids.{id_text}
use Rattle.request_names.specs.Numbers.{number_of}
use Rattle.wire_fields.specs.Fits.{number_in, or_zero, version_at}
use Rattle.wire_fields.specs.Heads.{with_fields}
use Rattle.wire_fields.specs.Rows.{first_refusal, seal_header, text_at, token_headers}
use Rattle.wire_fields.proofs.Refusals.{first_of_none}
use Rattle.wire_fields.proofs.SpeltLemmas.{number_back}
use Rattle.aire_wire.specs.Incoming.{seal_refusal, sealed_bytes, token_head_refusal, token_message, token_refusal, token_sides}
use Rattle.aire_wire.specs.ReadBack.{TokenReadsBack}
use Rattle.aire_wire.specs.Written.{token_fields, written_token}
use Rattle.aire_wire.specs.declared.incoming.Incoming.TheVariants.{Token}
use Rattle.aire_wire.proofs.FieldsRead.{IsFine, answered, fine_id, fine_name, fine_number, fine_seal, fine_who, none_refused, id_number, on_side, replaces_response, same_token, sealed_well, good_where_expected, text_read}
use Rattle.aire_wire.proofs.ReadSets.{word_fine}

pub token_reads_back : (token : TokenMessage) (secret : List ℕ) → TokenReadsBack token secret (written_token token secret)
token_reads_back token secret = λ is peers console peer.
    let written = written_token token secret in
    let head = written.head in
    let unsealed : WireRequest = record { method = Post; path = codes "/aire/notify"; head = with_fields [] (token_fields token); body = [] } in
    let digits = seal_digits secret (sealed_bytes unsealed aire_headers) in
    let id = id_text token.callee token.id in
    let call = id_text token.caller token.number in
    let word = codes "replace_response" in
    let from : IsFine headers.From token.callee = fine_name headers.From token.callee is.callee refl in
    let dest : IsFine headers.Dest token.caller = fine_name headers.Dest token.caller is.caller refl in
    let request : IsFine headers.RequestId id = fine_id headers.RequestId token.callee token.id is.callee is.id.0 is.id.1 refl in
    let response : IsFine headers.ResponseId call = fine_id headers.ResponseId token.caller token.number is.caller is.number.0 is.number.1 refl in
    let repair : IsFine headers.Repair word = word_fine word refl refl in
    let version : IsFine headers.AnswerVersion (decimal token.answer_version) = fine_number headers.AnswerVersion token.answer_version is.answer_version refl in
    let who : IsFine headers.Who token.who = fine_who headers.Who token.who is.who refl in
    let seal : IsFine headers.Seal digits = fine_seal secret (sealed_bytes unsealed aire_headers) in
    let from_read = text_read head headers.From token.callee refl from.utf8 in
    let dest_read = text_read head headers.Dest token.caller refl dest.utf8 in
    let request_read = text_read head headers.RequestId id refl request.utf8 in
    let response_read = text_read head headers.ResponseId call refl response.utf8 in
    let word_read = text_read head headers.Repair word refl repair.utf8 in
    let version_read = text_read head headers.AnswerVersion (decimal token.answer_version) refl version.utf8 in
    let who_read = text_read head headers.Who token.who refl who.utf8 in
    let seal_read = text_read head headers.Seal digits refl seal.utf8 in
    let fields : first_refusal head true token_headers ≡ None =
    first_of_none _ _ (none_refused head headers.From token.callee true refl from)
    (first_of_none _ _ (none_refused head headers.Dest token.caller true refl dest)
    (first_of_none _ _ (none_refused head headers.RequestId id true refl request)
    (first_of_none _ _ (none_refused head headers.ResponseId call true refl response)
    (first_of_none _ _ (none_refused head headers.Repair word true refl repair)
    (first_of_none _ _ (none_refused head headers.AnswerVersion (decimal token.answer_version) true refl version)
    (first_of_none _ _ (none_refused head headers.Who token.who true refl who) refl)))))) in
    let sealing : first_refusal head true seal_header ≡ None = first_of_none _ _ (none_refused head headers.Seal digits true refl seal) refl in
    let sides : token_sides token.caller head ≡ None =
    first_of_none _ _ (good_where_expected headers.Dest (text_at head headers.Dest) token.caller dest_read)
    (first_of_none _ _ (replaces_response head word_read)
    (first_of_none _ _ (on_side headers.RequestId (text_at head headers.RequestId) (text_at head headers.From) token.callee token.id request_read from_read is.callee is.id.0 is.id.1)
    (on_side headers.ResponseId (text_at head headers.ResponseId) (text_at head headers.Dest) token.caller token.number response_read dest_read is.caller is.number.0 is.number.1))) in
    let head_fits : token_head_refusal token.caller head ≡ None = first_of_none _ _ fields (first_of_none _ _ sealing sides) in
    let well : seal_refusal peers written token_headers ≡ None =
    sealed_well peers (text_at head headers.From) token.callee secret (sealed_bytes written token_headers) (sealed_bytes unsealed aire_headers)
    (text_at head headers.Seal) from_read peer refl seal_read in
    let message : token_message written ≡ token =
    same_token token (text_at head headers.Dest) (text_at head headers.From) (number_in (text_at head headers.RequestId)) (number_in (text_at head headers.ResponseId))
    (version_at head headers.AnswerVersion) (text_at head headers.Who)
    dest_read from_read (id_number (text_at head headers.RequestId) token.callee token.id request_read is.callee is.id.0 is.id.1)
    (id_number (text_at head headers.ResponseId) token.caller token.number response_read is.caller is.number.0 is.number.1)
    (ap (λ t. or_zero (number_of t)) version_read ∙ ap or_zero (number_back token.answer_version is.answer_version)) who_read in
    answered (token_refusal token.caller peers written) (Token (token_message written)) (Token token) (first_of_none _ _ head_fits well) (ap Token message)
