-- A fetch that was written is read back.
use Rattle.std.proofs.Common.{◌≡◌, ℕ, true, List, [], None, decimal, codes, refl, ap, ◌∙◌}
use Rattle.lang_tree.specs.declared.method.Method.TheVariants.{Post}
use Rattle.http_front.specs.Table.{aire_headers}
use Rattle.http_front.specs.declared.header.AireHeader.TheVariants as headers
use Rattle.http_front.specs.declared.message.WireRequest.{WireRequest}
use Rattle.peer_seal.specs.Seal.{seal_digits}
use Rattle.repair_messages.specs.declared.messages.Fetch.{Fetch as FetchMessage}
use Rattle.request_names.specs.Ids.{id_text}
use Rattle.request_names.specs.Numbers.{number_of}
use Rattle.wire_fields.specs.Fits.{number_in, or_zero, version_at}
use Rattle.wire_fields.specs.Heads.{with_fields}
use Rattle.wire_fields.specs.Rows.{fetch_headers, first_refusal, seal_header, text_at}
use Rattle.wire_fields.proofs.Refusals.{first_of_none}
use Rattle.wire_fields.proofs.SpeltLemmas.{number_back}
use Rattle.aire_wire.specs.Incoming.{fetch_head_refusal, fetch_message, fetch_refusal, fetch_sides, seal_refusal, sealed_bytes}
use Rattle.aire_wire.specs.ReadBack.{FetchReadsBack}
use Rattle.aire_wire.specs.Written.{fetch_fields, written_fetch}
use Rattle.aire_wire.specs.declared.incoming.Incoming.TheVariants.{Fetch}
use Rattle.aire_wire.proofs.FieldsRead.{IsFine, answered, fine_id, fine_name, fine_number, fine_seal, none_refused, id_number, on_side, same_fetch, sealed_well, good_where_expected, text_read}

pub fetch_reads_back : (fetch : FetchMessage) (secret : List ℕ) → FetchReadsBack fetch secret (written_fetch fetch secret)
fetch_reads_back fetch secret = λ is peers console peer.
    let written = written_fetch fetch secret in
    let head = written.head in
    let unsealed : WireRequest = record { method = Post; path = codes "/aire/fetch"; head = with_fields [] (fetch_fields fetch); body = [] } in
    let digits = seal_digits secret (sealed_bytes unsealed aire_headers) in
    let call = id_text fetch.caller fetch.number in
    let from : IsFine headers.From fetch.caller = fine_name headers.From fetch.caller is.caller refl in
    let dest : IsFine headers.Dest fetch.callee = fine_name headers.Dest fetch.callee is.callee refl in
    let response : IsFine headers.ResponseId call = fine_id headers.ResponseId fetch.caller fetch.number is.caller is.number.0 is.number.1 refl in
    let version : IsFine headers.AnswerVersion (decimal fetch.answer_version) = fine_number headers.AnswerVersion fetch.answer_version is.answer_version refl in
    let seal : IsFine headers.Seal digits = fine_seal secret (sealed_bytes unsealed aire_headers) in
    let from_read = text_read head headers.From fetch.caller refl from.utf8 in
    let dest_read = text_read head headers.Dest fetch.callee refl dest.utf8 in
    let response_read = text_read head headers.ResponseId call refl response.utf8 in
    let version_read = text_read head headers.AnswerVersion (decimal fetch.answer_version) refl version.utf8 in
    let seal_read = text_read head headers.Seal digits refl seal.utf8 in
    let fields : first_refusal head true fetch_headers ≡ None =
    first_of_none _ _ (none_refused head headers.From fetch.caller true refl from)
    (first_of_none _ _ (none_refused head headers.Dest fetch.callee true refl dest)
    (first_of_none _ _ (none_refused head headers.ResponseId call true refl response)
    (first_of_none _ _ (none_refused head headers.AnswerVersion (decimal fetch.answer_version) true refl version) refl))) in
    let sealing : first_refusal head true seal_header ≡ None = first_of_none _ _ (none_refused head headers.Seal digits true refl seal) refl in
    let sides : fetch_sides fetch.callee head ≡ None =
    first_of_none _ _ (good_where_expected headers.Dest (text_at head headers.Dest) fetch.callee dest_read)
    (on_side headers.ResponseId (text_at head headers.ResponseId) (text_at head headers.From) fetch.caller fetch.number response_read from_read is.caller is.number.0 is.number.1) in
    let head_fits : fetch_head_refusal fetch.callee head ≡ None = first_of_none _ _ fields (first_of_none _ _ sealing sides) in
    let well : seal_refusal peers written fetch_headers ≡ None =
    sealed_well peers (text_at head headers.From) fetch.caller secret (sealed_bytes written fetch_headers) (sealed_bytes unsealed aire_headers)
    (text_at head headers.Seal) from_read peer refl seal_read in
    let message : fetch_message written ≡ fetch =
    same_fetch fetch (text_at head headers.From) (text_at head headers.Dest) (number_in (text_at head headers.ResponseId)) (version_at head headers.AnswerVersion)
    from_read dest_read (id_number (text_at head headers.ResponseId) fetch.caller fetch.number response_read is.caller is.number.0 is.number.1)
    (ap (λ t. or_zero (number_of t)) version_read ∙ ap or_zero (number_back fetch.answer_version is.answer_version)) in
    answered (fetch_refusal fetch.callee peers written) (Fetch (fetch_message written)) (Fetch fetch) (first_of_none _ _ head_fits well) (ap Fetch message)
