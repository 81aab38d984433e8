-- A live call that was written is read back.
use Rattle.std.proofs.Common.{◌≡◌, ℕ, true, List, [], Some, None, Ok, refl, sym, ap, ◌∙◌}
use Rattle.std.specs.Str.{is_utf8}
use Rattle.lang_core.specs.declared.request.Request.{Request}
use Rattle.http_front.specs.Table.{aire_headers}
use Rattle.http_front.specs.declared.header.AireHeader.TheVariants as headers
use Rattle.http_front.specs.declared.message.WireRequest.{WireRequest}
use Rattle.peer_seal.specs.Seal.{seal_digits}
use Rattle.repair_messages.specs.declared.messages.SetMessage.{SetMessage}
use Rattle.request_names.specs.Ids.{id_text}
use Rattle.wire_fields.specs.Forms.{is_notifier}
use Rattle.wire_fields.specs.Rows.{call_headers, first_refusal, is_spelt, text_at}
use Rattle.wire_fields.specs.Kinds.{request_kind}
use Rattle.wire_fields.specs.declared.kinds.RequestKind.TheVariants.{Call}
use Rattle.wire_fields.specs.Secrets.{Secrets}
use Rattle.wire_fields.specs.Fits.{number_in}
use Rattle.wire_fields.specs.Rows.{seal_header}
use Rattle.aire_wire.specs.Incoming.{call_head_refusal, call_message, call_refusal, call_request, ends_with_name, incoming, incoming_as, names_in, seal_refusal, sealed_bytes}
use Rattle.aire_wire.specs.ReadBack.{CallReadsBack, IsCalled, IsLive, IsPeer, IsSent}
use Rattle.aire_wire.specs.Written.{call_asking, call_fields, call_or_deletion, chain_text}
use Rattle.wire_fields.specs.Heads.{with_fields}
use Rattle.aire_wire.specs.declared.incoming.Incoming.TheVariants.{Live}
use Rattle.aire_wire.proofs.FieldsRead.{IsFine, answered, chain_back, fine_chain, fine_id, fine_name, fine_seal, fine_who, none_refused, id_number, on_side, same_request, same_set, sealed_well, good_where_expected, text_read}
use Rattle.wire_fields.proofs.Refusals.{fits, first_of_none}
use Rattle.aire_wire.proofs.TextForms.{chain_ends}
use Rattle.std.proofs.lemmas.Bool.{and_parts}

pub call_reads_back : (set : SetMessage) (request : Request) (notifier secret : List ℕ) (peers : Secrets) (console : List ℕ)
    → IsSent set → IsLive set request → is_spelt headers.NotifierUrl notifier ≡ true → IsPeer peers set.caller secret
    → incoming set.dest peers console (call_asking set notifier secret request) ≡ Ok (Live set)
call_reads_back set request notifier secret peers console sent live spelt peer =
    let called : IsCalled request = sent.desired request live.desired in
    let written = call_asking set notifier secret request in
    let head = written.head in
    let unsealed : WireRequest = record {
      method = request.method;
      path = request.path;
      head = with_fields [] (call_fields set request notifier);
      body = request.body;
    } in
    let digits = seal_digits secret (sealed_bytes unsealed aire_headers) in
    let id = id_text set.caller set.number in
    let notified = and_parts (is_utf8 notifier) (is_notifier notifier) spelt in
    let from : IsFine headers.From set.caller = fine_name headers.From set.caller sent.caller refl in
    let dest : IsFine headers.Dest set.dest = fine_name headers.Dest set.dest sent.dest refl in
    let number : IsFine headers.ResponseId id = fine_id headers.ResponseId set.caller set.number sent.caller sent.number.0 sent.number.1 refl in
    let url : IsFine headers.NotifierUrl notifier = record { utf8 = notified.0; form = notified.1 } in
    let who : IsFine headers.Who request.who = fine_who headers.Who request.who called.who refl in
    let chain : IsFine headers.Chain (chain_text request.chain) = fine_chain request.chain called.chain called.some in
    let seal : IsFine headers.Seal digits = fine_seal secret (sealed_bytes unsealed aire_headers) in
    let from_read = text_read head headers.From set.caller refl from.utf8 in
    let dest_read = text_read head headers.Dest set.dest refl dest.utf8 in
    let id_read = text_read head headers.ResponseId id refl number.utf8 in
    let who_read = text_read head headers.Who request.who refl who.utf8 in
    let chain_read = text_read head headers.Chain (chain_text request.chain) refl chain.utf8 in
    let seal_read = text_read head headers.Seal digits refl seal.utf8 in
    let fields : first_refusal head true call_headers ≡ None =
    first_of_none _ _ (none_refused head headers.From set.caller true refl from)
    (first_of_none _ _ (none_refused head headers.Dest set.dest true refl dest)
    (first_of_none _ _ (none_refused head headers.ResponseId id true refl number)
    (first_of_none _ _ (none_refused head headers.NotifierUrl notifier true refl url)
    (first_of_none _ _ (none_refused head headers.Who request.who true refl who)
    (first_of_none _ _ (none_refused head headers.Chain (chain_text request.chain) true refl chain) refl))))) in
    let sealing : first_refusal head true seal_header ≡ None = first_of_none _ _ (none_refused head headers.Seal digits true refl seal) refl in
    let last : ends_with_name (text_at head headers.Chain) (text_at head headers.From) ≡ true =
    ap (λ t. ends_with_name t (text_at head headers.From)) chain_read ∙ ap (λ t. ends_with_name (chain_text request.chain) t) from_read
    ∙ ap (λ c. ends_with_name (chain_text c) set.caller) live.last.1 ∙ chain_ends live.last.0 set.caller in
    let head_fits : call_head_refusal set.dest head ≡ None =
    first_of_none _ _ fields (first_of_none _ _ sealing
    (first_of_none _ _ (good_where_expected headers.Dest (text_at head headers.Dest) set.dest dest_read)
    (first_of_none _ _ (on_side headers.ResponseId (text_at head headers.ResponseId) (text_at head headers.From) set.caller set.number id_read from_read sent.caller sent.number.0 sent.number.1)
    (fits headers.Chain _ last)))) in
    let well : seal_refusal peers written call_headers ≡ None =
    sealed_well peers (text_at head headers.From) set.caller secret (sealed_bytes written call_headers) (sealed_bytes unsealed aire_headers)
    (text_at head headers.Seal) from_read peer refl seal_read in
    let asked : call_request written ≡ request =
    same_request request request.method request.path request.body (text_at head headers.Who) (names_in (text_at head headers.Chain))
    refl refl refl who_read (ap names_in chain_read ∙ chain_back request.chain called.chain called.some) in
    let message : call_message written ≡ set =
    same_set set (text_at head headers.From) (text_at head headers.Dest) (number_in (text_at head headers.ResponseId)) 1 (Some (call_request written)) None None (text_at head headers.Who)
    from_read dest_read (id_number (text_at head headers.ResponseId) set.caller set.number id_read sent.caller sent.number.0 sent.number.1)
    (sym live.version) (ap Some asked ∙ sym live.desired) (sym live.before) (sym live.after) (who_read ∙ sym live.who) in
    let kind : request_kind written.method written.path head ≡ Some Call = rw live.handled refl in
    ap (incoming_as set.dest peers console written) kind
    ∙ answered (call_refusal set.dest peers written) (Live (call_message written)) (Live set) (first_of_none _ _ head_fits well) (ap Live message)

-- whatever the message says that it asks
pub call_from : (set : SetMessage) (notifier secret : List ℕ) (asked : Request) → set.desired ≡ Some asked → CallReadsBack set notifier secret (call_asking set notifier secret asked)
call_from set notifier secret asked is = λ request sent live spelt peers console peer.
    let same : call_asking set notifier secret asked ≡ call_asking set notifier secret request = ap (λ o. call_or_deletion set notifier secret o) (sym is ∙ live.desired) in
    ap (λ w. incoming set.dest peers console w) same ∙ call_reads_back set request notifier secret peers console sent live spelt peer
