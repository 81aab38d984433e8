-- The bytes of a message that is written are read back as it.
use Rattle.std.proofs.Common.{◌≡◌, ℕ, true, List, [], Option, Some, IsUtf8, refl, ap, subst, ◌∙◌}
use Rattle.std.specs.Str.{is_utf8}
use Rattle.std.proofs.lemmas.Bool.{and_parts}
use Rattle.std.proofs.lemmas.Str.{is_utf8-from_IsUtf8}
use Rattle.std.proofs.lemmas.Str.Ascii.{IsAscii-nil}
use Rattle.lang_core.specs.declared.request.Request.{Request}
use Rattle.lang_tree.specs.Forms.{is_path}
use Rattle.http_front.specs.declared.message.WireRequest.{WireRequest}
use Rattle.http_front.specs.ReadBack.{IsSendable, request_read}
use Rattle.http_front.proofs.RequestsBack.{request_reads_back, spelled}
use Rattle.repair_messages.specs.declared.messages.Fetch.{Fetch}
use Rattle.repair_messages.specs.declared.messages.SetMessage.{SetMessage}
use Rattle.repair_messages.specs.declared.messages.TokenMessage.{TokenMessage}
use Rattle.wire_fields.proofs.MadeHeads.{ArePlain, AreSingle, table_plain}
use Rattle.wire_fields.proofs.SameFields.{request_agrees, same_lines}
use Rattle.wire_fields.proofs.SpeltLemmas.{utf8_of_ascii}
use Rattle.aire_wire.specs.ReadBack.{AreReadAs, CallBytesReadBack, FetchBytesReadBack, IsReadAs, SetBytesReadBack, TokenBytesReadBack}
use Rattle.wire_fields.specs.Forms.{is_notifier}
use Rattle.aire_wire.specs.Written.{body_of, call_asking, written_fetch, written_set, written_token}
use Rattle.aire_wire.specs.declared.incoming.Incoming.{Incoming}
use Rattle.aire_wire.proofs.PlainMessages.{call_plain, call_single, fetch_plain, fetch_single, set_plain, set_single, token_plain, token_single}
use Rattle.aire_wire.proofs.ReadCalls.{call_from}
use Rattle.aire_wire.proofs.ReadFetches.{fetch_reads_back}
use Rattle.aire_wire.proofs.ReadSets.{set_reads_back}
use Rattle.aire_wire.proofs.ReadTokens.{token_reads_back}
use Rattle.aire_wire.proofs.SameMessages.{same_message}

-- a request that is read as a message is read so from its bytes
carried : (me sender secret : List ℕ) (written : WireRequest) (message : Incoming) → IsReadAs me sender secret written message → is_path written.path ≡ true
    → is_utf8 written.body ≡ true → ArePlain written.head → AreSingle written.head → AreReadAs me sender secret written message
carried me sender secret written message reads path text plain one = λ sent carries peers console peer rest.
    let sendable : IsSendable sent = record {
      path = ap is_path carries.path ∙ path;
      host = carries.host;
      fields = same_lines sent.head written.head carries.fields (table_plain written.head plain);
      within = carries.within;
      text = ap is_utf8 carries.body ∙ text;
    } in (
      request_read sent,
      (spelled sent rest sendable, request_reads_back sent sendable rest),
      same_message me peers console (request_read sent) written carries.method carries.path carries.body (request_agrees sent written.head carries.fields one)
          ∙ reads peers console peer,
    )

pub call_bytes : (set : SetMessage) (notifier secret : List ℕ) (asked : Request) → set.desired ≡ Some asked → IsUtf8 (body_of set.desired) → CallBytesReadBack set notifier secret (call_asking set notifier secret asked)
call_bytes set notifier secret asked is utf8 = λ request sent live spelt.
    let called = sent.desired asked is in
    carried set.dest set.caller secret (call_asking set notifier secret asked) _ (call_from set notifier secret asked is request sent live spelt)
    called.path (is_utf8-from_IsUtf8 asked.body (subst (λ (o : Option Request). IsUtf8 (body_of o)) is utf8))
    (call_plain set asked notifier secret sent called (and_parts (is_utf8 notifier) (is_notifier notifier) spelt).1) (call_single set asked notifier secret)

pub set_bytes : (set : SetMessage) (secret : List ℕ) → IsUtf8 (body_of set.desired) → SetBytesReadBack set secret (written_set set secret)
set_bytes set secret utf8 = λ sent.
    carried set.dest set.caller secret (written_set set secret) _ (set_reads_back set secret sent) refl (is_utf8-from_IsUtf8 (body_of set.desired) utf8) (set_plain set secret sent) (set_single set secret)

no_body : is_utf8 [] ≡ true
no_body = utf8_of_ascii [] IsAscii-nil

pub token_bytes : (token : TokenMessage) (secret : List ℕ) → TokenBytesReadBack token secret (written_token token secret)
token_bytes token secret = λ is.
    carried token.caller token.callee secret (written_token token secret) _ (token_reads_back token secret is) refl no_body (token_plain token secret is) (token_single token secret)

pub fetch_bytes : (fetch : Fetch) (secret : List ℕ) → FetchBytesReadBack fetch secret (written_fetch fetch secret)
fetch_bytes fetch secret = λ is.
    carried fetch.callee fetch.caller secret (written_fetch fetch secret) _ (fetch_reads_back fetch secret is) refl no_body (fetch_plain fetch secret is) (fetch_single fetch secret)
