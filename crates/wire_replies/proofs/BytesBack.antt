-- The bytes of a reply that is written to a service are read back as it.
use Rattle.std.proofs.Common.{◌≡◌, ℕ, true, List, Option, Some, IsUtf8, sym, ap, ◌∙◌}
use Rattle.std.specs.Str.{is_utf8}
use Rattle.std.proofs.lemmas.Str.{is_utf8-from_IsUtf8}
use Rattle.std.specs.Option.{ForSome}
use Rattle.lang_core.specs.Names.{is_name}
use Rattle.http_front.specs.declared.message.WireResponse.{WireResponse}
use Rattle.http_front.specs.ReadBack.{IsRepliable, response_read}
use Rattle.http_front.proofs.ResponsesBack.{response_reads_back, spelled}
use Rattle.wire_fields.proofs.MadeHeads.{table_plain}
use Rattle.wire_fields.proofs.SameFields.{response_agrees, same_lines}
use Rattle.wire_replies.specs.Sent.{BytesReadBack}
use Rattle.wire_replies.specs.Writing.{AreNumbers, IsFor, reply_body, sealed_reply}
use Rattle.wire_replies.specs.declared.replies.Outgoing.{Outgoing}
use Rattle.wire_replies.proofs.PlainReplies.{reply_plain, reply_single}
use Rattle.wire_replies.proofs.RoundTrip.{back, some_same}
use Rattle.wire_replies.proofs.SameReplies.{same_reply}

bytes : (me peer secret : List ℕ) (reply : Outgoing) → is_name me ≡ true → is_name peer ≡ true → AreNumbers reply → IsUtf8 (reply_body reply) → IsFor me (Some peer) reply
    → BytesReadBack me peer secret reply (sealed_reply me peer reply secret)
bytes me peer secret reply mine theirs small utf8 goes = λ spelt asking answers sent carries rest.
    let written = sealed_reply me peer reply secret in
    let repliable : IsRepliable sent = record {
      three_digits = carries.three_digits;
      kind = carries.kind;
      fields = same_lines sent.head written.head carries.fields (table_plain written.head (reply_plain me peer secret reply mine theirs small goes spelt));
      within = carries.within;
      text = ap is_utf8 carries.body ∙ is_utf8-from_IsUtf8 (reply_body reply) utf8;
    } in (
      response_read sent,
      (spelled sent rest repliable, response_reads_back sent repliable rest),
      same_reply peer me secret asking (response_read sent) written carries.status carries.body (response_agrees sent written.head carries.fields (reply_single me peer secret reply))
          ∙ back me peer secret reply mine theirs small goes spelt asking answers,
    )

-- as the code has it
pub bytes_of : (me peer my_text their_text secret : List ℕ) (to : Option (List ℕ)) (reply : Outgoing) (response : WireResponse)
    → is_name me ≡ true → is_name peer ≡ true → AreNumbers reply → IsUtf8 (reply_body reply) → IsFor me to reply → to ≡ Some peer
    → my_text ≡ me → their_text ≡ peer → response ≡ sealed_reply my_text their_text reply secret
    → ForSome to (λ name. BytesReadBack me name secret reply response)
bytes_of me peer my_text their_text secret to reply response mine theirs small utf8 goes some my_is their_is written name is =
    let same : name ≡ peer = some_same peer name (sym some ∙ is) in
    let sent : response ≡ sealed_reply me peer reply secret =
    written ∙ ap (λ (text : List ℕ). sealed_reply text their_text reply secret) my_is
    ∙ ap (λ (text : List ℕ). sealed_reply me text reply secret) their_is in
    let there : IsFor me (Some peer) reply = rw some at goes in
    rw (same, sent) (bytes me peer secret reply mine theirs small utf8 there)
