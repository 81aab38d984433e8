-- The fields of replies to services have values that a line gives back, and each name one value.
use Rattle.std.proofs.Common.{◌≡◌, ℕ, ◌<◌, ◌^◌, true, List, [], Some, None, refl, sym, subst, ap, ◌∙◌}
use Rattle.std.specs.List.{list_all}
use Rattle.lang_core.specs.Names.{is_name}
use Rattle.std.proofs.lemmas.Bool.{and_from}
use Rattle.http_front.proofs.PlainLemmas.{decimal_plain}
use Rattle.wire_fields.proofs.MadeHeads.{ArePlain, AreSingle, all_plain, are_single, is_plain_field, none_plain, one_plain}
use Rattle.wire_fields.proofs.PlainForms.{id_plain, name_plain, refusal_plain, seal_plain}
use Rattle.http_front.specs.Table.{aire_headers}
use Rattle.http_front.specs.declared.header.AireHeader.TheVariants as headers
use Rattle.peer_seal.specs.Seal.{seal_digits}
use Rattle.wire_fields.specs.Heads.{with_fields}
use Rattle.wire_replies.specs.Reading.{sealed_bytes}
use Rattle.wire_replies.specs.Writing.{AreNumbers, IsFor, IsSpelt, reply_fields, sealed_reply, side_fields, unsealed}
use Rattle.wire_replies.specs.declared.replies.Outgoing.{Outgoing}
use Rattle.wire_replies.specs.declared.replies.Outgoing.TheVariants as replies
use Rattle.wire_replies.proofs.RoundTrip.{some_same}

named : (name other : List ℕ) → name ≡ other → is_name other ≡ true → is_name name ≡ true
named name other same is = ap is_name same ∙ is

fields_plain : (me peer : List ℕ) (reply : Outgoing) → is_name me ≡ true → is_name peer ≡ true → AreNumbers reply → IsFor me (Some peer) reply → IsSpelt reply
    → list_all is_plain_field (reply_fields reply) ≡ true
fields_plain me peer (replies.Answered id None r) mine theirs small goes spelt = absurd spelt
fields_plain me peer (replies.Answered id (Some answer) r) mine theirs small goes spelt =
    let callee : answer.callee ≡ me = goes.0 in
    let caller : answer.caller ≡ peer = some_same peer answer.caller goes.1 in
    let number : id.number < 2 ^ 64 = subst (λ (n : ℕ). n < 2 ^ 64) (sym spelt.5) small.0 in
    and_from _ _ (id_plain id.service id.number (named id.service me (spelt.4 ∙ callee) mine) number)
    (and_from _ _ (id_plain answer.caller answer.number (named answer.caller peer caller theirs) small.1)
    (and_from _ _ (decimal_plain answer.version small.2)
    (and_from _ _ (decimal_plain answer.answer_version small.3) refl)))
fields_plain me peer (replies.Ack ack) mine theirs small goes spelt =
    and_from _ _ (id_plain ack.caller ack.number (named ack.caller peer (some_same peer ack.caller goes.1) theirs) small.0)
    (and_from _ _ (decimal_plain ack.version small.1) refl)
fields_plain me peer (replies.Confirm confirm) mine theirs small goes spelt =
    and_from _ _ (id_plain confirm.caller confirm.number (named confirm.caller me goes.0 mine) small.0)
    (and_from _ _ (decimal_plain confirm.answer_version small.1) refl)
fields_plain me peer (replies.Refused word n) mine theirs small goes spelt = and_from _ _ (refusal_plain word n small spelt) refl

pub reply_plain : (me peer secret : List ℕ) (reply : Outgoing) → is_name me ≡ true → is_name peer ≡ true → AreNumbers reply → IsFor me (Some peer) reply → IsSpelt reply
    → ArePlain (sealed_reply me peer reply secret).head
reply_plain me peer secret reply mine theirs small goes spelt =
    let digits = seal_digits secret (sealed_bytes (unsealed (side_fields me peer) reply) aire_headers) in
    let sides : list_all is_plain_field (side_fields me peer) ≡ true = and_from _ _ (name_plain me mine) (and_from _ _ (name_plain peer theirs) refl) in
    let between = all_plain [] (side_fields me peer) none_plain sides in
    let told = all_plain (with_fields [] (side_fields me peer)) (reply_fields reply) between (fields_plain me peer reply mine theirs small goes spelt) in
    one_plain (unsealed (side_fields me peer) reply).head (headers.Seal, digits) told (seal_plain secret (sealed_bytes (unsealed (side_fields me peer) reply) aire_headers))

pub reply_single : (me peer secret : List ℕ) (reply : Outgoing) → AreSingle (sealed_reply me peer reply secret).head
reply_single me peer secret (replies.Answered id None r) = are_single (sealed_reply me peer (replies.Answered id None r) secret).head refl
reply_single me peer secret (replies.Answered id (Some answer) r) = are_single (sealed_reply me peer (replies.Answered id (Some answer) r) secret).head refl
reply_single me peer secret (replies.Ack ack) = are_single (sealed_reply me peer (replies.Ack ack) secret).head refl
reply_single me peer secret (replies.Confirm confirm) = are_single (sealed_reply me peer (replies.Confirm confirm) secret).head refl
reply_single me peer secret (replies.Refused word n) = are_single (sealed_reply me peer (replies.Refused word n) secret).head refl
