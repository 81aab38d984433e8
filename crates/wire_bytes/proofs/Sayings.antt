-- What a service sends is said to the one that it is for; bytes say one thing at most; what was taken says it alone.
use Rattle.std.proofs.Common.{◌≡◌, ℕ, true, List, [], ◌++◌, Option, Some, None, Result, Ok, Err, codes, refl, sym, subst, ap, ◌∙◌, arith}
use Rattle.std.specs.Option.{ForSome}
use Rattle.std.specs.Result.{IfOk}
use Rattle.std.specs.Str.{is_utf8}
use Rattle.std.proofs.lemmas.Bool.{and_from}
use Rattle.lang_core.specs.declared.request.Request.{Request}
use Rattle.repair_messages.specs.declared.messages.SetMessage.{SetMessage}
use Rattle.repair_messages.specs.declared.posts.Post.{Post}
use Rattle.repair_messages.specs.declared.posts.Post.TheVariants as posts
use Rattle.http_header.specs.FieldValue.{FieldValue}
use Rattle.http_header.specs.HeaderMap.{get}
use Rattle.http_front.specs.ReadBack.{IsWithin, is_plain}
use Rattle.http_front.specs.Writing.{request_bytes, type_or_plain}
use Rattle.http_front.specs.declared.header.AireHeader.TheVariants.{NotifierUrl}
use Rattle.http_front.specs.declared.message.WireRequest.{WireRequest}
use Rattle.http_front.specs.declared.message.WireResponse.{WireResponse}
use Rattle.http_front.proofs.OneAnswer.{one_request, one_response}
use Rattle.http_front.proofs.PlainLemmas.{spaced_plain}
use Rattle.wire_fields.specs.Forms.{is_notifier}
use Rattle.wire_fields.specs.Rows.{is_spelt}
use Rattle.wire_fields.specs.Secrets.{Secrets}
use Rattle.wire_replies.specs.Reading.{replied}
use Rattle.wire_replies.specs.Sent.{BytesReadBack, Carries}
use Rattle.wire_replies.specs.Writing.{sealed_reply, written}
use Rattle.wire_replies.specs.declared.kinds.Asking.{Asking}
use Rattle.wire_replies.specs.declared.replies.Outgoing.{Outgoing}
use Rattle.wire_replies.specs.declared.replies.Outgoing.TheVariants as replies
use Rattle.aire_wire.specs.Incoming.{incoming}
use Rattle.aire_wire.specs.ReadBack.{AreReadAs, CallBytesReadBack, PostBytesReadBack}
use Rattle.aire_wire.specs.Written.{body_of, call_or_deletion, written_call, written_post}
use Rattle.aire_wire.specs.declared.incoming.Incoming.{Incoming}
use Rattle.aire_wire.proofs.TextForms.{visible_utf8}
use Rattle.wire_bytes.specs.Doors.{is_door, notifier_of, with_host}
use Rattle.wire_bytes.specs.Said.{AreSaid, CallIsSaid, PostIsSaid, ReplyIsSaid}
use Rattle.wire_bytes.specs.Saying.{Replies, Says}
use Rattle.wire_bytes.specs.Sending.{call_bytes}
use Rattle.wire_bytes.proofs.Alone.{request_alone, response_alone}
use Rattle.wire_bytes.proofs.DoorLemmas.{all_visible, notifier_form}
use Rattle.wire_bytes.proofs.Heads.{door_visible, host_carries}

-- ---- one message

ok_same : {X E : Type 0} (a b : X) → ◌≡◌ {A = Result X E} (Ok a) (Ok b) → a ≡ b
ok_same a b same = cc

pub says_one : (me : List ℕ) (peers : Secrets) (console bytes : List ℕ) (message other : Incoming) (left rest : List ℕ)
    → Says me peers console bytes message left → Says me peers console bytes other rest → (message ≡ other) × (left ≡ rest)
says_one me peers console bytes message other left rest a b =
    let same = one_request bytes (Ok a.0) (Ok b.0) left rest a.1 b.1 in
    (ok_same message other (sym a.2 ∙ ap (incoming me peers console) (ok_same a.0 b.0 same.0) ∙ b.2), same.1)

pub replies_one : (me peer secret : List ℕ) (asking : Asking) (bytes : List ℕ) (reply other : Outgoing) (left rest : List ℕ)
    → Replies me peer secret asking bytes reply left → Replies me peer secret asking bytes other rest → (reply ≡ other) × (left ≡ rest)
replies_one me peer secret asking bytes reply other left rest a b =
    let same = one_response bytes (Ok a.0) (Ok b.0) left rest a.1 b.1 in
    (ok_same reply other (sym a.2 ∙ ap (replied me peer secret asking) (ok_same a.0 b.0 same.0) ∙ b.2), same.1)

-- ---- what was taken

pub says_alone : (me : List ℕ) (peers : Secrets) (console taken rest : List ℕ) (message : Incoming)
    → Says me peers console (taken ++ rest) message rest → Says me peers console taken message []
says_alone me peers console taken rest message says = (says.0, request_alone taken rest says.0 says.1, says.2)

pub replies_alone : (me peer secret : List ℕ) (asking : Asking) (taken rest : List ℕ) (reply : Outgoing)
    → Replies me peer secret asking (taken ++ rest) reply rest → Replies me peer secret asking taken reply []
replies_alone me peer secret asking taken rest reply says = (says.0, response_alone taken rest says.0 says.1, says.2)

-- ---- what is sent

-- a request to which its address was added
sent_to : (address me sender secret : List ℕ) (written : WireRequest) (message : Incoming) → AreReadAs me sender secret written message → is_door address ≡ true
    → IsWithin (request_bytes (with_host address written)) written.body → AreSaid me sender secret (request_bytes (with_host address written)) message
sent_to address me sender secret written message reads is within = λ peers console peer rest.
    let read = reads (with_host address written) (host_carries address written is within) peers console peer rest in
    (read.0, read.1.0, read.2)

spelt_notifier : (door : List ℕ) → is_door door ≡ true → is_spelt NotifierUrl (notifier_of door) ≡ true
spelt_notifier door is =
    and_from (is_utf8 (notifier_of door)) (is_notifier (notifier_of door))
    (visible_utf8 (notifier_of door) (all_visible door ∙ door_visible door is)) (notifier_form door ∙ is)

call_body : (set : SetMessage) (notifier secret : List ℕ) (o : Option Request) → set.desired ≡ o → (call_or_deletion set notifier secret o).body ≡ body_of o
call_body set notifier secret None is = ap body_of is
call_body set notifier secret (Some request) is = refl

pub call_said : (address door secret : List ℕ) (set : SetMessage) (request : WireRequest) → request ≡ written_call set (notifier_of door) secret
    → CallBytesReadBack set (notifier_of door) secret request → CallIsSaid address door secret set
call_said address door secret set written is back = λ request sent live to_door from_door within.
    let made = written_call set (notifier_of door) secret in
    let reads = subst (λ (r : WireRequest). CallBytesReadBack set (notifier_of door) secret r) is back in
    let here = subst (λ (body : List ℕ). IsWithin (call_bytes address door secret set) body) (sym (call_body set (notifier_of door) secret set.desired refl)) within in
    sent_to address set.dest set.caller secret made _ (reads request sent live (spelt_notifier door from_door)) to_door here

post_is_said : (address secret : List ℕ) (post : Post) → PostBytesReadBack post secret (written_post post secret) → PostIsSaid address secret post
post_is_said address secret (posts.Set set) back = λ sent is within.
    sent_to address set.dest set.caller secret (written_post (posts.Set set) secret) _ (back sent) is within
post_is_said address secret (posts.Token token) back = λ formed is within.
    sent_to address token.caller token.callee secret (written_post (posts.Token token) secret) _ (back formed) is within
post_is_said address secret (posts.Fetch fetch) back = λ formed is within.
    sent_to address fetch.callee fetch.caller secret (written_post (posts.Fetch fetch) secret) _ (back formed) is within

pub post_said : (address secret : List ℕ) (post : Post) (request : WireRequest) → request ≡ written_post post secret → PostBytesReadBack post secret request
    → PostIsSaid address secret post
post_said address secret post request is back = post_is_said address secret post (subst (λ (r : WireRequest). PostBytesReadBack post secret r) is back)

-- ---- what is replied

-- a reply has no type of its own
plain_type : (me peer secret : List ℕ) (reply : Outgoing) → get (sealed_reply me peer reply secret).head (codes "content-type") ≡ None
plain_type me peer secret (replies.Answered id None response) = refl
plain_type me peer secret (replies.Answered id (Some answer) response) = refl
plain_type me peer secret (replies.Ack ack) = refl
plain_type me peer secret (replies.Confirm confirm) = refl
plain_type me peer secret (replies.Refused word n) = refl

reply_said : (me peer secret : List ℕ) (reply : Outgoing) → BytesReadBack me peer secret reply (sealed_reply me peer reply secret) → ReplyIsSaid me peer secret reply
reply_said me peer secret reply back = λ spelt asking answers digits within rest.
    let written = sealed_reply me peer reply secret in
    let carries : Carries written written = record {
      status = refl;
      body = refl;
      fields = λ header. refl;
      three_digits = digits;
      kind =
          ap (λ (value : Option FieldValue). is_plain (type_or_plain value)) (plain_type me peer secret reply)
          ∙ spaced_plain (codes "text/plain;") (codes "charset=utf-8") refl (omega arith) refl (omega arith);
      within = within;
    } in
    let read = back spelt asking answers written carries rest in
    (read.0, read.1.0, read.2)

pub reply_said_to : (me secret : List ℕ) (to : Option (List ℕ)) (reply : Outgoing) (response : WireResponse) → response ≡ written me to reply secret
    → ForSome to (λ peer. BytesReadBack me peer secret reply response) → ForSome to (λ peer. ReplyIsSaid me peer secret reply)
reply_said_to me secret to reply response is back = λ peer some.
    let sealed : response ≡ sealed_reply me peer reply secret = is ∙ ap (λ (o : Option (List ℕ)). written me o reply secret) some in
    reply_said me peer secret reply (subst (λ (r : WireResponse). BytesReadBack me peer secret reply r) sealed (back peer some))

-- what holds whatever the result is, holds of it
pub if_any : {X E : Type 0} (result : Result X E) (P : Type 0) → P → IfOk result (λ x. P)
if_any (Ok x) P holds = holds
if_any (Err e) P holds = tt
