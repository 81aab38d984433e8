-- What is written to a service reads back there.
use Rattle.std.proofs.Common.{◌≡◌, ℕ, ◌<◌, ◌^◌, ◌⊎◌, true, ◌&&◌, List, [], ◌∷◌, Option, Some, None, Ok, IsSome, decimal, refl, sym, ap, ◌∙◌, inl, inr}
use Rattle.std.specs.Option.{ForSome}
use Rattle.std.specs.Str.{is_utf8}
use Rattle.lang_core.specs.Names.{is_name}
use Rattle.lang_core.specs.declared.request.Response.{Response}
use Rattle.http_header.specs.FieldValue.{FieldValue}
use Rattle.http_header.specs.HeaderMap.{Entries}
use Rattle.http_front.specs.declared.header.AireHeader.{AireHeader}
use Rattle.http_front.specs.declared.header.AireHeader.TheVariants as headers
use Rattle.http_front.specs.declared.message.WireResponse.{WireResponse}
use Rattle.peer_seal.specs.Seal.{seal_digits}
use Rattle.request_names.specs.Ids.{id_text}
use Rattle.request_names.specs.Numbers.{number_of}
use Rattle.wire_fields.specs.Fits.{number_in, or_zero, side_refusal, version_at}
use Rattle.wire_fields.specs.Forms.{has_form}
use Rattle.wire_fields.specs.Rows.{is_spelt, text_at}
use Rattle.wire_fields.specs.Words.{lone_status, numbered_status, refusal_of, refusal_text}
use Rattle.wire_fields.specs.declared.refused.WireRefused.{WireRefused}
use Rattle.wire_fields.proofs.SealLemmas.{seal_form, seal_utf8}
use Rattle.wire_fields.proofs.SpeltLemmas.{decimal_utf8, id_back, id_utf8, name_utf8, number_back}
use Rattle.wire_fields.proofs.WordLemmas.{lone_back, lone_text, lone_utf8, numbered_back, numbered_text, numbered_utf8}
use Rattle.wire_replies.specs.Kinds.{reply_headers}
use Rattle.wire_replies.specs.Reading.{refusal_or_none, replied, reply_in, reply_of, reply_refusal, response_in, sealed_bytes, unless_refused}
use Rattle.wire_replies.specs.Writing.{AreNumbers, IsFor, ReadsBack, sealed_reply}
use Rattle.wire_replies.specs.declared.kinds.Asking.{Asking}
use Rattle.wire_replies.specs.declared.kinds.Asking.TheVariants as asked
use Rattle.wire_replies.specs.declared.kinds.ReplyKind.{ReplyKind}
use Rattle.wire_replies.specs.declared.kinds.ReplyKind.TheVariants as kinds
use Rattle.wire_replies.specs.declared.replies.Outgoing.{Outgoing}
use Rattle.wire_replies.specs.declared.replies.Outgoing.TheVariants as replies
use Rattle.wire_fields.proofs.Refusals.{first_of_none}
use Rattle.wire_replies.proofs.Accepted.{IsField, accepted, number_of_id, field_accepted, said, side_fits}
use Rattle.std.proofs.lemmas.Bool.{and_from}

-- ---- each field as it is written

name_spelt : (name : List ℕ) → is_name name ≡ true → is_utf8 name && is_name name ≡ true
name_spelt name is = and_from (is_utf8 name) (is_name name) (name_utf8 name is) is

id_spelt : (name : List ℕ) (n : ℕ) → is_name name ≡ true → 0 < n → n < 2 ^ 64 → is_spelt headers.ResponseId (id_text name n) ≡ true
id_spelt name n is from_one small =
    and_from (is_utf8 (id_text name n)) (has_form headers.ResponseId (id_text name n)) (id_utf8 name n is small)
    (rw (id_back name n is from_one small) refl)

number_spelt : (n : ℕ) → n < 2 ^ 64 → is_spelt headers.Version (decimal n) ≡ true
number_spelt n small =
    and_from (is_utf8 (decimal n)) (has_form headers.Version (decimal n)) (decimal_utf8 n small) (rw (number_back n small) refl)

seal_spelt : (key bytes : List ℕ) → is_spelt headers.Seal (seal_digits key bytes) ≡ true
seal_spelt key bytes =
    and_from (is_utf8 (seal_digits key bytes)) (has_form headers.Seal (seal_digits key bytes)) (seal_utf8 key bytes) (seal_form key bytes)

version_of : (head : Entries FieldValue) (header : AireHeader) (n : ℕ) → n < 2 ^ 64 → IsField head header (decimal n) → version_at head header ≡ n
version_of head header n small f = ap (λ (text : List ℕ). or_zero (number_of text)) (said head header (decimal n) f) ∙ ap or_zero (number_back n small)

id_number : (head : Entries FieldValue) (header : AireHeader) (name : List ℕ) (n : ℕ) → is_name name ≡ true → 0 < n → n < 2 ^ 64
    → IsField head header (id_text name n) → number_in (text_at head header) ≡ n
id_number head header name n is from_one small f =
    ap number_in (said head header (id_text name n) f) ∙ number_of_id name n is from_one small

-- ---- an answer that isn't refused

accepts : (refusal : Option WireRefused) (reply expected : Outgoing) → refusal ≡ None → reply ≡ expected → unless_refused refusal reply ≡ Ok expected
accepts refusal reply expected none same = rw (none, same) refl

-- the services between which a reply goes, and its seal
record IsBetween (me peer secret : List ℕ) (kind : ReplyKind) (response : WireResponse) : Type 0 where
  my_name : is_name me ≡ true
  peer_name : is_name peer ≡ true
  from : IsField response.head headers.From me
  dest : IsField response.head headers.Dest peer
  seal : IsField response.head headers.Seal (seal_digits secret (sealed_bytes response (reply_headers kind)))

-- ---- live replies

abbrev live : List ℕ → List ℕ → ℕ → ℕ → ℕ → ℕ → Response → Outgoing
live me peer id number version answer_version response =
    replies.Answered (record { service = me; number = id })
    (Some (record {
      caller = peer;
      callee = me;
      id = id;
      number = number;
      answer_version = answer_version;
      version = version;
      response = response;
      who = me;
    }))
    response

same_live : (me peer from dest : List ℕ) (i k v a id number version answer_version : ℕ) (response : Response) → from ≡ me → dest ≡ peer
    → id ≡ i → number ≡ k → version ≡ v → answer_version ≡ a
    → live from dest id number version answer_version response ≡ live me peer i k v a response
same_live me peer from dest i k v a id number version answer_version response p q r s t u = rw (p, q, r, s, t, u) refl

live_reads : (me peer secret : List ℕ) (i k v a : ℕ) (response : WireResponse) → IsBetween me peer secret kinds.Live response
    → 0 < i → i < 2 ^ 64 → 0 < k → k < 2 ^ 64 → v < 2 ^ 64 → a < 2 ^ 64
    → IsField response.head headers.RequestId (id_text me i) → IsField response.head headers.ResponseId (id_text peer k)
    → IsField response.head headers.Version (decimal v) → IsField response.head headers.AnswerVersion (decimal a)
    → reply_of peer me secret kinds.Live response ≡ Ok (live me peer i k v a (response_in response))
live_reads me peer secret i k v a response b i_from i_small k_from k_small v_small a_small id call version answer =
    accepts (reply_refusal peer me secret kinds.Live response) (reply_in kinds.Live response) (live me peer i k v a (response_in response))
    (accepted me peer secret kinds.Live response b.from b.dest b.seal
    (field_accepted response.head headers.From (headers.Dest ∷ headers.RequestId ∷ headers.ResponseId ∷ headers.Version ∷ headers.AnswerVersion ∷ []) me b.from (field_accepted response.head headers.Dest (headers.RequestId ∷ headers.ResponseId ∷ headers.Version ∷ headers.AnswerVersion ∷ []) peer b.dest
    (field_accepted response.head headers.RequestId (headers.ResponseId ∷ headers.Version ∷ headers.AnswerVersion ∷ []) (id_text me i) id (field_accepted response.head headers.ResponseId (headers.Version ∷ headers.AnswerVersion ∷ []) (id_text peer k) call
    (field_accepted response.head headers.Version (headers.AnswerVersion ∷ []) (decimal v) version (field_accepted response.head headers.AnswerVersion [] (decimal a) answer refl))))))
    (first_of_none (side_refusal response.head headers.RequestId headers.From) (side_refusal response.head headers.ResponseId headers.Dest)
    (side_fits response.head headers.RequestId headers.From me i b.my_name i_from i_small id b.from)
    (side_fits response.head headers.ResponseId headers.Dest peer k b.peer_name k_from k_small call b.dest)))
    (same_live me peer (text_at response.head headers.From) (text_at response.head headers.Dest) i k v a
    (number_in (text_at response.head headers.RequestId)) (number_in (text_at response.head headers.ResponseId))
    (version_at response.head headers.Version) (version_at response.head headers.AnswerVersion) (response_in response)
    (said response.head headers.From me b.from) (said response.head headers.Dest peer b.dest)
    (id_number response.head headers.RequestId me i b.my_name i_from i_small id)
    (id_number response.head headers.ResponseId peer k b.peer_name k_from k_small call)
    (version_of response.head headers.Version v v_small version) (version_of response.head headers.AnswerVersion a a_small answer))

-- ---- acknowledgements

abbrev acked : List ℕ → List ℕ → ℕ → ℕ → Outgoing
acked me peer number version = replies.Ack (record { caller = peer; dest = me; number = number; version = version })

same_ack : (me peer from dest : List ℕ) (k v number version : ℕ) → from ≡ me → dest ≡ peer → number ≡ k → version ≡ v
    → acked from dest number version ≡ acked me peer k v
same_ack me peer from dest k v number version p q r s = rw (p, q, r, s) refl

ack_reads : (me peer secret : List ℕ) (k v : ℕ) (response : WireResponse) → IsBetween me peer secret kinds.Ack response
    → 0 < k → k < 2 ^ 64 → v < 2 ^ 64
    → IsField response.head headers.ResponseId (id_text peer k) → IsField response.head headers.Version (decimal v)
    → reply_of peer me secret kinds.Ack response ≡ Ok (acked me peer k v)
ack_reads me peer secret k v response b k_from k_small v_small call version =
    accepts (reply_refusal peer me secret kinds.Ack response) (reply_in kinds.Ack response) (acked me peer k v)
    (accepted me peer secret kinds.Ack response b.from b.dest b.seal
    (field_accepted response.head headers.From (headers.Dest ∷ headers.ResponseId ∷ headers.Version ∷ []) me b.from (field_accepted response.head headers.Dest (headers.ResponseId ∷ headers.Version ∷ []) peer b.dest
    (field_accepted response.head headers.ResponseId (headers.Version ∷ []) (id_text peer k) call (field_accepted response.head headers.Version [] (decimal v) version refl))))
    (side_fits response.head headers.ResponseId headers.Dest peer k b.peer_name k_from k_small call b.dest))
    (same_ack me peer (text_at response.head headers.From) (text_at response.head headers.Dest) k v
    (number_in (text_at response.head headers.ResponseId)) (version_at response.head headers.Version)
    (said response.head headers.From me b.from) (said response.head headers.Dest peer b.dest)
    (id_number response.head headers.ResponseId peer k b.peer_name k_from k_small call)
    (version_of response.head headers.Version v v_small version))

-- ---- confirmations

abbrev confirmed : List ℕ → List ℕ → ℕ → ℕ → Outgoing
confirmed me peer number version = replies.Confirm (record { caller = me; callee = peer; number = number; answer_version = version })

same_confirm : (me peer from dest : List ℕ) (k a number version : ℕ) → from ≡ me → dest ≡ peer → number ≡ k → version ≡ a
    → confirmed from dest number version ≡ confirmed me peer k a
same_confirm me peer from dest k a number version p q r s = rw (p, q, r, s) refl

confirm_reads : (me peer secret : List ℕ) (k a : ℕ) (response : WireResponse) → IsBetween me peer secret kinds.Confirm response
    → 0 < k → k < 2 ^ 64 → a < 2 ^ 64
    → IsField response.head headers.ResponseId (id_text me k) → IsField response.head headers.AnswerVersion (decimal a)
    → reply_of peer me secret kinds.Confirm response ≡ Ok (confirmed me peer k a)
confirm_reads me peer secret k a response b k_from k_small a_small call version =
    accepts (reply_refusal peer me secret kinds.Confirm response) (reply_in kinds.Confirm response) (confirmed me peer k a)
    (accepted me peer secret kinds.Confirm response b.from b.dest b.seal
    (field_accepted response.head headers.From (headers.Dest ∷ headers.ResponseId ∷ headers.AnswerVersion ∷ []) me b.from (field_accepted response.head headers.Dest (headers.ResponseId ∷ headers.AnswerVersion ∷ []) peer b.dest
    (field_accepted response.head headers.ResponseId (headers.AnswerVersion ∷ []) (id_text me k) call (field_accepted response.head headers.AnswerVersion [] (decimal a) version refl))))
    (side_fits response.head headers.ResponseId headers.From me k b.my_name k_from k_small call b.from))
    (same_confirm me peer (text_at response.head headers.From) (text_at response.head headers.Dest) k a
    (number_in (text_at response.head headers.ResponseId)) (version_at response.head headers.AnswerVersion)
    (said response.head headers.From me b.from) (said response.head headers.Dest peer b.dest)
    (id_number response.head headers.ResponseId me k b.my_name k_from k_small call)
    (version_of response.head headers.AnswerVersion a a_small version))

-- ---- refusals

named_so : (found : Option (List ℕ × ℕ)) (word : List ℕ) (n : ℕ) → found ≡ Some (word, n) → refusal_or_none found ≡ replies.Refused word n
named_so found word n is = rw is refl

refusal_reads : (me peer secret word text : List ℕ) (n : ℕ) (response : WireResponse) → IsBetween me peer secret kinds.Refusal response
    → refusal_of text ≡ Some (word, n) → IsField response.head headers.Refused text
    → reply_of peer me secret kinds.Refusal response ≡ Ok (replies.Refused word n)
refusal_reads me peer secret word text n response b is refused =
    accepts (reply_refusal peer me secret kinds.Refusal response) (reply_in kinds.Refusal response) (replies.Refused word n)
    (accepted me peer secret kinds.Refusal response b.from b.dest b.seal
    (field_accepted response.head headers.From (headers.Dest ∷ headers.Refused ∷ []) me b.from (field_accepted response.head headers.Dest (headers.Refused ∷ []) peer b.dest
    (field_accepted response.head headers.Refused [] text refused refl)))
    refl)
    (named_so (refusal_of (text_at response.head headers.Refused)) word n
    (ap refusal_of (said response.head headers.Refused text refused) ∙ is))

-- ---- written and read

live_back : (me peer secret : List ℕ) (i k v a : ℕ) (r : Response) → is_name me ≡ true → is_name peer ≡ true
    → 0 < i → i < 2 ^ 64 → 0 < k → k < 2 ^ 64 → v < 2 ^ 64 → a < 2 ^ 64
    → reply_of peer me secret kinds.Live (sealed_reply me peer (live me peer i k v a r) secret) ≡ Ok (live me peer i k v a r)
live_back me peer secret i k v a r mine theirs i_from i_small k_from k_small v_small a_small =
    live_reads me peer secret i k v a (sealed_reply me peer (live me peer i k v a r) secret)
    (record {
      my_name = mine;
      peer_name = theirs;
      from = record { there = refl; spelt = name_spelt me mine };
      dest = record { there = refl; spelt = name_spelt peer theirs };
      seal = record { there = refl; spelt = seal_spelt secret _ };
    })
    i_from i_small k_from k_small v_small a_small
    (record { there = refl; spelt = id_spelt me i mine i_from i_small })
    (record { there = refl; spelt = id_spelt peer k theirs k_from k_small })
    (record { there = refl; spelt = number_spelt v v_small })
    (record { there = refl; spelt = number_spelt a a_small })

-- by a call and by a fetch alike
live_read : (me peer secret : List ℕ) (asking : Asking) (i k v a : ℕ) (r : Response) → (asking ≡ asked.Call) ⊎ (asking ≡ asked.Fetch)
    → reply_of peer me secret kinds.Live (sealed_reply me peer (live me peer i k v a r) secret) ≡ Ok (live me peer i k v a r)
    → replied peer me secret asking (sealed_reply me peer (live me peer i k v a r) secret) ≡ Ok (live me peer i k v a r)
live_read me peer secret asking i k v a r (inl call) back = rw call back
live_read me peer secret asking i k v a r (inr fetch) back = rw fetch back

ack_back : (me peer secret : List ℕ) (k v : ℕ) → is_name me ≡ true → is_name peer ≡ true → 0 < k → k < 2 ^ 64 → v < 2 ^ 64
    → replied peer me secret asked.Set (sealed_reply me peer (acked me peer k v) secret) ≡ Ok (acked me peer k v)
ack_back me peer secret k v mine theirs k_from k_small v_small =
    ack_reads me peer secret k v (sealed_reply me peer (acked me peer k v) secret)
    (record {
      my_name = mine;
      peer_name = theirs;
      from = record { there = refl; spelt = name_spelt me mine };
      dest = record { there = refl; spelt = name_spelt peer theirs };
      seal = record { there = refl; spelt = seal_spelt secret _ };
    })
    k_from k_small v_small
    (record { there = refl; spelt = id_spelt peer k theirs k_from k_small })
    (record { there = refl; spelt = number_spelt v v_small })

confirm_back : (me peer secret : List ℕ) (k a : ℕ) → is_name me ≡ true → is_name peer ≡ true → 0 < k → k < 2 ^ 64 → a < 2 ^ 64
    → replied peer me secret asked.Token (sealed_reply me peer (confirmed me peer k a) secret) ≡ Ok (confirmed me peer k a)
confirm_back me peer secret k a mine theirs k_from k_small a_small =
    confirm_reads me peer secret k a (sealed_reply me peer (confirmed me peer k a) secret)
    (record {
      my_name = mine;
      peer_name = theirs;
      from = record { there = refl; spelt = name_spelt me mine };
      dest = record { there = refl; spelt = name_spelt peer theirs };
      seal = record { there = refl; spelt = seal_spelt secret _ };
    })
    k_from k_small a_small
    (record { there = refl; spelt = id_spelt me k mine k_from k_small })
    (record { there = refl; spelt = number_spelt a a_small })

abbrev HasWord : List ℕ → ℕ → Type 0
HasWord word n = (IsSome (lone_status word) × (n ≡ 0)) ⊎ IsSome (numbered_status word)

word_back : (word : List ℕ) (n : ℕ) → n < 2 ^ 64 → HasWord word n → refusal_of (refusal_text word n) ≡ Some (word, n)
word_back word n small (inl h) =
    ap refusal_of (lone_text word n h.0) ∙ lone_back word h.0 ∙ ap (λ (m : ℕ). Some (word, m)) (sym h.1)
word_back word n small (inr h) = ap refusal_of (numbered_text word n h) ∙ numbered_back word n h small

word_utf8 : (word : List ℕ) (n : ℕ) → n < 2 ^ 64 → HasWord word n → is_utf8 (refusal_text word n) ≡ true
word_utf8 word n small (inl h) = ap is_utf8 (lone_text word n h.0) ∙ lone_utf8 word h.0
word_utf8 word n small (inr h) = ap is_utf8 (numbered_text word n h) ∙ numbered_utf8 word n h small

refusal_back : (me peer secret : List ℕ) (asking : Asking) (word : List ℕ) (n : ℕ) → is_name me ≡ true → is_name peer ≡ true → n < 2 ^ 64 → HasWord word n
    → replied peer me secret asking (sealed_reply me peer (replies.Refused word n) secret) ≡ Ok (replies.Refused word n)
refusal_back me peer secret asking word n mine theirs small has =
    refusal_reads me peer secret word (refusal_text word n) n (sealed_reply me peer (replies.Refused word n) secret)
    (record {
      my_name = mine;
      peer_name = theirs;
      from = record { there = refl; spelt = name_spelt me mine };
      dest = record { there = refl; spelt = name_spelt peer theirs };
      seal = record { there = refl; spelt = seal_spelt secret _ };
    })
    (word_back word n small has)
    (record {
      there = refl;
      spelt = and_from (is_utf8 (refusal_text word n)) (has_form headers.Refused (refusal_text word n)) (word_utf8 word n small has)
          (rw (word_back word n small has) refl);
    })

-- ---- any reply

live_parts : (me peer service caller callee who : List ℕ) (n i k v a : ℕ) (said r : Response) → service ≡ me → n ≡ i → caller ≡ peer → callee ≡ me
    → who ≡ me → said ≡ r
    → replies.Answered (record { service = service; number = n })
    (Some (record {
      caller = caller;
      callee = callee;
      id = i;
      number = k;
      answer_version = a;
      version = v;
      response = said;
      who = who;
    })) r
    ≡ live me peer i k v a r
live_parts me peer service caller callee who n i k v a said r p q s t u w = rw (p, q, s, t, u, w) refl

ack_parts : (me peer caller dest : List ℕ) (k v : ℕ) → caller ≡ peer → dest ≡ me → acked dest caller k v ≡ acked me peer k v
ack_parts me peer caller dest k v p q = rw (p, q) refl

confirm_parts : (me peer caller callee : List ℕ) (k a : ℕ) → caller ≡ me → callee ≡ peer → confirmed caller callee k a ≡ confirmed me peer k a
confirm_parts me peer caller callee k a p q = rw (p, q) refl

pub some_same : (x y : List ℕ) → Some x ≡ Some y → y ≡ x
some_same x y e = cc

-- the same of an equal reply
carried : (me peer secret : List ℕ) (asking : Asking) (reply other : Outgoing) → reply ≡ other
    → replied peer me secret asking (sealed_reply me peer other secret) ≡ Ok other
    → replied peer me secret asking (sealed_reply me peer reply secret) ≡ Ok reply
carried me peer secret asking reply other same back = rw same back

pub back : (me peer secret : List ℕ) (reply : Outgoing) → is_name me ≡ true → is_name peer ≡ true → AreNumbers reply
    → IsFor me (Some peer) reply → ReadsBack me peer secret reply (sealed_reply me peer reply secret)
back me peer secret (replies.Answered id None r) mine theirs small goes spelt asking answers = absurd spelt
back me peer secret (replies.Answered id (Some answer) r) mine theirs small goes spelt asking answers =
    let callee : answer.callee ≡ me = goes.0 in
    let caller : answer.caller ≡ peer = some_same peer answer.caller goes.1 in
    carried me peer secret asking (replies.Answered id (Some answer) r)
    (live me peer answer.id answer.number answer.version answer.answer_version r)
    (live_parts me peer id.service answer.caller answer.callee answer.who id.number answer.id answer.number answer.version
    answer.answer_version answer.response r (spelt.4 ∙ callee) spelt.5 caller callee (spelt.2 ∙ callee) spelt.3)
    (live_read me peer secret asking answer.id answer.number answer.version answer.answer_version r answers
    (live_back me peer secret answer.id answer.number answer.version answer.answer_version r mine theirs
    spelt.0 small.0 spelt.1 small.1 small.2 small.3))
back me peer secret (replies.Ack ack) mine theirs small goes spelt asking answers =
    let caller : ack.caller ≡ peer = some_same peer ack.caller goes.1 in
    carried me peer secret asking (replies.Ack ack) (acked me peer ack.number ack.version)
    (ack_parts me peer ack.caller ack.dest ack.number ack.version caller goes.0)
    (rw answers (ack_back me peer secret ack.number ack.version mine theirs spelt small.0 small.1))
back me peer secret (replies.Confirm confirm) mine theirs small goes spelt asking answers =
    let callee : confirm.callee ≡ peer = some_same peer confirm.callee goes.1 in
    carried me peer secret asking (replies.Confirm confirm) (confirmed me peer confirm.number confirm.answer_version)
    (confirm_parts me peer confirm.caller confirm.callee confirm.number confirm.answer_version goes.0 callee)
    (rw answers (confirm_back me peer secret confirm.number confirm.answer_version mine theirs spelt small.0 small.1))
back me peer secret (replies.Refused word n) mine theirs small goes spelt asking answers =
    refusal_back me peer secret asking word n mine theirs small spelt

-- as the code has it
pub back_of : (me peer my_text their_text secret : List ℕ) (to : Option (List ℕ)) (reply : Outgoing) (response : WireResponse)
    → is_name me ≡ true → is_name peer ≡ true → AreNumbers reply → IsFor me to reply → to ≡ Some peer
    → my_text ≡ me → their_text ≡ peer → response ≡ sealed_reply my_text their_text reply secret
    → ForSome to (λ name. ReadsBack me name secret reply response)
back_of me peer my_text their_text secret to reply response mine theirs small goes some my_is their_is written name is =
    let same : name ≡ peer = some_same peer name (sym some ∙ is) in
    let sent : response ≡ sealed_reply me peer reply secret =
    written ∙ ap (λ (text : List ℕ). sealed_reply text their_text reply secret) my_is
    ∙ ap (λ (text : List ℕ). sealed_reply me text reply secret) their_is in
    let there : IsFor me (Some peer) reply = rw some at goes in
    rw (same, sent) (back me peer secret reply mine theirs small there)
