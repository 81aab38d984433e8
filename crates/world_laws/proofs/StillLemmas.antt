-- What stands in journals stands there when they grow.
use Rattle.std.proofs.Common.{◌≡◌, ℕ, List, [], ◌++◌, Option, Some, None, IfSome, IsSomeAnd, Contains, nat_eq, inl, inr, refl, sym, subst, eqb-true}
use Rattle.std.proofs.lemmas.Bool.{and_parts, cases_Bool, cond-true, cond-false}
use Rattle.std.proofs.lemmas.List.Elements.{Contains-append_left}
use Rattle.lang_core.specs.Origins.{is_call}
use Rattle.lang_core.specs.declared.ids.Origin.{Origin}
use Rattle.lang_core.specs.declared.ids.Origin.TheVariants.{Outside, Call as CallOrigin}
use Rattle.lang_core.specs.declared.request.Request.{Request}
use Rattle.lang_core.specs.declared.request.Response.{Response}
use Rattle.repair_messages.specs.declared.messages.AnswerMessage.{AnswerMessage}
use Rattle.repair_messages.specs.declared.messages.SetMessage.{SetMessage}
use Rattle.repair_messages.specs.declared.posts.Post.{Post}
use Rattle.repair_messages.specs.declared.posts.Post.TheVariants.{Set as SetPost, Token as TokenPost, Fetch as FetchPost}
use Rattle.journal_rows.specs.Words.{sent_step, last_sent, noting_step, last_noted, gives, given_step, given_at}
use Rattle.journal_rows.specs.declared.callee.AnsweredRow.{AnsweredRow}
use Rattle.journal_rows.specs.declared.caller.AckHow.{AckHow}
use Rattle.journal_rows.specs.declared.caller.AckHow.TheVariants.{WithAnswer, ToPost}
use Rattle.journal_rows.specs.declared.caller.NotedRow.{NotedRow}
use Rattle.journal_rows.specs.declared.caller.SentRow.{SentRow}
use Rattle.journal_rows.specs.declared.row.Row.{Row}
use Rattle.journal_rows.specs.declared.row.Row.TheVariants.{Took, Answered, WasConfirmed, Sent, SawAck, Noted, SawAnswer}
use Rattle.service_events.specs.Fits.{EachAfter, SendsOn}
use Rattle.service_events.specs.State.{Kept, me}
use Rattle.service_events.specs.declared.answers.PostReply.{PostReply}
use Rattle.service_events.specs.declared.answers.PostReply.TheVariants.{Acked, Confirmed, Given}
use Rattle.service_events.proofs.CallLaws.{Grows}
use Rattle.service_events.proofs.LogLemmas.{call_is}
use Rattle.world_agreement.specs.Partners.{service_of, JournalOf, HasSent, HasAcked, HasAnswered, HasGiven, HasConfirmed, HasAcknowledged, HasPartner}
use Rattle.world_agreement.proofs.Histories.{Sets, last_from}
use Rattle.world_agreement.proofs.ListLemmas.{some_out}
use Rattle.world_agreement.proofs.SentFacts.{IsSentBefore, sent_before}
use Rattle.world_events.specs.Events.{sender}
use Rattle.world_events.specs.Sound.{WasSent, WasAnswered, WasNoted, CallStands, ReplyStands, PostStands, PostReplyStands, PacketStands, OriginStands}
use Rattle.world_events.specs.declared.packet.Live.{Live}
use Rattle.world_events.specs.declared.packet.Live.TheVariants.{Answer, Refused}
use Rattle.world_events.specs.declared.packet.Packet.{Packet}
use Rattle.world_events.specs.declared.packet.Packet.TheVariants.{Call, CallReply, Post as PostPacket, PostReply as PostReplyPacket}
use Rattle.world_laws.proofs.PutLemmas.{Grew, same_name}

-- ---- one journal

pub sent_more : (dest : List ℕ) (n v : ℕ) (q : Option Request) (j rows : List Row) → HasSent dest n v q j → HasSent dest n v q (j ++ rows)
sent_more dest n v q j rows h = Contains-append_left j rows _ h

pub acked_more : (c : List ℕ) (n v : ℕ) (j rows : List Row) → HasAcked c n v j → HasAcked c n v (j ++ rows)
acked_more c n v j rows h = Contains-append_left j rows _ h

pub answered_more : (c : List ℕ) (n a v : ℕ) (r : Response) (j rows : List Row) → HasAnswered c n a v r j → HasAnswered c n a v r (j ++ rows)
answered_more c n a v r j rows h = (h.0, h.1, Contains-append_left j rows _ h.2)

pub given_more : (c : List ℕ) (n a : ℕ) (j rows : List Row) → HasGiven c n a j → HasGiven c n a (j ++ rows)
given_more c n a j rows h = (h.0, h.1, answered_more c n a h.0 h.1 j rows h.2)

pub noted_more : (n a : ℕ) (j rows : List Row) → WasNoted n a j → WasNoted n a (j ++ rows)
noted_more n a j rows h = (h.0, h.1, Contains-append_left j rows _ h.2)

pub confirmed_more : (n a : ℕ) (j rows : List Row) → HasConfirmed n a j → HasConfirmed n a (j ++ rows)
confirmed_more n a j rows h = Contains-append_left j rows _ h

pub acknowledged_more : (c : List ℕ) (n v : ℕ) (how : AckHow) (j rows : List Row) → HasAcknowledged c n v how j → HasAcknowledged c n v how (j ++ rows)
acknowledged_more c n v (WithAnswer a) j rows h = (h.0, answered_more c n a v h.0 j rows h.1)
acknowledged_more c n v ToPost j rows h = acked_more c n v j rows h

-- ---- where a call was sent

sent_sets : (n : ℕ) (last : Option SentRow) (row : Row) → Sets Sent (λ s. s.number ≡ n) last row (sent_step n last row)
sent_sets n last (Sent s) = elim (cases_Bool (nat_eq s.number n)) [
  | inl is ↦ inr (s, refl, cond-true (nat_eq s.number n) (Some s) last is, eqb-true s.number n is)
  | inr other ↦ inl (cond-false (nat_eq s.number n) (Some s) last other)
]
sent_sets n last row = inl refl

-- the last version that was sent stands in the journal
pub sent_from : (n : ℕ) (j : List Row) → IfSome (last_sent n j) (λ s. (s.number ≡ n) × Contains j (Sent s))
sent_from n j = last_from Sent (λ s. s.number ≡ n) (sent_step n) (sent_sets n) j

-- so does the last token of a call
noted_sets : (n : ℕ) (last : Option NotedRow) (row : Row) → Sets Noted (λ t. t.number ≡ n) last row (noting_step n last row)
noted_sets n last (Noted t) = elim (cases_Bool (nat_eq t.number n)) [
  | inl is ↦ inr (t, refl, cond-true (nat_eq t.number n) (Some t) last is, eqb-true t.number n is)
  | inr other ↦ inl (cond-false (nat_eq t.number n) (Some t) last other)
]
noted_sets n last row = inl refl

pub noted_from : (n : ℕ) (j : List Row) → IfSome (last_noted n j) (λ t. (t.number ≡ n) × Contains j (Noted t))
noted_from n j = last_from Noted (λ t. t.number ≡ n) (noting_step n) (noted_sets n) j

-- and so does an answer that is given again
gave_sets : (c : List ℕ) (n v : ℕ) (last : Option AnsweredRow) (row : Row)
    → Sets Answered (λ a. a.origin ≡ CallOrigin c n) last row (given_step c n v last row)
gave_sets c n v last (Answered a) = elim (cases_Bool (gives c n v a)) [
  | inl is ↦ inr (a, refl, cond-true (gives c n v a) (Some a) last is, call_is c n a.origin (and_parts (is_call c n a.origin) (nat_eq a.answer_version v) is).0)
  | inr other ↦ inl (cond-false (gives c n v a) (Some a) last other)
]
gave_sets c n v last row = inl refl

pub gave_from : (c : List ℕ) (n v : ℕ) (j : List Row) → IfSome (given_at c n v j) (λ a. (a.origin ≡ CallOrigin c n) × Contains j (Answered a))
gave_from c n v j = last_from Answered (λ a. a.origin ≡ CallOrigin c n) (given_step c n v) (gave_sets c n v) j

-- a call goes to the same service for good
pub dest_stays : (n : ℕ) (j rows : List Row) (P : List ℕ → Type 0) → EachAfter SendsOn [] (j ++ rows)
    → IsSomeAnd (last_sent n j) (λ s. P s.dest) → IsSomeAnd (last_sent n (j ++ rows)) (λ s. P s.dest)
dest_stays n j rows P sends h =
    let one = some_out (last_sent n j) (λ s. P s.dest) h in
    let from = subst (λ o. IfSome o (λ s. (s.number ≡ n) × Contains j (Sent s))) one.1 (sent_from n j) in
    let later = sent_before one.0 (j ++ rows) sends (Contains-append_left j rows (Sent one.0) from.1) in
    let L : ℕ → Type 0 = λ k. IsSomeAnd (last_sent k (j ++ rows)) (λ s. P s.dest) in
    subst L from.0 (moved one.0 (last_sent (one.0).number (j ++ rows)) later one.2)
  where
    moved : (s : SentRow) (o : Option SentRow) → IsSomeAnd o (IsSentBefore s) → P s.dest → IsSomeAnd o (λ l. P l.dest)
    moved s None same p = absurd same
    moved s (Some l) same p = subst P same.dest p

-- ---- journals of services that grew

pub has_still : (old new : List Kept) → Grew old new → (name : List ℕ) (P : List Row → Type 0) → ((j rows : List Row) → P j → P (j ++ rows))
    → JournalOf old name P → JournalOf new name P
has_still old new g name P more h =
    let one = some_out (service_of name old) (λ x. P x.journal) h in
    let now = g name one.0 one.1 in
    let there : P (now.0).journal = subst P (sym now.2.is) (more (one.0).journal now.2.rows one.2) in
    let Q : Option Kept → Type 0 = λ o. IsSomeAnd o (λ x. P x.journal) in
    subst Q (sym now.1) there

dest_still : (old new : List Kept) → Grew old new → (o : Option SentRow) (P : List Row → Type 0) → ((j rows : List Row) → P j → P (j ++ rows))
    → IsSomeAnd o (λ s. JournalOf old s.dest P) → IsSomeAnd o (λ s. JournalOf new s.dest P)
dest_still old new g None P more h = h
dest_still old new g (Some s) P more h = has_still old new g s.dest P more h

-- a row's partner is there still
pub partner_still : (old new : List Kept) → Grew old new → (s : Kept) (row : Row) → HasPartner old s row → HasPartner new s row
partner_still old new g s (Took t) h =
    has_still old new g t.caller (HasSent (me s) t.number t.version t.desired) (sent_more (me s) t.number t.version t.desired) h
partner_still old new g s (SawAck a) h =
    dest_still old new g (last_sent a.number s.journal) (HasAcknowledged (me s) a.number a.version a.how) (acknowledged_more (me s) a.number a.version a.how) h
partner_still old new g s (Noted t) h =
    dest_still old new g (last_sent t.number s.journal) (HasGiven (me s) t.number t.answer_version) (given_more (me s) t.number t.answer_version) h
partner_still old new g s (SawAnswer a) h =
    dest_still old new g (last_sent a.number s.journal) (HasAnswered (me s) a.number a.answer_version a.version a.response)
    (answered_more (me s) a.number a.answer_version a.version a.response) h
partner_still old new g s (WasConfirmed c) h =
    has_still old new g c.caller (HasConfirmed c.number c.answer_version) (confirmed_more c.number c.answer_version) h
partner_still old new g s row h = h

-- it is there when the row's own journal grows, too
pub partner_grown : (services : List Kept) (s t : Kept) → Grows s t → EachAfter SendsOn [] t.journal → (row : Row) → HasPartner services s row → HasPartner services t row
partner_grown services s t g sends row h = grown row (subst (λ m. Partner m s.journal row) (sym (same_name s t g)) h)
  where
    -- what HasPartner reads of a service
    Partner : List ℕ → List Row → Row → Type 0
    Partner m j (Took t) = JournalOf services t.caller (HasSent m t.number t.version t.desired)
    Partner m j (SawAck a) = IsSomeAnd (last_sent a.number j) (λ sent. JournalOf services sent.dest (HasAcknowledged m a.number a.version a.how))
    Partner m j (Noted n) = IsSomeAnd (last_sent n.number j) (λ sent. JournalOf services sent.dest (HasGiven m n.number n.answer_version))
    Partner m j (SawAnswer a) = IsSomeAnd (last_sent a.number j) (λ sent. JournalOf services sent.dest (HasAnswered m a.number a.answer_version a.version a.response))
    Partner m j (WasConfirmed c) = JournalOf services c.caller (HasConfirmed c.number c.answer_version)
    Partner m j row = Unit {0}

    longer : (n : ℕ) (P : List ℕ → Type 0) → IsSomeAnd (last_sent n s.journal) (λ x. P x.dest) → IsSomeAnd (last_sent n t.journal) (λ x. P x.dest)
    longer n P h =
        let S : List Row → Type 0 = λ j. EachAfter SendsOn [] j in
        let L : List Row → Type 0 = λ j. IsSomeAnd (last_sent n j) (λ x. P x.dest) in
        subst L (sym g.is) (dest_stays n s.journal g.rows P (subst S g.is sends) h)

    grown : (row : Row) → Partner (me t) s.journal row → HasPartner services t row
    grown (Took k) h = h
    grown (SawAck a) h = longer a.number (λ dest. JournalOf services dest (HasAcknowledged (me t) a.number a.version a.how)) h
    grown (Noted n) h = longer n.number (λ dest. JournalOf services dest (HasGiven (me t) n.number n.answer_version)) h
    grown (SawAnswer a) h = longer a.number (λ dest. JournalOf services dest (HasAnswered (me t) a.number a.answer_version a.version a.response)) h
    grown (WasConfirmed c) h = h
    grown row h = tt

-- ---- packets and flights

module _ (old new : List Kept) (g : Grew old new) where
  pub sent_still : (set : SetMessage) → WasSent old set → WasSent new set
  sent_still set h =
      has_still old new g set.caller (HasSent set.dest set.number set.version set.desired) (sent_more set.dest set.number set.version set.desired) h

  call_still : (name : List ℕ) (set : SetMessage) → CallStands old name set → CallStands new name set
  call_still name set h = record { caller = h.caller; first = h.first; asks = h.asks; sent = sent_still set h.sent }

  post_still : (post : Post) → PostStands old post → PostStands new post
  post_still (SetPost set) h = sent_still set h
  post_still (TokenPost t) h = has_still old new g t.callee (HasGiven t.caller t.number t.answer_version) (given_more t.caller t.number t.answer_version) h
  post_still (FetchPost f) h = has_still old new g f.caller (WasNoted f.number f.answer_version) (noted_more f.number f.answer_version) h

  answer_still : (a : AnswerMessage) → WasAnswered old a → WasAnswered new a
  answer_still a h =
      has_still old new g a.callee (HasAnswered a.caller a.number a.answer_version a.version a.response)
      (answered_more a.caller a.number a.answer_version a.version a.response) h

  reply_still : (name : List ℕ) (reply : Live) → ReplyStands old name reply → ReplyStands new name reply
  reply_still name (Answer a) h = (h.0, answer_still a h.1)
  reply_still name (Refused word n) h = tt

  post_reply_still : (post : Post) (reply : PostReply) → PostReplyStands old post reply → PostReplyStands new post reply
  post_reply_still post (Acked ack) h =
      has_still old new g ack.dest (HasAcked ack.caller ack.number ack.version) (acked_more ack.caller ack.number ack.version) h
  post_reply_still post (Confirmed c) h =
      has_still old new g c.caller (HasConfirmed c.number c.answer_version) (confirmed_more c.number c.answer_version) h
  post_reply_still post (Given a) h =
      has_still old new g a.callee (HasAnswered (sender post) a.number a.answer_version a.version a.response)
      (answered_more (sender post) a.number a.answer_version a.version a.response) h
  post_reply_still post reply h = tt

  pub packet_still : (p : Packet) → PacketStands old p → PacketStands new p
  packet_still (Call from flight set) h = call_still from set h
  packet_still (CallReply to flight call_number reply) h = reply_still to reply h
  packet_still (PostPacket post) h = post_still post h
  packet_still (PostReplyPacket post reply) h = (post_still post h.0, post_reply_still post reply h.1)

  pub origin_still : (name : List ℕ) (o : Origin) (q : Request) → OriginStands old name o q → OriginStands new name o q
  origin_still name Outside q h = tt
  origin_still name (CallOrigin c n) q h = has_still old new g c (HasSent name n 1 (Some q)) (sent_more name n 1 (Some q)) h
