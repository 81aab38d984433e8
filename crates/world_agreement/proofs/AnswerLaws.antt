-- Where nothing is outstanding, what a call consumes is the response of its entry.
use Rattle.std.proofs.Common.{◌≡◌, ℕ, ◌<◌, ◌≤◌, Bool, true, false, ◌&&◌, not, List, Option, Some, None, IsSomeAnd, IfSome, Contains, find, is_some, max, nat_eq, nat_lt, option_map, subst, sym, ap, refl, arith, ◌∙◌, eqb-true, eq-eqb, ltb-false}
use Rattle.std.proofs.lemmas.Bool.{cond-true}
use Rattle.lang_core.specs.declared.ids.Origin.TheVariants.{Call}
use Rattle.lang_core.specs.declared.request.Request.{Request}
use Rattle.request_log.specs.Entries.{has_id}
use Rattle.request_log.specs.Records.{record_in}
use Rattle.request_log.specs.declared.entry.Entry.{Entry}
use Rattle.request_log.specs.declared.entry.Made.{Made}
use Rattle.journal_rows.specs.Words.{asked, last_seen, seen_version, claimed, last_noted, noted_version, confirmed_version, acknowledged, last_answered, given_version, last_mark, settles}
use Rattle.journal_rows.specs.declared.callee.AnsweredRow.{AnsweredRow}
use Rattle.journal_rows.specs.declared.callee.AskedRow.{AskedRow}
use Rattle.journal_rows.specs.declared.caller.AckHow.{AckHow}
use Rattle.journal_rows.specs.declared.caller.AckHow.TheVariants.{WithAnswer, ToPost}
use Rattle.journal_rows.specs.declared.caller.SawAnswerRow.{SawAnswerRow}
use Rattle.journal_rows.specs.declared.row.Row.{Row}
use Rattle.journal_rows.specs.declared.row.Row.TheVariants.{Answered, WasConfirmed, SawAck, SawAnswer}
use Rattle.journal_rows.specs.declared.words.Mark.{Mark}
use Rattle.journal_rows.specs.declared.words.Mark.TheVariants.{Unsettled, AnsweredLive, ConfirmedAt}
use Rattle.call_registers.specs.Registers.{has_number, register, answer_to, consumed_in, consumed, held_version, owes_fetch}
use Rattle.call_registers.specs.declared.register.Answer.{Answer}
use Rattle.call_registers.specs.declared.register.Register.{Register}
use Rattle.call_registers.specs.declared.reply.Reply.{Reply}
use Rattle.service_events.specs.State.{Kept, me}
use Rattle.service_events.specs.Fits.{Fits, HasAnswered as HasItsAnswer, HasReply, IsReply, answer_recorded, answer_given}
use Rattle.service_events.specs.Calls.{seen_answer}
use Rattle.service_events.proofs.NoteLemmas.{noted_is, held_is}
use Rattle.service_events.proofs.SearchLemmas.{found_all}
use Rattle.world_agreement.specs.Partners.{service_of, JournalOfDest, HasAnswered, HasConfirmed, HasAcknowledged}
use Rattle.world_agreement.specs.Quiet.{IsQuiet}
use Rattle.world_agreement.proofs.EntryFacts.{begun, Entered, same_entry}
use Rattle.world_agreement.proofs.SentFacts.{claimed_live, confirmed_within, seen_from}
use Rattle.world_agreement.proofs.TakenFacts.{acked_within}
use Rattle.world_agreement.proofs.AnswerFacts.{IsGivenBefore, given_before, given_positive, given_asked, given_from}
use Rattle.world_agreement.proofs.MarkFacts.{ConfirmedFrom, confirmed_from, IsFirstAnswer, marks}
use Rattle.world_agreement.proofs.Settled.{AreAtRest, fits_of, quiet_of, partner, in_journal, version_positive, has_seen, at_dest, Settled}

-- ---- a reply that isn't due

reply_settled : (wanted settled due : Bool) → wanted ≡ true → due ≡ false → due ≡ (wanted && not settled) → settled ≡ true
reply_settled wanted true due w d is = refl
reply_settled true false due w d is = cc
reply_settled false false due w d is = cc

reply_of : (journal : List Row) (c : List ℕ) (n : ℕ) (e : Entry) (o : Option Reply) → IsSomeAnd o (IsReply journal c n e) → IfSome o (λ p. p.due ≡ false) → e.wanted ≡ true
    → settles e.answer_version (last_mark e.id c n journal) ≡ true
reply_of journal c n e None h given wanted = absurd h
reply_of journal c n e (Some p) h given wanted = reply_settled e.wanted (settles e.answer_version (last_mark e.id c n journal)) p.due wanted given h.due

if_found : {X : Type 0} (P : X → Type 0) (o : Option X) → ((x : X) → o ≡ Some x → P x) → IfSome o P
if_found P None h = tt
if_found P (Some x) h = h x refl

mark_settles : (t : Kept) → Fits t → IsQuiet t → (c : List ℕ) (n : ℕ) (e : Entry) → find (has_id e.id) t.entries ≡ Some e → e.origin ≡ Call c n → e.wanted ≡ true
    → settles e.answer_version (last_mark e.id c n t.journal) ≡ true
mark_settles t fits quiet c n e found from wanted =
    let replied : HasReply t.journal t.replies e e.origin = found_all (λ x. HasReply t.journal t.replies x x.origin) (has_id e.id) t.entries e fits.replies.entries found in
    let reply = find (λ (p : Reply). nat_eq p.id e.id) t.replies in
    reply_of t.journal c n e reply (subst (HasReply t.journal t.replies e) from replied)
    (if_found (λ p. p.due ≡ false) reply (λ p is. found_all (λ (x : Reply). x.due ≡ false) (λ (x : Reply). nat_eq x.id e.id) t.replies p quiet.given is)) wanted

-- ---- the last answer of an entry

-- the entry's record and its last answer
pub record LastGiven (t : Kept) (e : Entry) (m : Made) : Type 0 where
  pub row : AnsweredRow
  pub is : last_answered e.id t.journal ≡ Some row
  pub answer_version : row.answer_version ≡ e.answer_version
  pub version : row.version ≡ m.version
  pub response : row.response ≡ m.trace.response

last_given_by : (t : Kept) (e : Entry) (m : Made) (o : Option AnsweredRow) → last_answered e.id t.journal ≡ o
    → Some (answer_recorded e.answer_version (record_in m)) ≡ option_map answer_given o → LastGiven t e m
last_given_by t e m None is h = cc
last_given_by t e m (Some row) is h =
    let same : answer_recorded e.answer_version (record_in m) ≡ answer_given row = cc in
    record {
      row = row;
      is = is;
      answer_version = sym (ap (λ (a : Answer). a.answer_version) same);
      version = sym (ap (λ (a : Answer). a.version) same);
      response = sym (ap (λ (a : Answer). a.response) same);
    }

last_given : (t : Kept) → Fits t → (e : Entry) → find (has_id e.id) t.entries ≡ Some e → (m : Made) → e.made ≡ Some m → LastGiven t e m
last_given t fits e found m made =
    let has = found_all (HasItsAnswer t.journal) (has_id e.id) t.entries e fits.answered.entries found in
    last_given_by t e m (last_answered e.id t.journal) refl
    (sym (ap (λ o. option_map (answer_recorded e.answer_version) (option_map record_in o)) made) ∙ has.answer)

-- ---- the last answer that was seen

answer_agrees : (r : Register) (held : Option SawAnswerRow) (last : AnsweredRow) → r.answer ≡ option_map seen_answer held → 0 < last.answer_version
    → last.answer_version ≤ seen_version held
    → IfSome held (λ a. (a.answer_version ≤ last.answer_version) × (a.answer_version ≡ last.answer_version → (a.version ≡ last.version) × (a.response ≡ last.response)))
    → last.version ≡ r.version → consumed_in (Some r) ≡ Some last.response
answer_agrees r None last is positive above within version = absurd (omega (arith, positive, above))
answer_agrees r (Some a) last is positive above within version =
    let same = within.1 (let below = within.0 in omega (arith, above, below)) in
    ap (answer_to r.version) is
    ∙ cond-true (nat_eq a.version r.version) (Some a.response) None (eq-eqb a.version r.version (same.0 ∙ version)) ∙ ap Some same.1

-- what was announced to a call that is wanted is held, where no fetch is owed
fetched_all : (r : Register) (q : Request) → r.desired ≡ Some q → owes_fetch r ≡ false → r.noted ≤ held_version r.answer
fetched_all r q wants none =
    ltb-false (held_version r.answer) r.noted (subst (λ o. (is_some o && nat_lt (held_version r.answer) r.noted) ≡ false) wants none)

module _ (services : List Kept) (h : AreAtRest services) (s : Kept) (here : service_of (me s) services ≡ Some s) (n : ℕ) (r : Register)
    (found : register n s.registers ≡ Some r) (z : Settled services h s here n r found) (q : Request) (wants : r.desired ≡ Some q)
    (e : Entered z.callee (fits_of services h.together r.dest z.callee z.there) (me s) n z.last z.taken q (z.desired ∙ wants)) where
  fits : Fits z.callee
  fits = fits_of services h.together r.dest z.callee z.there

  -- the caller saw the live answer with the acknowledgement
  heard_live : acknowledged (me s) n z.callee.journal ≡ 0 → (how : AckHow) → Contains s.journal (SawAck (record { number = n; version = r.version; how = how }))
      → HasAcknowledged (me s) n r.version how z.callee.journal → 1 ≤ claimed n s.journal
  heard_live none (WithAnswer v) saw by =
      let row = by.1 in
      let one = given_positive (record { id = row.0; origin = Call (me s) n; answer_version = v; version = r.version; response = by.0; live = row.1 }) z.callee.journal
      fits.answered.rows row.2 in
      let claim = claimed_live n r.version v s.journal saw in
      omega (arith, one, claim)
  heard_live none ToPost saw by =
      let some = acked_within (me s) n r.version z.callee.journal by in
      let positive = version_positive services h.together s here n r found in
      absurd (omega (arith, some, none, positive))

  -- the caller was told of the entry's last answer
  heard_last : (row : AnsweredRow) → last_answered e.entry.id z.callee.journal ≡ Some row → row.answer_version ≡ e.entry.answer_version
      → (mark : Mark) → last_mark e.entry.id (me s) n z.callee.journal ≡ mark → settles e.entry.answer_version mark ≡ true → row.answer_version ≤ max (claimed n s.journal) (confirmed_version n s.journal)
  heard_last row last same AnsweredLive is yes' =
      let k = marks e.entry.id (me s) n z.callee.journal fits.taken fits.answered.rows in
      let first = first_answer (asked e.entry.id z.callee.journal) (k.marked is) (asked_origin (asked e.entry.id z.callee.journal) refl) in
      let one : given_version (Some row) ≡ 1 = ap given_version (sym last) ∙ first.given in
      let claim = heard_live first.acked z.how z.saw z.acknowledged in
      omega (arith, one, claim)
    where
      first_answer : (o : Option AskedRow) → IsSomeAnd o (λ made. made.origin ≡ Call (me s) n → IsFirstAnswer (acknowledged (me s) n z.callee.journal) (given_version (last_answered e.entry.id z.callee.journal)))
          → IfSome o (λ made. made.origin ≡ Call (me s) n) → IsFirstAnswer (acknowledged (me s) n z.callee.journal) (given_version (last_answered e.entry.id z.callee.journal))
      first_answer None k from = absurd k
      first_answer (Some a) k from = k from

      asked_origin : (o : Option AskedRow) → asked e.entry.id z.callee.journal ≡ o → IfSome o (λ made. made.origin ≡ Call (me s) n)
      asked_origin o is =
          let b = begun z.callee fits e.entry e.by_id in
          subst (λ x. IfSome x (λ made. made.origin ≡ Call (me s) n)) (sym b.is ∙ is) (b.origin ∙ e.origin)
  heard_last row last same (ConfirmedAt v) is yes' =
      let was = subst (ConfirmedFrom (me s) n z.callee.journal) is (confirmed_from e.entry.id (me s) n z.callee.journal) in
      let confirmed = in_journal services h.together (me s) s here (HasConfirmed n v)
      (partner services h.together r.dest z.callee z.there (WasConfirmed (record { caller = me s; number = n; answer_version = v })) was) in
      let claim = confirmed_within n v s.journal confirmed in
      let it : v ≡ e.entry.answer_version = eqb-true v e.entry.answer_version yes' in
      omega (arith, claim, it, same)
  heard_last row last same Unsettled is yes' = cc

  -- and so saw it
  told_seen : seen_version (last_seen n s.journal) ≡ held_version r.answer → noted_version (last_noted n s.journal) ≡ r.noted → r.noted ≤ held_version r.answer
      → (v : ℕ) → v ≤ max (claimed n s.journal) (confirmed_version n s.journal) → v ≤ seen_version (last_seen n s.journal)
  told_seen held noted fetched v within =
      let seen = (fits_of services h.together (me s) s here).seen in
      let heard : claimed n s.journal ≤ seen_version (last_seen n s.journal) = seen.heard n in
      let told : confirmed_version n s.journal ≤ max (seen_version (last_seen n s.journal)) (noted_version (last_noted n s.journal)) = seen.told n in
      omega (arith, held, noted, fetched, within, heard, told)

  -- the answer that the caller saw last was given by the entry
  seen_within : (row : AnsweredRow) → last_answered e.entry.id z.callee.journal ≡ Some row → (held : Option SawAnswerRow) → IfSome held (λ a. (a.number ≡ n) × Contains s.journal (SawAnswer a))
      → IfSome held (λ a. (a.answer_version ≤ row.answer_version) × (a.answer_version ≡ row.answer_version → (a.version ≡ row.version) × (a.response ≡ row.response)))
  seen_within row last None from = tt
  seen_within row last (Some a) from =
      let P : List Row → Type 0 = HasAnswered (me s) n a.answer_version a.version a.response in
      let At : ℕ → Type 0 = λ m. JournalOfDest services s m (HasAnswered (me s) m a.answer_version a.version a.response) in
      let dest = at_dest services h.together s here n r found P (subst At from.0 (partner services h.together (me s) s here (SawAnswer a) from.1)) in
      let both : Some dest.0 ≡ Some z.callee = sym dest.1 ∙ z.there in
      let it : dest.0 ≡ z.callee = cc in
      let given = subst (λ (t : Kept). P t.journal) it dest.2 in
      let answered : AnsweredRow = record { id = given.0; origin = Call (me s) n; answer_version = a.answer_version; version = a.version; response = a.response; live = given.1 } in
      let number : given.0 ≡ e.entry.id = same_entry z.callee fits (me s) n given.0 e.entry e.found (given_asked answered z.callee.journal fits.answered.rows given.2) in
      let before = given_before answered z.callee.journal fits.answered.rows given.2 in
      let mine = subst (λ o. IsSomeAnd o (IsGivenBefore answered)) (ap (λ i. last_answered i z.callee.journal) number ∙ last) before in
      (mine.answer_version, mine.same)

  pub consumes : (m : Made) → e.entry.made ≡ Some m → m.version ≡ e.entry.version → consumed n s.registers ≡ Some m.trace.response
  consumes m made now =
      let last = last_given z.callee fits e.entry e.by_id m made in
      let quiet = quiet_of services h r.dest z.callee z.there in
      let mark = mark_settles z.callee fits quiet (me s) n e.entry e.by_id e.origin e.wanted in
      let claim = heard_last last.row last.is last.answer_version (last_mark e.entry.id (me s) n z.callee.journal) refl mark in
      let seen = has_seen services h.together s here n r found in
      let none = found_all (λ (x : Register). owes_fetch x ≡ false) (has_number n) s.registers r (quiet_of services h (me s) s here).fetched found in
      let heard = told_seen (held_is r.answer (last_seen n s.journal) seen.answer) (noted_is (last_noted n s.journal) r seen.noted) (fetched_all r q wants none) last.row.answer_version claim in
      let row = subst (λ o. IfSome o (λ a. (a.id ≡ e.entry.id) × Contains z.callee.journal (Answered a))) last.is (given_from e.entry.id z.callee.journal) in
      let positive = given_positive last.row z.callee.journal fits.answered.rows row.1 in
      let within = seen_within last.row last.is (last_seen n s.journal) (seen_from n s.journal) in
      let agrees = answer_agrees r (last_seen n s.journal) last.row seen.answer positive heard within
      (last.version ∙ now ∙ e.version ∙ z.version) in
      ap consumed_in found ∙ agrees ∙ ap Some last.response
