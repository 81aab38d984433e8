-- In a world in which nothing is repaired, a call whose answer was seen consumes the response of its callee's one entry.
use Rattle.std.proofs.Common.{◌≡◌, ℕ, ◌<◌, ◌⊎◌, ◌||◌, Bool, true, false, List, [], Option, Some, None, IsSome, IfSome, IsSomeAnd, All, Contains, nat_eq, option_map, is_some, inl, inr, refl, sym, ap, ◌∙◌, subst, arith, eqb-true, eq-eqb}
use Rattle.std.proofs.lemmas.Bool.{cond-true}
use Rattle.std.proofs.lemmas.List.Elements.{All-contains}
use Rattle.lang_core.specs.declared.ids.Origin.TheVariants.{Call}
use Rattle.lang_core.specs.declared.request.Request.{Request}
use Rattle.lang_core.specs.declared.trace.CallMade.{CallMade}
use Rattle.request_log.specs.Entries.{has_id, find_call}
use Rattle.request_log.specs.Records.{record_in}
use Rattle.request_log.specs.declared.entry.Entry.{Entry}
use Rattle.request_log.specs.declared.entry.Made.{Made as EntryMade}
use Rattle.journal_rows.specs.Words.{last_sent, last_seen, last_noted, seen_acked, last_taken, last_answered}
use Rattle.journal_rows.specs.declared.callee.AnsweredRow.{AnsweredRow}
use Rattle.journal_rows.specs.declared.callee.TookRow.{TookRow}
use Rattle.journal_rows.specs.declared.caller.SawAnswerRow.{SawAnswerRow}
use Rattle.journal_rows.specs.declared.caller.SentRow.{SentRow}
use Rattle.journal_rows.specs.declared.row.Row.{Row}
use Rattle.journal_rows.specs.declared.row.Row.TheVariants.{Took, Answered, SawAnswer}
use Rattle.call_registers.specs.Registers.{register, consumed, consumed_in, answer_to}
use Rattle.call_registers.specs.declared.register.Answer.{Answer}
use Rattle.call_registers.specs.declared.register.Register.{Register}
use Rattle.service_events.specs.Fits.{EachAfter, TakesOn, AnswersOn, Fits, HasAnswered as HasItsAnswer, answer_made, answer_recorded, answer_given, sent_by, call_to, call_in, wanted_call, HasSeen}
use Rattle.service_events.specs.State.{Kept, me}
use Rattle.service_events.specs.Calls.{seen_answer}
use Rattle.service_events.proofs.SearchLemmas.{found_all}
use Rattle.world_agreement.specs.Partners.{has_name, service_of, JournalOf, HasSent, HasAnswered, HasPartner}
use Rattle.world_agreement.proofs.AnswerFacts.{IsGivenBefore, given_before, given_from}
use Rattle.world_agreement.proofs.EntryFacts.{entered}
use Rattle.world_agreement.proofs.Histories.{once_come}
use Rattle.world_agreement.proofs.ListLemmas.{some_out, found_passes}
use Rattle.world_agreement.proofs.NameLemmas.{name_is, only_one}
use Rattle.world_agreement.proofs.SentFacts.{IsSentBefore, sent_before, seen_from}
use Rattle.world_agreement.proofs.TakenFacts.{taken_from}
use Rattle.world_events.specs.Live.{IsAnswered, IsTold, IsLiveRow, IsCallOver, IsLive, is_call_over}
use Rattle.world_events.specs.Sound.{AreSound}
use Rattle.world_events.specs.declared.packet.Packet.{Packet}
use Rattle.world_laws.proofs.AnswerFacts.{IsOfCall, of_call, taken_there}
use Rattle.world_laws.proofs.LiveLaws.{wanted_first}

-- a live answer is the first of its entry
live_first : (a : AnsweredRow) (journal : List Row) → EachAfter AnswersOn [] journal → Contains journal (Answered a) → a.live ≡ true → a.answer_version ≡ 1
live_first a journal follows has =
    once_come AnswersOn (λ (u : Unit {0}) row. tt) tt (Answered a) (λ _. a.live ≡ true → a.answer_version ≡ 1) (λ before f live. (f.2 live).0)
    (λ before row f q. q) journal follows has

-- a version that was taken is above 0
took_positive : (t : TookRow) (journal : List Row) → EachAfter TakesOn [] journal → Contains journal (Took t) → 0 < t.version
took_positive t journal follows has =
    once_come TakesOn (λ (u : Unit {0}) row. tt) tt (Took t) (λ _. 0 < t.version) (λ before f. (let more = f.0 in omega (arith, more)))
    (λ before row f q. q) journal follows has

module _ (services : List Kept) (packets : List Packet) (h : AreSound services packets) (lives : All IsLive services) where
  fits_of : (name : List ℕ) (k : Kept) → service_of name services ≡ Some k → Fits k
  fits_of name k there = found_all Fits (has_name name) services k h.fits there

  live_of : (name : List ℕ) (k : Kept) → service_of name services ≡ Some k → IsLive k
  live_of name k there = found_all IsLive (has_name name) services k lives there

  partner_of : (name : List ℕ) (k : Kept) → service_of name services ≡ Some k → (row : Row) → Contains k.journal row → HasPartner services k row
  partner_of name k there row has =
      All-contains (HasPartner services k) k.journal row (found_all (λ x. All (HasPartner services x) x.journal) (has_name name) services k h.joined there) has

  module _ (name : List ℕ) (s : Kept) (here : service_of name services ≡ Some s) where
    fits : Fits s
    fits = fits_of name s here

    live : IsLive s
    live = live_of name s here

    own : service_of (me s) services ≡ Some s
    own = ap (λ n. service_of n services) (name_is name services s here) ∙ here

    -- ---- what a version that was taken asks

    took_asks : (n : ℕ) (r : Register) → register n s.registers ≡ Some r → r.version ≡ 1 → (k : Kept) (t : TookRow) → HasPartner services k (Took t) → t.caller ≡ me s → t.number ≡ n
        → 0 < t.version → t.desired ≡ r.desired
    took_asks n r found first k t partner caller number positive =
        let J : List ℕ → Type 0 = λ c. JournalOf services c (HasSent (me k) t.number t.version t.desired) in
        let mine = subst (λ o. IsSomeAnd o (λ x. HasSent (me k) t.number t.version t.desired x.journal)) own (subst J caller partner) in
        let row : SentRow = record { number = t.number; dest = me k; version = t.version; desired = t.desired } in
        let before = sent_before row s.journal fits.sent.rows mine in
        let last : last_sent t.number s.journal ≡ Some (sent_by r) =
        ap (λ m. last_sent m s.journal) number ∙ sym (sym (ap (option_map sent_by) found) ∙ fits.sent.registers n) in
        let is = subst (λ o. IsSomeAnd o (IsSentBefore row)) last before in
        let most = is.version in
        is.desired (omega (arith, most, first, positive))

    -- ---- the callee's entry

    module _ (n : ℕ) (c : CallMade) (r : Register) (found : register n s.registers ≡ Some r) (wanted : wanted_call s.registers n ≡ Some c)
        (k : Kept) (there : service_of c.dest services ≡ Some k) (row : AnsweredRow) (from : row.origin ≡ Call (me s) n) (has : Contains k.journal (Answered row)) where
      theirs : Fits k
      theirs = fits_of c.dest k there

      row_live : (a : AnsweredRow) → Contains k.journal (Answered a) → a.live ≡ true
      row_live a at = All-contains IsLiveRow k.journal (Answered a) (live_of c.dest k there).rows at

      row_first : (a : AnsweredRow) → Contains k.journal (Answered a) → a.answer_version ≡ 1
      row_first a at = live_first a k.journal theirs.answered.rows at (row_live a at)

      -- the entry of this call
      made : IsOfCall k row.id (me s) n
      made = of_call k theirs row (me s) n from has

      request_is : made.entry.request ≡ c.request
      request_is =
          let some = (theirs.asked.calls (me s) n).0 (ap is_some made.by_call) in
          let t = taken_there (me s) n k.journal (last_taken (me s) n k.journal) refl some in
          let at = subst (λ o. IfSome o (λ x. ((x.caller ≡ me s) × (x.number ≡ n)) × Contains k.journal (Took x))) t.1 (taken_from (me s) n k.journal) in
          let positive = took_positive t.0 k.journal theirs.taken at.1 in
          let first = wanted_first s fits live n r found c wanted in
          let asks : t.0.desired ≡ r.desired = took_asks n r found first k t.0 (partner_of c.dest k there (Took t.0) at.1) at.0.0 at.0.1 positive in
          let q : r.desired ≡ Some c.request = desired_is r.desired (sym (ap call_in found) ∙ wanted) in
          let wants : t.0.desired ≡ Some c.request = asks ∙ q in
          let e = entered k theirs (me s) n t.0 t.1 c.request wants in
          same_request (find_call (Call (me s) n) k.entries) made.entry e.entry made.by_call e.found e.request
        where
          same_request : (o : Option Entry) (x y : Entry) → o ≡ Some x → o ≡ Some y → y.request ≡ c.request → x.request ≡ c.request
          same_request None x y a b is = cc
          same_request (Some z) x y a b is =
              (let one : z ≡ x = cc in let other : z ≡ y = cc in sym (ap (λ (e : Entry). e.request) one) ∙ ap (λ (e : Entry). e.request) other ∙ is)

          desired_is : (d : Option Request) → call_to r.dest d ≡ Some c → d ≡ Some c.request
          desired_is None e = cc
          desired_is (Some q) e = (let same : record { dest = r.dest; request = q } ≡ c = cc in ap (λ (x : CallMade). Some x.request) same)

      -- the entry's record has the response of this answer
      response_is : (m : Option EntryMade) → made.entry.made ≡ m
          → (x : EntryMade) × (made.entry.made ≡ Some x) × (row.response ≡ x.trace.response)
      response_is m is = by_last (last_answered row.id k.journal) refl (given_before row k.journal theirs.answered.rows has) m is
        where
          e : Entry
          e = made.entry

          id : e.id ≡ row.id
          id = eqb-true e.id row.id (found_passes (has_id row.id) k.entries e made.by_id)

          answer : answer_made e ≡ option_map answer_given (last_answered row.id k.journal)
          answer =
              (found_all (HasItsAnswer k.journal) (has_id row.id) k.entries e theirs.answered.entries made.by_id).answer
              ∙ ap (λ i. option_map answer_given (last_answered i k.journal)) id

          by_last : (o : Option AnsweredRow) → last_answered row.id k.journal ≡ o → IsSomeAnd o (IsGivenBefore row) → (m : Option EntryMade) → e.made ≡ m
              → (x : EntryMade) × (e.made ≡ Some x) × (row.response ≡ x.trace.response)
          by_last None last before m is = absurd before
          by_last (Some l) last before None is =
              (let none : None ≡ Some (answer_given l) =
              sym (ap (λ o. option_map (answer_recorded e.answer_version) (option_map record_in o)) is) ∙ answer ∙ ap (option_map answer_given) last in cc)
          by_last (Some l) last before (Some x) is =
              let at = subst (λ o. IfSome o (λ a. (a.id ≡ row.id) × Contains k.journal (Answered a))) last (given_from row.id k.journal) in
              let one = row_first row has in
              let other = row_first l at.1 in
              let same = before.same (one ∙ sym other) in
              let both : Some (answer_recorded e.answer_version (record_in x)) ≡ Some (answer_given l) =
              sym (ap (λ o. option_map (answer_recorded e.answer_version) (option_map record_in o)) is) ∙ answer ∙ ap (option_map answer_given) last in
              let equal : answer_recorded e.answer_version (record_in x) ≡ answer_given l = cc in
              (x, is, same.1 ∙ sym (ap (λ (y : Answer). y.response) equal))

    -- ---- a call of this service

    -- the last answer that was seen of it
    answer_row : (n : ℕ) (r : Register) → register n s.registers ≡ Some r → (a : Answer) → r.answer ≡ Some a
        → (x : SawAnswerRow) × (x.number ≡ n) × Contains s.journal (SawAnswer x) × (seen_answer x ≡ a)
    answer_row n r found a is =
        let seen = subst (λ o. IfSome o (λ y. y.answer ≡ option_map seen_answer (last_seen n s.journal))) found (answers (register n s.registers) (fits.seen.registers n)) in
        by_last (last_seen n s.journal) (seen_from n s.journal) (sym is ∙ seen)
      where
        answers : (o : Option Register) → IfSome o (HasSeen (seen_acked n s.journal) (option_map seen_answer (last_seen n s.journal)) (last_noted n s.journal))
            → IfSome o (λ y. y.answer ≡ option_map seen_answer (last_seen n s.journal))
        answers None h = tt
        answers (Some y) h = h.answer

        by_last : (o : Option SawAnswerRow) → IfSome o (λ x. (x.number ≡ n) × Contains s.journal (SawAnswer x)) → Some a ≡ option_map seen_answer o → (x : SawAnswerRow) × (x.number ≡ n) × Contains s.journal (SawAnswer x) × (seen_answer x ≡ a)
        by_last None from e = cc
        by_last (Some x) from e = (let same : seen_answer x ≡ a = cc in (x, from.0, from.1, same))

    answered : (n : ℕ) (c : CallMade) (r : Register) → register n s.registers ≡ Some r → wanted_call s.registers n ≡ Some c → (a : Answer) → r.answer ≡ Some a → IsAnswered services s n c
    answered n c r found wanted a is =
        let x = answer_row n r found a is in
        let version : a.version ≡ 1 = sym (ap (λ (y : Answer). y.version) x.3) ∙ All-contains IsLiveRow s.journal (SawAnswer x.0) live.rows x.2 in
        let last : last_sent (x.0).number s.journal ≡ Some (sent_by r) =
        ap (λ m. last_sent m s.journal) x.1 ∙ sym (sym (ap (option_map sent_by) found) ∙ fits.sent.registers n) in
        let P : List Row → Type 0 = HasAnswered (me s) (x.0).number (x.0).answer_version (x.0).version (x.0).response in
        let said = subst (λ o. IsSomeAnd o (λ y. JournalOf services y.dest P)) last (partner_of name s here (SawAnswer x.0) x.2) in
        let callee = some_out (service_of r.dest services) (λ k. P k.journal) said in
        let dest : r.dest ≡ c.dest = dest_is r.desired (sym (ap call_in found) ∙ wanted) in
        let there : service_of c.dest services ≡ Some callee.0 = ap (λ d. service_of d services) (sym dest) ∙ callee.1 in
        let row : AnsweredRow = record {
          id = callee.2.0;
          origin = Call (me s) (x.0).number;
          answer_version = (x.0).answer_version;
          version = (x.0).version;
          response = (x.0).response;
          live = callee.2.1;
        } in
        let consumes : consumed n s.registers ≡ Some a.response =
        ap consumed_in found ∙ ap (answer_to r.version) is
        ∙ cond-true (nat_eq a.version r.version) (Some a.response) None (eq-eqb a.version r.version (version ∙ sym (wanted_first s fits live n r found c wanted))) in
        by_row callee.0 there row (ap (λ m. Call (me s) m) x.1) callee.2.2 (consumes ∙ ap (λ (y : Answer). Some y.response) (sym x.3))
      where
        by_row : (k : Kept) → service_of c.dest services ≡ Some k → (row : AnsweredRow) → row.origin ≡ Call (me s) n → Contains k.journal (Answered row)
            → consumed n s.registers ≡ Some row.response → IsAnswered services s n c
        by_row k there row from has consumes =
            let e = made n c r found wanted k there row from has in
            let response = response_is n c r found wanted k there row from has e.entry.made refl in
            record {
              callee = k;
              there = there;
              entry = e.entry;
              one = only_one (me s) n k.entries e.entry (fits_of c.dest k there).asked.distinct e.by_call;
              request = request_is n c r found wanted k there row from has;
              made = response.0;
              is = response.1;
              response = consumes ∙ ap Some response.2;
            }

        dest_is : (d : Option Request) → call_to r.dest d ≡ Some c → r.dest ≡ c.dest
        dest_is None e = cc
        dest_is (Some q) e = (let same : record { dest = r.dest; request = q } ≡ c = cc in ap (λ (x : CallMade). x.dest) same)

    told_by : (n : ℕ) (r : Register) → register n s.registers ≡ Some r → r.answer ≡ None → is_call_over r ≡ true → IsTold s n
    told_by n r found none heard = record {
      tentative = ap consumed_in found ∙ ap (answer_to r.version) none;
      told = subst (λ o. IsSomeAnd o (λ x. IsSome x.told)) (sym found) (left (is_some r.told) (subst (λ o. (is_some r.told || is_some o) ≡ true) none heard));
    }
      where
        left : (b : Bool) → (b || false) ≡ true → b ≡ true
        left true e = refl
        left false e = e

    -- a call that is wanted, and that is over, ended
    pub call_ends : (n : ℕ) (c : CallMade) → wanted_call s.registers n ≡ Some c → IsCallOver n s.registers → IsAnswered services s n c ⊎ IsTold s n
    call_ends n c wanted heard = by_register (register n s.registers) refl heard
      where
        by_answer : (r : Register) → register n s.registers ≡ Some r → is_call_over r ≡ true → (o : Option Answer) → r.answer ≡ o → IsAnswered services s n c ⊎ IsTold s n
        by_answer r found heard None is = inr (told_by n r found is heard)
        by_answer r found heard (Some a) is = inl (answered n c r found wanted a is)

        by_register : (o : Option Register) → register n s.registers ≡ o → IsSomeAnd o (λ r. is_call_over r ≡ true) → IsAnswered services s n c ⊎ IsTold s n
        by_register None found h = absurd h
        by_register (Some r) found h = by_answer r found h r.answer refl
