-- The events of live requests keep that a service's rows are live, and that each of its flights waits for one call at most.
use Rattle.std.proofs.Common.{◌≡◌, ℕ, ◌+◌, ◌≤◌, ◌<◌, ◌⊎◌, Bool, true, false, cond, List, [], ◌∷◌, Option, Some, None, IsSome, IfSome, IsSomeAnd, All, Contains, Result, Ok, Err, fold, length, max, nat_eq, option_map, is_some, ◌||◌, inl, inr, refl, sym, ap, ◌∙◌, subst, arith, eqb-true, eq-eqb}
use Rattle.std.proofs.Math.Nat.{max-eq_left, max-eq_right}
use Rattle.std.proofs.lemmas.Bool.{cases_lt, cond_both, cond-true, and_parts}
use Rattle.std.proofs.lemmas.List.Elements.{All-append, All-contains, All-weaker}
use Rattle.lang_base.specs.Texts.{same_text}
use Rattle.lang_core.specs.declared.ids.Origin.{Origin}
use Rattle.lang_core.specs.declared.ids.Origin.TheVariants.{Outside, Call}
use Rattle.lang_core.specs.declared.inputs.Inputs.{Inputs}
use Rattle.lang_core.specs.declared.request.Request.{Request}
use Rattle.lang_core.specs.declared.trace.CallMade.{CallMade}
use Rattle.request_log.specs.Entries.{find_call}
use Rattle.request_log.specs.Records.{Record, record_of}
use Rattle.request_log.specs.declared.entry.Entry.{Entry}
use Rattle.repair_messages.specs.declared.messages.AnswerMessage.{AnswerMessage}
use Rattle.journal_rows.specs.Words.{last_sent, last_taken}
use Rattle.journal_rows.specs.declared.callee.TookRow.{TookRow}
use Rattle.journal_rows.specs.declared.row.Row.{Row}
use Rattle.journal_rows.specs.declared.row.Row.TheVariants.{Asked, Took, Answered, Sent}
use Rattle.call_registers.proofs.ChangeLemmas.{none_zero}
use Rattle.call_registers.specs.Registers.{register, at_number, with_ack, with_answer, is_newer}
use Rattle.call_registers.specs.declared.register.Answer.{Answer}
use Rattle.call_registers.specs.declared.register.Register.{Register}
use Rattle.call_registers.specs.declared.register.Why.{Why}
use Rattle.flights.specs.declared.flight.Flight.{Flight}
use Rattle.service_events.specs.Arriving.{accepted, new_flight, admitted, known_by, arrives_or_known, by_version, unless_gone, arrive_event, answers_register, is_for, is_new_to, seen_live, live_answer_rows, answered_flight, call_answered_event, told, failed_flight, call_failed_event, abandoned, abandon_event}
use Rattle.service_events.specs.Calls.{after_rows, noted, all_deleted}
use Rattle.service_events.specs.Fits.{Fits, WantsItsCalls, calls_of_flight, call_to, call_in, wanted_call, sent_by}
use Rattle.service_events.specs.Flying.{awaited, goes_on}
use Rattle.service_events.specs.State.{Kept, After, after, or_else, is_crowded, is_heavy, is_in_flight, has_flight, flight_of}
use Rattle.service_events.specs.declared.answers.Arrived.{Arrived}
use Rattle.service_events.specs.declared.refusals.ArriveRefused.{ArriveRefused}
use Rattle.service_events.specs.declared.refusals.CallRefused.{CallRefused}
use Rattle.service_events.proofs.RegisterLemmas.{find-change}
use Rattle.service_events.proofs.CallRowLemmas.{Each, each_weaker, all_of_each}
use Rattle.service_events.proofs.AloftLemmas.{IsAloft, acked_aloft, answered_aloft, told_aloft, aloft_of}
use Rattle.service_events.proofs.SearchLemmas.{found_all}
use Rattle.world_events.specs.Live.{IsLiveRow, IsCallOver, WaitsForOne, IsLive, is_call_over}
use Rattle.world_laws.proofs.HeardLaws.{KeepsOver, rows_keep_over, told_keeps_over, told_over, over_at, AllOver, waits_still, others_over, Ends, OverOn, goes_on_over}
use Rattle.world_laws.proofs.LivedLaws.{IsNaming, IsOfRequest, Lived, goes_on_lives, deleted_names, without_all}
use Rattle.world_laws.proofs.PlaceFacts.{wanted_each, flight_wants, numbers_there}
use Rattle.world_laws.proofs.StillLemmas.{sent_from}

-- ---- what an event of a live request leaves

live_row : (o : Origin) (q : Request) (row : Row) → IsOfRequest o q row → IsLiveRow row
live_row o q (Took t) h = tt
live_row o q (Sent s) h = h
live_row o q (Asked a) h = tt
live_row o q (Answered a) h = h
live_row o q row h = absurd h

naming_live : (row : Row) → IsNaming row → IsLiveRow row
naming_live (Sent s) h = h
naming_live row h = absurd h

lived_live : (s : Kept) (o : Origin) (q : Request) (a : After Arrived) → IsLive s → Lived s o q a.service → OverOn s a → IsLive a.service
lived_live s o q a live l h = record {
  rows = subst (All IsLiveRow) (sym l.grows.is)
      (All-append IsLiveRow s.journal l.grows.rows live.rows
      (all_of_each IsLiveRow l.grows.rows (each_weaker (IsOfRequest o q) IsLiveRow (live_row o q) l.grows.rows l.rows)));
  flights = h.flights live.flights;
}

-- a service that is live, and what its answer says of the entry that was made
abbrev pub EndsOr : {E : Type 0} → Kept → Result Arrived E → Type 0
EndsOr t (Ok arrived) = Ends t arrived
EndsOr t (Err why) = Unit {0}

pub record GoesLive {E : Type 0} (a : After (Result Arrived E)) : Type 0 where
  pub live : IsLive a.service
  pub ends : EndsOr a.service a.answer

module _ (s : Kept) (fits : Fits s) (live : IsLive s) where
  rests : {E : Type 0} (why : E) → GoesLive (after {A = Result Arrived E} s (Err why))
  rests why = record { live = live; ends = tt }

  -- ---- an arrival

  admitted_live : (o : Origin) (q : Request) (i : Inputs) (full : Option ℕ) → GoesLive (admitted s o q i full)
  admitted_live o q i (Some n) = rests (ArriveRefused.Full n)
  admitted_live o q i None =
      let f = new_flight s o q i in
      let l = goes_on_lives s f in
      let h = goes_on_over s f (record { numbered = fits.sent.numbered; apart = tt; within = tt; many = refl }) tt in
      record { live = lived_live s o q (goes_on s f) live l.lived h; ends = h.ends }

  known_live : (c : List ℕ) (n : ℕ) (e : Entry) (made : Option Record) → GoesLive (known_by s c n e made)
  known_live c n e None = rests (ArriveRefused.NotYet n)
  known_live c n e (Some m) = record { live = live; ends = tt }

  or_known_live : (c : List ℕ) (n : ℕ) (q : Request) (i : Inputs) (o : Option Entry) → GoesLive (arrives_or_known s c n q i o)
  or_known_live c n q i None = admitted_live (Call c n) q i (or_else (is_crowded s) (is_heavy s))
  or_known_live c n q i (Some e) = known_live c n e (record_of e)

  by_version_live : (version : ℕ) (desired : Option Request) (known : After (Result Arrived ArriveRefused)) → GoesLive known → GoesLive (by_version s version desired known)
  by_version_live version None known h = rests (ArriveRefused.Gone version)
  by_version_live version (Some q) known h = h

  unless_gone_live : (last : Option TookRow) (known : After (Result Arrived ArriveRefused)) → GoesLive known → GoesLive (unless_gone s last known)
  unless_gone_live None known h = h
  unless_gone_live (Some t) known h = by_version_live t.version t.desired known h

  pub arrive_live : (o : Origin) (q : Request) (i : Inputs) → GoesLive (arrive_event s o q i)
  arrive_live Outside q i = admitted_live Outside q i (or_else (is_crowded s) (is_heavy s))
  arrive_live (Call c n) q i =
      cond_both (is_in_flight (Call c n) s) (after s (Err (ArriveRefused.NotYet n)))
      (unless_gone s (last_taken c n s.journal) (arrives_or_known s c n q i (find_call (Call c n) s.entries))) GoesLive
      (λ _. rests (ArriveRefused.NotYet n))
      (λ _. unless_gone_live (last_taken c n s.journal) (arrives_or_known s c n q i (find_call (Call c n) s.entries))
      (or_known_live c n q i (find_call (Call c n) s.entries)))

  -- ---- the numbers of a flight

  max_cases : (P : ℕ → Type 0) (a b : ℕ) → P a → P b → P (max a b)
  max_cases P a b p q = elim (cases_lt a b) [
    | inl l ↦ subst P (sym (max-eq_right (below l))) q
    | inr l ↦ subst P (sym (max-eq_left l)) p
  ]
    where
      below : a < b → a ≤ b
      below l = omega (arith, l)

  max_is : (P : ℕ → Type 0) (a : ℕ) (ns : List ℕ) → P a → Each P ns → P (fold max a ns)
  max_is P a [] p h = p
  max_is P a (n ∷ ns) p h = max_is P (max a n) ns (max_cases P a n p h.0) h.1

  -- a call that is wanted has version 1
  pub wanted_first : (n : ℕ) (r : Register) → register n s.registers ≡ Some r → (c : CallMade) → wanted_call s.registers n ≡ Some c → r.version ≡ 1
  wanted_first n r found c wanted =
      let last : Some (sent_by r) ≡ last_sent n s.journal = sym (ap (option_map sent_by) found) ∙ fits.sent.registers n in
      let from = subst (λ o. IfSome o (λ x. (x.number ≡ n) × Contains s.journal (Sent x))) (sym last) (sent_from n s.journal) in
      let row = All-contains IsLiveRow s.journal (Sent (sent_by r)) live.rows from.1 in
      by_desired r.desired (sym (ap call_in found) ∙ wanted) row
    where
      by_desired : (d : Option Request) → call_to r.dest d ≡ Some c → IfSome d (λ _. r.version ≡ 1) → r.version ≡ 1
      by_desired None e h = cc
      by_desired (Some q) e h = h

  -- the number that a flight waits for is wanted, if it isn't 0
  awaited_first : (f : Flight) → WantsItsCalls s.registers (calls_of_flight f) → (r : Register) → register (awaited f) s.registers ≡ Some r → r.version ≡ 1
  awaited_first f wants r found =
      by_number (awaited f) found (max_is IsZeroOrWanted 0 f.numbers (inl refl) (wanted_each s.registers IsZeroOrWanted (λ n c e. inr (c, e)) f.numbers f.calls wants))
    where
      IsZeroOrWanted : ℕ → Type 0
      IsZeroOrWanted n = (n ≡ 0) ⊎ ((c : CallMade) × (wanted_call s.registers n ≡ Some c))

      by_number : (n : ℕ) → register n s.registers ≡ Some r → IsZeroOrWanted n → r.version ≡ 1
      by_number n found (inl none) = (let gone : None ≡ Some r = sym (ap (λ k. register k s.registers) none ∙ none_zero s.registers fits.sent.numbered) ∙ found in cc)
      by_number n found (inr wanted) = wanted_first n r found wanted.0 wanted.1

  -- ---- a flight goes on

  on : (m : Kept) (f : Flight) → IsLive m → IsAloft m.registers f.numbers f.calls → AllOver m.registers f.numbers → GoesLive {E = CallRefused} (accepted (goes_on m f))
  on m f live a h =
      let l = goes_on_lives m f in
      let heard = goes_on_over m f a h in
      record { live = lived_live m f.origin f.request (goes_on m f) live l.lived heard; ends = heard.ends }

  still : (m : Kept) → m.flights ≡ s.flights → KeepsOver s.registers m.registers → All IsLiveRow m.journal → IsLive m
  still m flights hears rows = record {
    rows = rows;
    flights = subst (All (WaitsForOne m.registers)) (sym flights)
        (All-weaker (WaitsForOne s.registers) (WaitsForOne m.registers) (λ f x. waits_still s.registers m.registers f hears x) s.flights live.flights);
  }

  -- ---- a call fails

  failed_live : (id n : ℕ) (why : Why) (o : Option Flight) → flight_of id s ≡ o → GoesLive (failed_flight s id n why o)
  failed_live id n why None is = rests (CallRefused.NoFlight id)
  failed_live id n why (Some f) is =
      cond_both (nat_eq (awaited f) n) (accepted (goes_on (told n why s) f)) (after s (Err (CallRefused.NoFlight id))) GoesLive
      (λ e. (let same : awaited f ≡ n = eqb-true (awaited f) n e in
      let hears = told_keeps_over n why s.registers in
      let waits = found_all (WaitsForOne s.registers) (has_flight id) s.flights f live.flights is in
      let m = told n why s in
      let H : ℕ → Type 0 = λ k. IsSome (register k s.registers) → IsCallOver k m.registers in
      on m f (still m refl hears live.rows) (told_aloft n why s.registers f.numbers f.calls (aloft_of s id f fits is))
      (others_over s.registers m.registers f hears waits (numbers_there s f (flight_wants s fits id f is)) (subst H (sym same) (told_over n why s.registers)))))
      (λ _. rests (CallRefused.NoFlight id))

  pub call_failed_live : (id n : ℕ) (why : Why) → GoesLive (call_failed_event s id n why)
  call_failed_live id n why = failed_live id n why (flight_of id s) refl

  -- ---- a call is answered

  heard_row_live : (a : AnswerMessage) → a.version ≡ 1 → (b : Bool) → Each IsLiveRow (cond b (seen_live a ∷ []) [])
  heard_row_live a first true = (first, tt)
  heard_row_live a first false = tt

  heard_aloft : (a : AnswerMessage) (ns : List ℕ) (cs : List CallMade) (b : Bool) (at : ℕ) (rs : List Register) → IsAloft rs ns cs
      → IsAloft (after_rows at rs (cond b (seen_live a ∷ []) [])) ns cs
  heard_aloft a ns cs true at rs h = answered_aloft a.number _ rs ns cs h
  heard_aloft a ns cs false at rs h = h

  newer_held : (o : Option Answer) (v : ℕ) → is_newer o v ≡ false → IsSome o
  newer_held None v e = cc
  newer_held (Some a) v e = refl

  heard_now : (a : AnswerMessage) (r : Register) → register a.number s.registers ≡ Some r → (b : Bool) → is_newer r.answer a.answer_version ≡ b → (at : ℕ)
      → IsCallOver a.number (after_rows at (at_number a.number (with_ack a.version) s.registers) (cond b (seen_live a ∷ []) []))
  heard_now a r found b new at = by_new b new
    where
      acked : register a.number (at_number a.number (with_ack a.version) s.registers) ≡ Some (with_ack a.version r)
      acked =
          find-change a.number a.number (with_ack a.version) (λ x. refl) s.registers
          ∙ cond-true (nat_eq a.number a.number) (option_map (with_ack a.version) (register a.number s.registers)) (register a.number s.registers) (eq-eqb a.number a.number refl)
          ∙ ap (option_map (with_ack a.version)) found

      answered : Answer
      answered = record { answer_version = a.answer_version; version = a.version; response = a.response }

      heard_some : (t : Bool) → (t || true) ≡ true
      heard_some true = refl
      heard_some false = refl

      number_same : (x : Register) → (with_answer answered x).number ≡ x.number
      number_same x = cond_both (is_newer x.answer answered.answer_version) (record x { answer = Some answered }) x (λ y. y.number ≡ x.number) (λ _. refl) (λ _. refl)

      held_heard : (t : Bool) (o : Option Answer) → IsSome o → (t || is_some o) ≡ true
      held_heard t None h = cc
      held_heard t (Some x) h = heard_some t

      by_new : (b : Bool) → is_newer r.answer a.answer_version ≡ b
          → IsCallOver a.number (after_rows at (at_number a.number (with_ack a.version) s.registers) (cond b (seen_live a ∷ []) []))
      by_new true new =
          over_at a.number (with_answer answered) number_same (at_number a.number (with_ack a.version) s.registers)
          (subst (λ o. IsSomeAnd o (λ x. is_call_over (with_answer answered x) ≡ true)) (sym acked)
          (subst (λ x. is_call_over x ≡ true) (sym (cond-true (is_newer r.answer a.answer_version) (record (with_ack a.version r) { answer = Some answered }) (with_ack a.version r) new))
          (heard_some (is_some r.told))))
      by_new false new =
          subst (λ o. IsSomeAnd o (λ x. is_call_over x ≡ true)) (sym acked) (held_heard (is_some r.told) r.answer (newer_held r.answer a.answer_version new))

  answered_live : (id : ℕ) (a : AnswerMessage) (o : Option Flight) → flight_of id s ≡ o → GoesLive (answered_flight s id a o)
  answered_live id a None is = rests (CallRefused.NoFlight id)
  answered_live id a (Some f) is =
      cond_both (is_for s a f) (accepted (goes_on (noted (live_answer_rows s a) s) f)) (after s (Err (CallRefused.NoFlight id))) GoesLive
      (λ e. (let parts = and_parts (nat_eq (awaited f) a.number) (answers_register a (register a.number s.registers)) e in
      of_register (register a.number s.registers) refl (eqb-true (awaited f) a.number parts.0) parts.1))
      (λ _. rests (CallRefused.NoFlight id))
    where
      m : Kept
      m = noted (live_answer_rows s a) s

      of_register : (o : Option Register) → register a.number s.registers ≡ o → awaited f ≡ a.number → answers_register a o ≡ true → GoesLive {E = CallRefused} (accepted (goes_on m f))
      of_register None found same e = cc
      of_register (Some r) found same e =
          let parts = and_parts (same_text r.dest a.callee) (nat_eq r.version a.version) e in
          let wants = flight_wants s fits id f is in
          let first = awaited_first f wants r (ap (λ k. register k s.registers) same ∙ found) in
          let version : a.version ≡ 1 = sym (eqb-true r.version a.version parts.1) ∙ first in
          let new = is_new_to a (register a.number s.registers) in
          let of_new : new ≡ is_newer r.answer a.answer_version = ap (is_new_to a) found in
          let hears = rows_keep_over (length s.journal) s.registers (live_answer_rows s a) in
          let waits = found_all (WaitsForOne s.registers) (has_flight id) s.flights f live.flights is in
          let heard = heard_now a r found new (sym of_new) (length s.journal + 1) in
          let rows = All-append IsLiveRow s.journal (live_answer_rows s a) live.rows (all_of_each IsLiveRow (live_answer_rows s a) (tt, heard_row_live a version new)) in
          let aloft = heard_aloft a f.numbers f.calls new (length s.journal + 1) (at_number a.number (with_ack a.version) s.registers)
          (acked_aloft a.number a.version s.registers f.numbers f.calls (aloft_of s id f fits is)) in
          let H : ℕ → Type 0 = λ k. IsSome (register k s.registers) → IsCallOver k m.registers in
          on m f (still m refl hears rows) aloft
          (others_over s.registers m.registers f hears waits (numbers_there s f wants) (subst H (sym same) (λ _. heard)))

  pub call_answered_live : (id : ℕ) (a : AnswerMessage) → GoesLive (call_answered_event s id a)
  call_answered_live id a = answered_live id a (flight_of id s) refl

  -- ---- an abandonment

  abandoned_live : (o : Option Flight) → IsLive (abandoned s o).service
  abandoned_live None = live
  abandoned_live (Some f) =
      let rows = all_deleted s.registers f.numbers f.calls in
      let hears = rows_keep_over (length s.journal) s.registers rows in
      record {
        rows = All-append IsLiveRow s.journal rows live.rows
            (all_of_each IsLiveRow rows (each_weaker IsNaming IsLiveRow naming_live rows (deleted_names s.registers f.numbers f.calls)));
        flights = without_all (WaitsForOne (after_rows (length s.journal) s.registers rows)) f.id s.flights
            (All-weaker (WaitsForOne s.registers) (WaitsForOne (after_rows (length s.journal) s.registers rows))
            (λ g x. waits_still s.registers (after_rows (length s.journal) s.registers rows) g hears x) s.flights live.flights);
      }

  pub abandon_live : (id : ℕ) → IsLive (abandon_event s id).service
  abandon_live id = abandoned_live (flight_of id s)
