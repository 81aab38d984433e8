-- Events of live requests keep what fits of calls: an arrival, the answer or the failure of a call, an abandonment.
use Rattle.std.proofs.Common.{◌≡◌, ℕ, Bool, true, false, ◌&&◌, List, [], ◌∷◌, ◌++◌, Option, Some, None, Err, IsSome, IfSome, map, nat_eq, is_some, refl, sym, ap, ◌∙◌, subst, inl, inr, arith, length-append, if◌then◌else◌, append-nil}
use Rattle.std.proofs.lemmas.Bool.{cases_Bool, and_parts, and_from, or_left, or_right}
use Rattle.std.proofs.lemmas.List.Sums.{fold_push}
use Rattle.std.specs.List.{list_any}
use Rattle.lang_core.specs.declared.ids.Origin.{Origin}
use Rattle.lang_core.specs.declared.ids.Origin.TheVariants.{Outside, Call}
use Rattle.lang_core.specs.declared.inputs.Inputs.{Inputs}
use Rattle.lang_core.specs.declared.request.Request.{Request}
use Rattle.request_log.specs.Entries.{find_call}
use Rattle.request_log.specs.Records.{Record, record_of}
use Rattle.request_log.specs.declared.entry.Entry.{Entry}
use Rattle.repair_messages.specs.declared.messages.AnswerMessage.{AnswerMessage}
use Rattle.journal_rows.specs.Words.{last_taken, last_taken_of, taken_step, is_version_of}
use Rattle.journal_rows.specs.declared.callee.TookRow.{TookRow}
use Rattle.journal_rows.specs.declared.row.Row.{Row}
use Rattle.journal_rows.specs.declared.caller.AckHow.TheVariants.{WithAnswer}
use Rattle.journal_rows.specs.declared.caller.SawHow.TheVariants.{Live}
use Rattle.journal_rows.specs.declared.row.Row.TheVariants.{Took, SawAck}
use Rattle.call_registers.specs.Registers.{register, is_newer}
use Rattle.call_registers.specs.declared.register.Register.{Register}
use Rattle.call_registers.specs.declared.register.Why.{Why}
use Rattle.flights.specs.declared.flight.Flight.{Flight}
use Rattle.service_events.specs.State.{Kept, after, or_else, is_crowded, is_heavy, is_in_flight, same_call_origin, flight_of, without_flight, with_flight}
use Rattle.service_events.specs.Calls.{noted, all_deleted}
use Rattle.service_events.specs.Flying.{goes_on, awaited}
use Rattle.service_events.specs.Arriving.{new_flight, admitted, known_by, arrives_or_known, by_version, unless_gone, answers_register, is_for, is_new_to, seen_live, live_answer_rows, answered_flight, told, failed_flight, abandoned}
use Rattle.service_events.specs.Fits.{Fits, FitsPlaces, takes_request, calls_of_entry, calls_of_flight}
use Rattle.service_events.proofs.CallRowLemmas.{go_on, all_follow, each_weaker, IsSending, IsUnseen, IsUntaken, IsUnordered, sending_unseen, sending_untaken, sending_unordered}
use Rattle.service_events.proofs.PlaceLemmas.{with_none}
use Rattle.service_events.proofs.FittingLemmas.{entered, HasRoom}
use Rattle.service_events.proofs.SettleLemmas.{same_versions, delete_all}
use Rattle.service_events.proofs.FlightLemmas.{Flies, flies_from, flies_fit, flies_rows, flies_drop, flies_more, any_none, free_number, with_known, without_none}
use Rattle.service_events.proofs.KindLemmas.{sends_deleted}
use Rattle.service_events.proofs.CallLaws.{FitsCalls, Goes, goes_same, goes_then, book, noted_calls}
use Rattle.service_events.proofs.FlightLaws.{flying, around, from_head, from_rest, to_rest, flown, fitting_at, goes_untold}
use Rattle.service_events.proofs.HeardLemmas.{live_new, live_old}
use Rattle.service_events.specs.declared.refusals.ArriveRefused.TheVariants.{NotYet}
use Rattle.service_events.proofs.GoingLaws.{goes_on_goes}

-- ---- an arrival

-- a flight that begins, of an origin that none has
pub begins : (s : Kept) (o : Origin) (q : Request) (i : Inputs) → is_in_flight o s ≡ false → last_taken_of o s.journal ≡ None → Goes s (flying s (new_flight s o q i))
begins s o q i apart free = record {
  grows = record { rows = []; is = sym (append-nil s.journal); setting = refl };
  keeps = λ few h. (
      let f = new_flight s o q i in
      let old = flies_from s.journal s.flights h.flights in
      let number = free_number s.flights old.others old.numbered in
      let w = flown s f in
      let same = sym (without_none f.id s.flights number.1) ∙ w.without in
      let E : List Flight → Type 0 = λ fs. FitsPlaces s.registers (map calls_of_entry s.entries ++ map calls_of_flight fs) in
      record {
        sent = h.sent;
        seen = h.seen;
        places = subst E (sym (w.put f refl))
            (from_head s.registers s.entries w.lows f w.highs
            (with_none s.registers (around s.entries w.lows w.highs) (from_rest s.registers s.entries w.lows w.highs (subst E same h.places))));
        flights = flies_fit s.journal (with_flight f s.flights)
            (flies_more s.journal s.flights f number.0 number.1 (any_none o s.flights apart) free old);
        orders = h.orders;
      });
}

pub arrives_goes : (s : Kept) (o : Origin) (q : Request) (i : Inputs) (n : Option ℕ) → is_in_flight o s ≡ false → last_taken_of o s.journal ≡ None
    → Goes s (admitted s o q i n).service
arrives_goes s o q i (Some n) apart free = goes_same s
arrives_goes s o q i None apart free =
    let f = new_flight s o q i in
    goes_then s (flying s f) (goes_on s f).service (begins s o q i apart free) (goes_on_goes s f)

pub outside_apart : (fs : List Flight) → list_any (λ (f : Flight). same_call_origin Outside f.origin) fs ≡ false
outside_apart [] = refl
outside_apart (f ∷ fs) = outside_apart fs

-- a call whose last version has a request has an entry
any_front : (p : Row → Bool) (xs ys : List Row) → list_any p xs ≡ true → list_any p (xs ++ ys) ≡ true
any_front p [] ys h = cc
any_front p (x ∷ xs) ys h = elim (cases_Bool (p x)) [
  | inl is ↦ or_left (p x) (list_any p (xs ++ ys)) is
  | inr differs ↦ or_right (p x) (list_any p (xs ++ ys)) (any_front p xs ys (rw differs at h))
]

any_behind : (p : Row → Bool) (xs ys : List Row) → list_any p ys ≡ true → list_any p (xs ++ ys) ≡ true
any_behind p [] ys h = h
any_behind p (x ∷ xs) ys h = or_right (p x) (list_any p (xs ++ ys)) (any_behind p xs ys h)

abbrev IsAsked : List ℕ → ℕ → List Row → Type 0
IsAsked c n j = IfSome (last_taken c n j) (λ t. is_some t.desired ≡ true → list_any (takes_request c n) j ≡ true)

asked_more : (c : List ℕ) (n : ℕ) (before : List Row) (row : Row) (last : Option TookRow)
    → IfSome last (λ t. is_some t.desired ≡ true → list_any (takes_request c n) before ≡ true)
    → IfSome last (λ t. is_some t.desired ≡ true → list_any (takes_request c n) (before ++ row ∷ []) ≡ true)
asked_more c n before row None h = tt
asked_more c n before row (Some t) h = λ some. any_front (takes_request c n) before (row ∷ []) (h some)

asked_stays : (c : List ℕ) (n : ℕ) (before : List Row) (row : Row) → IsAsked c n before
    → IfSome (taken_step c n (last_taken c n before) row) (λ t. is_some t.desired ≡ true → list_any (takes_request c n) (before ++ row ∷ []) ≡ true)
asked_stays c n before (Took t) h = elim (cases_Bool (is_version_of c n t)) [
  | inl is ↦ rw is (λ some. any_behind (takes_request c n) before (Took t ∷ []) (or_left (is_version_of c n t && is_some t.desired) false (and_from (is_version_of c n t) (is_some t.desired) is some)))
  | inr differs ↦ rw differs (asked_more c n before (Took t) (last_taken c n before) h)
]
asked_stays c n before row h = asked_more c n before row (last_taken c n before) h

is_asked : (c : List ℕ) (n : ℕ) (j : List Row) → IsAsked c n j
is_asked c n j = go_on (λ _ _. Unit {0}) (IsAsked c n)
    (λ before row _ h. rw (fold_push (taken_step c n) None before row) (asked_stays c n before row h)) j [] (all_follow j []) tt

pub has_entry : (s : Kept) (c : List ℕ) (n : ℕ) (t : TookRow) (q : Request) → Fits s → last_taken c n s.journal ≡ Some t → t.desired ≡ Some q
    → find_call (Call c n) s.entries ≡ None → ⊥
has_entry s c n t q f last asks none =
    let P : Option TookRow → Type 0 = λ o. IfSome o (λ t. is_some t.desired ≡ true → list_any (takes_request c n) s.journal ≡ true) in
    let any = subst P last (is_asked c n s.journal) (ap is_some asks) in
    gone (find_call (Call c n) s.entries) none ((f.asked.calls c n).1 any)
  where
    gone : (o : Option Entry) → o ≡ None → IsSome o → ⊥
    gone None e h = cc
    gone (Some x) e h = cc

known_goes : (s : Kept) (c : List ℕ) (n : ℕ) (e : Entry) (m : Option Record) → Goes s (known_by s c n e m).service
known_goes s c n e None = goes_same s
known_goes s c n e (Some m) = goes_same s

by_version_goes : (s : Kept) (c : List ℕ) (n : ℕ) (q : Request) (i : Inputs) (t : TookRow) (d : Option Request) (e : Option Entry) → Fits s
    → last_taken c n s.journal ≡ Some t → t.desired ≡ d → find_call (Call c n) s.entries ≡ e
    → Goes s (by_version s t.version d (arrives_or_known s c n q i e)).service
by_version_goes s c n q i t None e f last asks entry = goes_same s
by_version_goes s c n q i t (Some r) (Some e) f last asks entry = known_goes s c n e (record_of e)
by_version_goes s c n q i t (Some r) None f last asks entry = absurd (has_entry s c n t r f last asks entry)

pub call_goes : (s : Kept) (c : List ℕ) (n : ℕ) (q : Request) (i : Inputs) (b : Bool) (t : Option TookRow) (e : Option Entry) → Fits s → is_in_flight (Call c n) s ≡ b
    → last_taken c n s.journal ≡ t → find_call (Call c n) s.entries ≡ e
    → Goes s (if b then after s (Err (NotYet n)) else unless_gone s t (arrives_or_known s c n q i e)).service
call_goes s c n q i true t e f flies last entry = goes_same s
call_goes s c n q i false None None f flies last entry = arrives_goes s (Call c n) q i (or_else (is_crowded s) (is_heavy s)) flies last
call_goes s c n q i false None (Some e) f flies last entry = known_goes s c n e (record_of e)
call_goes s c n q i false (Some t) e f flies last entry = by_version_goes s c n q i t t.desired e f last refl entry

-- ---- a flight that is there

-- the flight of a number is put in its own place
pub flies_known : (s : Kept) (id : ℕ) (f : Flight) → flight_of id s ≡ Some f → Goes s (flying s f)
flies_known s id f found = record {
  grows = record { rows = []; is = sym (append-nil s.journal); setting = refl };
  keeps = λ few h. (
      let same = with_known id s.flights f found (flies_from s.journal s.flights h.flights).others in
      let P : List Flight → Type 0 = λ fs. FitsCalls (record s { flights = fs }) in
      subst P (sym same) (record { sent = h.sent; seen = h.seen; places = h.places; flights = h.flights; orders = h.orders }));
}

-- ---- a call's answer

-- the register of the call that is answered
pub record IsAnswered (s : Kept) (a : AnswerMessage) : Type 0 where
  pub made : Register
  pub found : register a.number s.registers ≡ Some made

pub answered_by : (s : Kept) (a : AnswerMessage) (o : Option Register) → register a.number s.registers ≡ o → answers_register a o ≡ true → IsAnswered s a
answered_by s a None is h = cc
answered_by s a (Some r) is h = record { made = r; found = is }

answer_taken_by_goes : (s : Kept) (a : AnswerMessage) (r : Register) (b : Bool) → register a.number s.registers ≡ Some r → is_newer r.answer a.answer_version ≡ b
    → Goes s (noted (SawAck (record { number = a.number; version = a.version; how = WithAnswer a.answer_version }) ∷ (if b then seen_live a ∷ [] else [])) s)
answer_taken_by_goes s a r true found is = live_new s a.number a.answer_version a.version ((record { number = a.number; answer_version = a.answer_version; version = a.version; response = a.response; how = Live; who = a.who; rule = 0 })) r refl refl refl found is
answer_taken_by_goes s a r false found is = live_old s a.number a.answer_version a.version r found is

pub heard_goes : (s : Kept) (a : AnswerMessage) (r : Register) → register a.number s.registers ≡ Some r → Goes s (noted (live_answer_rows s a) s)
heard_goes s a r found =
    let P : Option Register → Type 0 = λ o. Goes s (noted (SawAck (record { number = a.number; version = a.version; how = WithAnswer a.answer_version }) ∷ (if is_new_to a o then seen_live a ∷ [] else [])) s) in
    subst P (sym found) (answer_taken_by_goes s a r (is_newer r.answer a.answer_version) found refl)

pub answered_goes : (s : Kept) (id : ℕ) (a : AnswerMessage) (o : Option Flight) → flight_of id s ≡ o → Goes s (answered_flight s id a o).service
answered_goes s id a None is = goes_same s
answered_goes s id a (Some f) is = elim (cases_Bool (is_for s a f)) [
  | inl does ↦ rw does (
      let parts = and_parts (nat_eq (awaited f) a.number) (answers_register a (register a.number s.registers)) does in
      let r = answered_by s a (register a.number s.registers) refl parts.1 in
      let t = noted (live_answer_rows s a) s in
      goes_then s t (goes_on t f).service (heard_goes s a r.made r.found)
      (goes_then t (flying t f) (goes_on t f).service (flies_known t id f is) (goes_on_goes t f)))
  | inr isnt ↦ rw isnt (goes_same s)
]

-- ---- a call's failure

pub failed_goes : (s : Kept) (id number : ℕ) (why : Why) (o : Option Flight) → flight_of id s ≡ o → Goes s (failed_flight s id number why o).service
failed_goes s id number why None is = goes_same s
failed_goes s id number why (Some f) is = elim (cases_Bool (nat_eq (awaited f) number)) [
  | inl does ↦ rw does (
      let t = told number why s in
      goes_then s t (goes_on t f).service (goes_untold s number why)
      (goes_then t (flying t f) (goes_on t f).service (flies_known t id f is) (goes_on_goes t f)))
  | inr isnt ↦ rw isnt (goes_same s)
]

-- ---- an abandonment

-- a flight is gone, and its calls are deleted
goes_without : (s : Kept) (f : Flight)
    → Goes (flying s f) (noted (all_deleted s.registers f.numbers f.calls) (record s { flights = without_flight f.id s.flights }))
goes_without s f =
    let rows = all_deleted s.registers f.numbers f.calls in
    let sending = sends_deleted s.registers f.numbers f.calls in
    record {
      grows = record { rows = rows; is = refl; setting = refl };
      keeps = λ few h. (
          let w = flown s f in
          let sum = length-append s.journal rows in
          let room : HasRoom (book s) rows = record { counts = omega (arith, few, sum) } in
          let gone = delete_all s.registers f.numbers f.calls (book s) (around s.entries w.lows w.highs) room (same_versions s.registers f.numbers) (fitting_at s f w h) in
          let end = (entered rows (book s)).registers in
          let fs = without_flight f.id s.flights in
          let P : List Flight → Type 0 = λ gs. FitsPlaces end (map calls_of_entry s.entries ++ map calls_of_flight gs) in
          let F : List Flight → Type 0 = λ gs. Flies s.journal gs in
          let old = subst F (w.put f refl) (flies_from s.journal (with_flight f s.flights) h.flights) in
          noted_calls (flying s f) s.entries fs s.replies rows room
          (each_weaker IsSending IsUnseen sending_unseen rows sending) (each_weaker IsSending IsUnordered sending_unordered rows sending) h
          (record { sent = gone.fits.sent; places = subst P (sym w.without) (to_rest end s.entries w.lows w.highs gone.fits.places) })
          (flies_fit (s.journal ++ rows) fs
          (flies_rows s.journal rows fs (each_weaker IsSending IsUntaken sending_untaken rows sending) (subst F (sym w.without) (flies_drop s.journal w.lows f w.highs old)))));
    }

pub abandoned_goes : (s : Kept) (id : ℕ) (o : Option Flight) → flight_of id s ≡ o → Goes s (abandoned s o).service
abandoned_goes s id None is = goes_same s
abandoned_goes s id (Some f) is =
    goes_then s (flying s f) (abandoned s (Some f)).service (flies_known s id f is) (goes_without s f)
