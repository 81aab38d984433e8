-- What the events of live requests owe to the world.
use Rattle.std.proofs.Common.{◌≡◌, ℕ, Bool, true, false, cond, List, [], ◌∷◌, ◌++◌, Option, Some, None, IfSome, IsSomeAnd, All, Contains, Result, Ok, Err, find, nat_eq, option_map, inl, inr, refl, sym, ap, ◌∙◌, subst, append_assoc, append-nil}
use Rattle.std.proofs.lemmas.Bool.{cond_both, and_parts}
use Rattle.std.proofs.lemmas.List.Elements.{All-nil, All-cons, All-append, All-contains, All-weaker}
use Rattle.lang_base.specs.Texts.{same_text}
use Rattle.lang_core.specs.declared.ids.Origin.{Origin}
use Rattle.lang_core.specs.declared.ids.Origin.TheVariants.{Outside, Call}
use Rattle.lang_core.specs.declared.inputs.Inputs.{Inputs}
use Rattle.lang_core.specs.declared.request.Request.{Request}
use Rattle.request_log.specs.Entries.{has_id, has_origin, find_call}
use Rattle.request_log.specs.Records.{Record, record_of}
use Rattle.request_log.specs.declared.entry.Entry.{Entry}
use Rattle.repair_messages.specs.declared.messages.AnswerMessage.{AnswerMessage}
use Rattle.journal_rows.specs.Words.{last_sent, last_taken, last_answered, asked}
use Rattle.journal_rows.specs.declared.callee.AnsweredRow.{AnsweredRow}
use Rattle.journal_rows.specs.declared.callee.AskedRow.{AskedRow}
use Rattle.journal_rows.specs.declared.callee.TookRow.{TookRow}
use Rattle.journal_rows.specs.declared.caller.AckHow.TheVariants.{WithAnswer}
use Rattle.journal_rows.specs.declared.caller.SentRow.{SentRow}
use Rattle.journal_rows.specs.declared.row.Row.{Row}
use Rattle.journal_rows.specs.declared.row.Row.TheVariants.{Asked, Took, Answered, Sent, SawAck}
use Rattle.call_registers.specs.Registers.{register}
use Rattle.call_registers.specs.declared.register.Register.{Register}
use Rattle.call_registers.specs.declared.register.Why.{Why}
use Rattle.flights.specs.declared.flight.Flight.{Flight}
use Rattle.service_events.specs.Arriving.{accepted, new_flight, admitted, arrives, known_by, arrives_or_known, by_version, unless_gone, arrive_event, answers_register, is_for, is_new_to, seen_live, live_answer_rows, answered_flight, call_answered_event, told, failed_flight, call_failed_event}
use Rattle.service_events.specs.Calls.{noted}
use Rattle.service_events.specs.Fits.{Fits, HasAnswered as HasItsAnswer, sent_by, answer_recorded, answer_given}
use Rattle.service_events.specs.Flying.{awaited, goes_on}
use Rattle.service_events.specs.State.{Kept, After, after, me, or_else, is_crowded, is_heavy, is_in_flight, has_flight, flight_of}
use Rattle.service_events.specs.declared.answers.Arrived.{Arrived}
use Rattle.service_events.specs.declared.refusals.ArriveRefused.{ArriveRefused}
use Rattle.service_events.specs.declared.refusals.CallRefused.{CallRefused}
use Rattle.service_events.proofs.CallRowLemmas.{all_of_each, each_weaker}
use Rattle.service_events.proofs.LogLemmas.{call_is}
use Rattle.service_events.proofs.SearchLemmas.{text_is, found_all}
use Rattle.world_agreement.specs.Partners.{service_of, JournalOf, JournalOfDest, HasSent, HasAnswered, HasAcknowledged, HasPartner}
use Rattle.world_agreement.proofs.AnswerFacts.{given_from, given_asked}
use Rattle.world_agreement.proofs.EntryFacts.{Begun, begun}
use Rattle.world_agreement.proofs.ListLemmas.{found_passes}
use Rattle.world_agreement.proofs.NameLemmas.{found_by_id}
use Rattle.world_events.specs.Sound.{WasAnswered, OriginStands, FlightStands, FlightsStand}
use Rattle.world_laws.proofs.LivedLaws.{IsOfRequest, IsFlownFrom, Lived, Says, goes_on_lives}
use Rattle.world_laws.proofs.TurnLaws.{Turns, no_turn}

-- ---- what a live request owes

abbrev pub SaysOr : {E : Type 0} → Origin → Kept → Result Arrived E → Type 0
SaysOr o t (Ok arrived) = Says o t arrived
SaysOr o t (Err why) = Unit {0}

-- an event of a request of this origin
pub record Moves (services : List Kept) (s : Kept) (o : Origin) {E : Type 0} (a : After (Result Arrived E)) : Type 0 where
  pub turns : Turns services s a.service
  pub says : SaysOr o a.service a.answer

request_partner : (services : List Kept) (s : Kept) (o : Origin) (q : Request) → OriginStands services (me s) o q → (row : Row) → IsOfRequest o q row → HasPartner services s row
request_partner services s o q stands (Took t) h =
    let S : Origin → Type 0 = λ x. OriginStands services (me s) x q in
    let first = subst S h.0 stands in
    let V : ℕ → Type 0 = λ v. JournalOf services t.caller (HasSent (me s) t.number v (Some q)) in
    let D : Option Request → Type 0 = λ d. JournalOf services t.caller (HasSent (me s) t.number t.version d) in
    subst D (sym h.2) (subst V (sym h.1) first)
request_partner services s o q stands (Sent x) h = tt
request_partner services s o q stands (Asked a) h = tt
request_partner services s o q stands (Answered a) h = tt
request_partner services s o q stands row h = absurd h

flown_stands : (services : List Kept) (s m : Kept) (o : Origin) (q : Request) → OriginStands services (me s) o q → All (FlightStands services s) m.flights
    → (g : Flight) → IsFlownFrom m o q g → FlightStands services s g
flown_stands services s m o q stands flights g (inl there) = All-contains (FlightStands services s) m.flights g flights there
flown_stands services s m o q stands flights g (inr same) =
    subst (λ r. OriginStands services (me s) g.origin r) (sym same.1) (subst (λ x. OriginStands services (me s) x q) (sym same.0) stands)

-- what it leaves, behind what stands before
pub lived_turns : (services : List Kept) (s m : Kept) (o : Origin) (q : Request) (t : Kept) → Turns services s m → OriginStands services (me s) o q → Lived m o q t
    → Turns services s t
lived_turns services s m o q t first stands l = record {
  grows = record {
    rows = first.grows.rows ++ l.grows.rows;
    is = l.grows.is ∙ ap (λ j. j ++ l.grows.rows) first.grows.is ∙ append_assoc s.journal first.grows.rows l.grows.rows;
    setting = l.grows.setting ∙ first.grows.setting;
  };
  partners = All-append (HasPartner services s) first.grows.rows l.grows.rows first.partners
      (all_of_each (HasPartner services s) l.grows.rows
      (each_weaker (IsOfRequest o q) (HasPartner services s) (request_partner services s o q stands) l.grows.rows l.rows));
  flights = All-weaker (IsFlownFrom m o q) (FlightStands services s) (flown_stands services s m o q stands first.flights) t.flights l.flights;
}

-- ---- the answer of an entry

pub answer_is : (a : AnsweredRow) (c : List ℕ) (n av v : ℕ) (r : _) → a.origin ≡ Call c n → a.answer_version ≡ av → a.version ≡ v → a.response ≡ r → (j : List Row)
    → Contains j (Answered a) → HasAnswered c n av v r j
answer_is a c n av v r origin answer version response j h = (
  a.id,
  a.live,
  subst (λ x. Contains j (Answered x))
      (λ i. record { id = a.id; origin = origin i; answer_version = answer i; version = version i; response = response i; live = a.live }) h,
)

-- an entry's record was given as its last answer
pub entry_answered : (s : Kept) → Fits s → (e : Entry) → find (has_id e.id) s.entries ≡ Some e → (c : List ℕ) (n : ℕ) → e.origin ≡ Call c n → (r : Record) → record_of e ≡ Some r
    → HasAnswered c n e.answer_version r.version r.response s.journal
entry_answered s fits e found c n from r made =
    let has = found_all (HasItsAnswer s.journal) (has_id e.id) s.entries e fits.answered.entries found in
    let mine = sym (ap (option_map (answer_recorded e.answer_version)) made) ∙ has.answer in
    by_last (last_answered e.id s.journal) mine (given_from e.id s.journal)
  where
    b : Begun s e
    b = begun s fits e found

    begun_from : (o : Option AskedRow) → o ≡ Some b.row → (from : Origin) → IsSomeAnd o (λ a. a.origin ≡ from) → from ≡ Call c n
    begun_from None is x h = absurd h
    begun_from (Some a) is x h = (let same : a ≡ b.row = cc in sym h ∙ ap (λ (y : AskedRow). y.origin) same ∙ b.origin ∙ from)

    by_last : (o : Option AnsweredRow) → Some (answer_recorded e.answer_version r) ≡ option_map answer_given o
        → IfSome o (λ a. (a.id ≡ e.id) × Contains s.journal (Answered a)) → HasAnswered c n e.answer_version r.version r.response s.journal
    by_last None is h = cc
    by_last (Some a) is h =
        let same : answer_recorded e.answer_version r ≡ answer_given a = cc in
        let asked_by = given_asked a s.journal fits.answered.rows h.1 in
        let origin = begun_from (asked a.id s.journal) (ap (λ k. asked k s.journal) h.0 ∙ b.is) a.origin asked_by in
        answer_is a c n e.answer_version r.version r.response origin (sym (ap (λ x. x.answer_version) same)) (sym (ap (λ x. x.version) same))
        (sym (ap (λ x. x.response) same)) s.journal h.1

-- ---- an arrival

module _ (services : List Kept) (s : Kept) (fits : Fits s) (flights : FlightsStand services s) where
  stays : (o : Origin) {E : Type 0} (why : E) → Moves services s o (after s (Err why))
  stays o why = record { turns = no_turn services s flights; says = tt }

  admitted_moves : (o : Origin) (q : Request) (i : Inputs) (full : Option ℕ) → OriginStands services (me s) o q → Moves services s o (admitted s o q i full)
  admitted_moves o q i (Some n) stands = stays o (ArriveRefused.Full n)
  admitted_moves o q i None stands =
      let l = goes_on_lives s (new_flight s o q i) in
      record { turns = lived_turns services s s o q (goes_on s (new_flight s o q i)).service (no_turn services s flights) stands l.lived; says = l.says }

  arrives_moves : (o : Origin) (q : Request) (i : Inputs) → OriginStands services (me s) o q → Moves services s o (arrives s o q i)
  arrives_moves o q i stands = admitted_moves o q i (or_else (is_crowded s) (is_heavy s)) stands

  known_moves : (c : List ℕ) (n : ℕ) (e : Entry) → find_call (Call c n) s.entries ≡ Some e → (made : Option Record) → record_of e ≡ made
      → Moves services s (Call c n) (known_by s c n e made)
  known_moves c n e found None is = stays (Call c n) (ArriveRefused.NotYet n)
  known_moves c n e found (Some m) is = record {
    turns = no_turn services s flights;
    says = record {
      from = refl;
      callee = refl;
      given = entry_answered s fits e (found_by_id (has_origin c n) s.entries e fits.asked.distinct found) c n
          (call_is c n e.origin (found_passes (has_origin c n) s.entries e found)) m is;
    };
  }

  or_known_moves : (c : List ℕ) (n : ℕ) (q : Request) (i : Inputs) (o : Option Entry) → find_call (Call c n) s.entries ≡ o → OriginStands services (me s) (Call c n) q
      → Moves services s (Call c n) (arrives_or_known s c n q i o)
  or_known_moves c n q i None is stands = arrives_moves (Call c n) q i stands
  or_known_moves c n q i (Some e) is stands = known_moves c n e is (record_of e) refl

  by_version_moves : (o : Origin) (version : ℕ) (desired : Option Request) (known : After (Result Arrived ArriveRefused)) → Moves services s o known
      → Moves services s o (by_version s version desired known)
  by_version_moves o version None known m = stays o (ArriveRefused.Gone version)
  by_version_moves o version (Some q) known m = m

  unless_gone_moves : (o : Origin) (last : Option TookRow) (known : After (Result Arrived ArriveRefused)) → Moves services s o known → Moves services s o (unless_gone s last known)
  unless_gone_moves o None known m = m
  unless_gone_moves o (Some t) known m = by_version_moves o t.version t.desired known m

  pub arrive_moves : (o : Origin) (q : Request) (i : Inputs) → OriginStands services (me s) o q → Moves services s o (arrive_event s o q i)
  arrive_moves Outside q i stands = arrives_moves Outside q i stands
  arrive_moves (Call c n) q i stands =
      cond_both (is_in_flight (Call c n) s) (after s (Err (ArriveRefused.NotYet n)))
      (unless_gone s (last_taken c n s.journal) (arrives_or_known s c n q i (find_call (Call c n) s.entries))) (Moves services s (Call c n))
      (λ _. stays (Call c n) (ArriveRefused.NotYet n))
      (λ _. unless_gone_moves (Call c n) (last_taken c n s.journal) (arrives_or_known s c n q i (find_call (Call c n) s.entries))
      (or_known_moves c n q i (find_call (Call c n) s.entries) refl stands))

-- ---- what comes back of a call

-- the service to which the register's call goes said so
pub dest_said : (services : List Kept) (s : Kept) → Fits s → (n : ℕ) (r : Register) → register n s.registers ≡ Some r → (P : List Row → Type 0) → JournalOf services r.dest P
    → JournalOfDest services s n P
dest_said services s fits n r found P h =
    let last : Some (sent_by r) ≡ last_sent n s.journal = sym (ap (option_map sent_by) found) ∙ fits.sent.registers n in
    subst (λ o. IsSomeAnd o (λ (x : SentRow). JournalOf services x.dest P)) last h

-- an answer to a call of this service, which the called service gave
pub record IsHeard (services : List Kept) (s : Kept) (a : AnswerMessage) (r : Register) : Type 0 where
  pub there : register a.number s.registers ≡ Some r
  pub dest : r.dest ≡ a.callee
  pub caller : a.caller ≡ me s
  pub answered : WasAnswered services a

pub heard_said : (services : List Kept) (s : Kept) → Fits s → (a : AnswerMessage) (r : Register) → IsHeard services s a r
    → JournalOfDest services s a.number (HasAnswered (me s) a.number a.answer_version a.version a.response)
heard_said services s fits a r h =
    let P : List Row → Type 0 = HasAnswered (me s) a.number a.answer_version a.version a.response in
    let C : List ℕ → Type 0 = λ c. JournalOf services a.callee (HasAnswered c a.number a.answer_version a.version a.response) in
    let D : List ℕ → Type 0 = λ d. JournalOf services d P in
    dest_said services s fits a.number r h.there P (subst D (sym h.dest) (subst C h.caller h.answered))

dest_weaker : (services : List Kept) (o : Option SentRow) (P Q : List Row → Type 0) → ((j : List Row) → P j → Q j)
    → IsSomeAnd o (λ x. JournalOf services x.dest P) → IsSomeAnd o (λ x. JournalOf services x.dest Q)
dest_weaker services None P Q w h = h
dest_weaker services (Some x) P Q w h = at (service_of x.dest services) h
  where
    at : (o : Option Kept) → IsSomeAnd o (λ y. P y.journal) → IsSomeAnd o (λ y. Q y.journal)
    at None h = h
    at (Some y) h = w y.journal h

module _ (services : List Kept) (s : Kept) (fits : Fits s) (flights : FlightsStand services s) where
  saw_ack_partner : (a : AnswerMessage) (r : Register) → IsHeard services s a r
      → HasPartner services s (SawAck (record { number = a.number; version = a.version; how = WithAnswer a.answer_version }))
  saw_ack_partner a r h =
      dest_weaker services (last_sent a.number s.journal) (HasAnswered (me s) a.number a.answer_version a.version a.response)
      (HasAcknowledged (me s) a.number a.version (WithAnswer a.answer_version)) (λ j q. (a.response, q)) (heard_said services s fits a r h)

  heard_partners : (a : AnswerMessage) (r : Register) → IsHeard services s a r → (b : Bool)
      → All (HasPartner services s) (SawAck (record { number = a.number; version = a.version; how = WithAnswer a.answer_version }) ∷ (cond b (seen_live a ∷ []) []))
  heard_partners a r h true =
      All-cons (HasPartner services s) _ (seen_live a ∷ []) (saw_ack_partner a r h)
      (All-cons (HasPartner services s) (seen_live a) [] (heard_said services s fits a r h) (All-nil (HasPartner services s)))
  heard_partners a r h false = All-cons (HasPartner services s) _ [] (saw_ack_partner a r h) (All-nil (HasPartner services s))

  heard_turns : (a : AnswerMessage) (r : Register) → IsHeard services s a r → Turns services s (noted (live_answer_rows s a) s)
  heard_turns a r h = record {
    grows = record { rows = live_answer_rows s a; is = refl; setting = refl };
    partners = heard_partners a r h (is_new_to a (register a.number s.registers));
    flights = flights;
  }

  found_stands : (id : ℕ) (f : Flight) → flight_of id s ≡ Some f → FlightStands services s f
  found_stands id f found = found_all (FlightStands services s) (has_flight id) s.flights f flights found

  answers_of : (a : AnswerMessage) (o : Option Register) → register a.number s.registers ≡ o → answers_register a o ≡ true → a.caller ≡ me s → WasAnswered services a
      → (r : Register) × IsHeard services s a r
  answers_of a None is e caller answered = cc
  answers_of a (Some r) is e caller answered =
      (r, record { there = is; dest = text_is r.dest a.callee (and_parts (same_text r.dest a.callee) (nat_eq r.version a.version) e).0; caller = caller; answered = answered })

  -- an event of a flight of some origin
  abbrev pub FlightMoves : {E : Type 0} → After (Result Arrived E) → Type 0
  FlightMoves a = (o : Origin) × Moves services s o a

  on : (m : Kept) (f : Flight) → Turns services s m → FlightStands services s f → FlightMoves {E = CallRefused} (accepted (goes_on m f))
  on m f first stands =
      let l = goes_on_lives m f in
      (f.origin, record { turns = lived_turns services s m f.origin f.request (goes_on m f).service first stands l.lived; says = l.says })

  rests : (id : ℕ) → FlightMoves {E = CallRefused} (after s (Err (CallRefused.NoFlight id)))
  rests id = (Outside, record { turns = no_turn services s flights; says = tt })

  answered_moves : (id : ℕ) (a : AnswerMessage) (o : Option Flight) → flight_of id s ≡ o → a.caller ≡ me s → WasAnswered services a
      → FlightMoves {E = CallRefused} (answered_flight s id a o)
  answered_moves id a None is caller answered = rests id
  answered_moves id a (Some f) is caller answered =
      cond_both (is_for s a f) (accepted (goes_on (noted (live_answer_rows s a) s) f)) (after s (Err (CallRefused.NoFlight id))) (FlightMoves {E = CallRefused})
      (λ e. let r = answers_of a (register a.number s.registers) refl (and_parts (nat_eq (awaited f) a.number) (answers_register a (register a.number s.registers)) e).1 caller answered in
      on (noted (live_answer_rows s a) s) f (heard_turns a r.0 r.1) (found_stands id f is))
      (λ _. rests id)

  pub call_answered_moves : (id : ℕ) (a : AnswerMessage) → a.caller ≡ me s → WasAnswered services a → FlightMoves {E = CallRefused} (call_answered_event s id a)
  call_answered_moves id a caller answered = answered_moves id a (flight_of id s) refl caller answered

  told_turns : (n : ℕ) (why : Why) → Turns services s (told n why s)
  told_turns n why = record {
    grows = record { rows = []; is = sym (append-nil s.journal); setting = refl };
    partners = All-nil (HasPartner services s);
    flights = flights;
  }

  failed_moves : (id n : ℕ) (why : Why) (o : Option Flight) → flight_of id s ≡ o → FlightMoves {E = CallRefused} (failed_flight s id n why o)
  failed_moves id n why None is = rests id
  failed_moves id n why (Some f) is =
      cond_both (nat_eq (awaited f) n) (accepted (goes_on (told n why s) f)) (after s (Err (CallRefused.NoFlight id))) (FlightMoves {E = CallRefused})
      (λ _. on (told n why s) f (told_turns n why) (found_stands id f is)) (λ _. rests id)

  pub call_failed_moves : (id n : ℕ) (why : Why) → FlightMoves {E = CallRefused} (call_failed_event s id n why)
  call_failed_moves id n why = failed_moves id n why (flight_of id s) refl
