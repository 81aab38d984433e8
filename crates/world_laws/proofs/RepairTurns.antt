-- What the events of repair owe to the world: messages, posts, steps, orders and abandonments.
use Rattle.std.proofs.Common.{◌≡◌, ℕ, ◌<◌, ◌&&◌, Bool, true, false, cond, not, List, [], ◌∷◌, ◌++◌, Option, Some, None, IfSome, All, Contains, Result, Ok, Err, find, is_some, map, if◌then◌else◌, nat_eq, nat_lt, option_map, refl, sym, ap, ◌∙◌, subst, append-nil, arith, eqb-true, ltb-true}
use Rattle.std.proofs.lemmas.Bool.{cond_both, and_parts}
use Rattle.std.proofs.lemmas.List.Elements.{All-nil, All-cons, All-head, All-tail, All-append, All-filter, Contains-append_right, Contains-push}
use Rattle.lang_base.specs.Texts.{same_text}
use Rattle.lang_core.specs.declared.ids.Origin.TheVariants.{Call}
use Rattle.lang_core.specs.declared.inputs.Inputs.{Inputs}
use Rattle.lang_core.specs.declared.request.Request.{Request}
use Rattle.handler_run.specs.HandedOn.{Numbered}
use Rattle.request_log.specs.Entries.{has_id, find_call}
use Rattle.request_log.specs.Records.{Record, record_of}
use Rattle.request_log.specs.declared.entry.Entry.{Entry}
use Rattle.request_log.specs.declared.entry.Made.{Made}
use Rattle.local_repair.specs.Steps.{calls_of_made}
use Rattle.repair_messages.specs.declared.messages.Ack.{Ack}
use Rattle.repair_messages.specs.declared.messages.AnswerMessage.{AnswerMessage}
use Rattle.repair_messages.specs.declared.messages.Confirm.{Confirm}
use Rattle.repair_messages.specs.declared.messages.Fetch.{Fetch as FetchMessage}
use Rattle.repair_messages.specs.declared.messages.SetMessage.{SetMessage}
use Rattle.repair_messages.specs.declared.messages.TokenMessage.{TokenMessage}
use Rattle.repair_messages.specs.declared.posts.Post.{Post}
use Rattle.repair_messages.specs.declared.posts.Post.TheVariants.{Set, Token, Fetch}
use Rattle.repair_messages.specs.declared.posts.PostName.{PostName}
use Rattle.repair_messages.specs.declared.posts.PostName.TheVariants.{Call as OfCall, Reply as OfReply, Fetch as OfFetch}
use Rattle.journal_rows.specs.Words.{last_sent, seen_acked, last_seen, last_noted, noted_at, ordered}
use Rattle.journal_rows.specs.declared.caller.NotedRow.{NotedRow}
use Rattle.journal_rows.specs.declared.orders.Command.{Command}
use Rattle.journal_rows.specs.declared.orders.Command.TheVariants.{Cancel, Restore, Replace, Create, Retry, Fold, Deploy, Correct, Rules}
use Rattle.journal_rows.specs.declared.orders.OrderedRow.{OrderedRow}
use Rattle.journal_rows.specs.declared.row.Row.{Row}
use Rattle.journal_rows.specs.declared.row.Row.TheVariants.{Asked, Answered, Sent, Noted, Ordered}
use Rattle.call_registers.specs.Registers.{register, is_news, is_newer, next_number}
use Rattle.call_registers.specs.Replies.{reply}
use Rattle.call_registers.specs.declared.register.Hold.{Hold}
use Rattle.call_registers.specs.declared.register.Register.{Register}
use Rattle.call_registers.specs.declared.reply.Reply.{Reply}
use Rattle.flights.specs.Corrections.{corrected_flight}
use Rattle.flights.specs.declared.flight.Flight.{Flight}
use Rattle.service_events.specs.Arriving.{abandoned}
use Rattle.service_events.specs.Calls.{noted, all_deleted, seen_answer}
use Rattle.service_events.specs.Event.{event}
use Rattle.service_events.specs.Fits.{Fits, HasAnswered as HasItsAnswer, HasNoted, HasSeen, sent_by}
use Rattle.service_events.specs.Messages.{created_row, hear_new, hear_rule, take_new, take_rule, origin_of, is_known, is_too_much, ack_of, acked_row, took_row, acked_again, taken_by, taken, take_admitted, take_event, confirm_of, confirmed_row, noted_row, heard, token_taken_where, take_token_event, fetched_row, fetched, had_call, has_call, had, is_ack_of, is_given_to, replies_to, is_now, hold_of, held_back, held_where, posted}
use Rattle.service_events.specs.Orders.{brought, order_rows, carried_out, order_by, order_where, refused}
use Rattle.service_events.specs.Posts.{set_message, token_message, token_post, fetch_message, fetch_post, write_post}
use Rattle.service_events.specs.State.{Kept, After, after, me, answers, flight_of, has_flight, next_id, base, unfolded}
use Rattle.service_events.specs.Steps.{Stale, new_record, sent_rows, answer_rows, stepped, stale_in, step_by}
use Rattle.service_events.specs.declared.answers.Heard.{Heard}
use Rattle.service_events.specs.declared.answers.PostReply.{PostReply}
use Rattle.service_events.specs.declared.answers.PostReply.TheVariants.{Acked as WasAcked, Confirmed as WasConfirmedBack, Given, Refused, Lost}
use Rattle.service_events.specs.declared.answers.Posted.TheVariants.{Saw, Knew, Held, Left}
use Rattle.service_events.specs.declared.answers.Taken.{Taken}
use Rattle.service_events.specs.declared.event.Event.{Event}
use Rattle.service_events.specs.declared.event.Event.TheVariants as events
use Rattle.service_events.specs.declared.refusals.AnswerRefused.{AnswerRefused}
use Rattle.service_events.specs.declared.refusals.OrderRefused.{OrderRefused}
use Rattle.service_events.specs.declared.refusals.TakeRefused.{TakeRefused}
use Rattle.service_events.proofs.AskedLemmas.{take_either, hear_either, takes_either, posted_either}
use Rattle.service_events.proofs.KindLemmas.{sends_deleted, sends_settled}
use Rattle.service_events.proofs.CallRowLemmas.{Each, each_append, each_weaker, all_of_each, IsSending}
use Rattle.service_events.proofs.EntryLemmas.{found_itself}
use Rattle.service_events.proofs.PartLemmas.{logged}
use Rattle.service_events.proofs.PostedLaw.{of_entry}
use Rattle.service_events.proofs.RegisterLemmas.{found_number}
use Rattle.service_events.proofs.SearchLemmas.{text_is, found_all}
use Rattle.world_agreement.specs.Partners.{JournalOf, JournalOfDest, HasSent, HasAcked, HasAnswered, HasGiven, HasConfirmed, HasPartner}
use Rattle.world_events.specs.Sound.{WasSent, WasAnswered, WasNoted, OriginStands, PostReplyStands, FlightStands, FlightsStand}
use Rattle.world_laws.proofs.LiveTurns.{dest_said, entry_answered, arrive_moves, call_answered_moves, call_failed_moves}
use Rattle.world_laws.proofs.StillLemmas.{sent_from, noted_from}
use Rattle.world_laws.proofs.TurnLaws.{Turns, no_turn}

-- ---- rows that speak of no other service

abbrev IsOwn : Row → Type 0
IsOwn (Sent s) = Unit {0}
IsOwn (Answered a) = Unit {0}
IsOwn (Asked a) = Unit {0}
IsOwn (Ordered o) = Unit {0}
IsOwn row = ⊥

own_partner : (services : List Kept) (s : Kept) (row : Row) → IsOwn row → HasPartner services s row
own_partner services s (Sent x) h = tt
own_partner services s (Answered a) h = tt
own_partner services s (Asked a) h = tt
own_partner services s (Ordered o) h = tt
own_partner services s row h = absurd h

sending_own : (row : Row) → IsSending row → IsOwn row
sending_own (Sent s) h = tt
sending_own row h = absurd h

own_turns : (services : List Kept) (s t : Kept) (rows : List Row) → t.journal ≡ s.journal ++ rows → t.setting ≡ s.setting → Each IsOwn rows → All (FlightStands services s) t.flights
    → Turns services s t
own_turns services s t rows journal setting own flights = record {
  grows = record { rows = rows; is = journal; setting = setting };
  partners = all_of_each (HasPartner services s) rows (each_weaker IsOwn (HasPartner services s) (own_partner services s) rows own);
  flights = flights;
}

-- a flight stands whatever its program is
corrected_stands : (services : List Kept) (s : Kept) (m : Numbered) (f : Flight) (b : Bool) → FlightStands services s f → FlightStands services s (if b then record f { program = m } else f)
corrected_stands services s m f true stands = stands
corrected_stands services s m f false stands = stands

corrected_stand : (services : List Kept) (s : Kept) (k : ℕ) (m : Numbered) (fs : List Flight) → All (FlightStands services s) fs → All (FlightStands services s) (map (corrected_flight k m) fs)
corrected_stand services s k m [] stand = All-nil (FlightStands services s)
corrected_stand services s k m (f ∷ fs) stand =
    All-cons (FlightStands services s) (corrected_flight k m f) (map (corrected_flight k m) fs)
    (corrected_stands services s m f (nat_eq f.program.number k) (All-head (FlightStands services s) f fs stand))
    (corrected_stand services s k m fs (All-tail (FlightStands services s) f fs stand))

-- only registers and replies change
quiet_turns : (services : List Kept) (s t : Kept) → t.journal ≡ s.journal → t.setting ≡ s.setting → t.flights ≡ s.flights → FlightsStand services s → Turns services s t
quiet_turns services s t journal setting same flights = record {
  grows = record { rows = []; is = journal ∙ sym (append-nil s.journal); setting = setting };
  partners = All-nil (HasPartner services s);
  flights = subst (All (FlightStands services s)) (sym same) flights;
}

-- the answer that a token announces was given
abbrev pub WasGiven : List Kept → TokenMessage → Type 0
WasGiven services t = JournalOf services t.callee (HasGiven t.caller t.number t.answer_version)

-- what is asked of what an event brings: the service that it names did what it says
abbrev pub TurnsWhere : List Kept → Kept → Event → Type 0
TurnsWhere services s (events.Arrive o q i) = OriginStands services (me s) o q
TurnsWhere services s (events.CallAnswered id a) = (a.caller ≡ me s) × WasAnswered services a
TurnsWhere services s (events.Take set i) = WasSent services set × (set.dest ≡ me s)
TurnsWhere services s (events.TakeToken t) = (t.caller ≡ me s) × WasGiven services t
TurnsWhere services s (events.Posted post reply) = PostReplyStands services post reply
TurnsWhere services s e = Unit {0}

module _ (services : List Kept) (s : Kept) (fits : Fits s) (flights : FlightsStand services s) where
  -- ---- a step, an order, an abandonment

  answer_own : (e : Entry) (m : Made) (b : Bool) (row : Row) → IsOwn row → Each IsOwn (cond b (row ∷ []) [])
  answer_own e m true row own = (own, tt)
  answer_own e m false row own = tt

  stepped_turns : (e : Entry) (m : Made) → Turns services s (stepped s e m).service
  stepped_turns e m =
      own_turns services s (stepped s e m).service (sent_rows s e m ++ answer_rows e m) refl refl
      (each_append IsOwn (sent_rows s e m) (answer_rows e m)
      (each_weaker IsSending IsOwn sending_own (sent_rows s e m) (sends_settled s.registers e.slots (calls_of_made e.made) m.trace.calls (next_number s.registers)))
      (answer_own e m _ _ tt))
      flights

  step_by_turns : (o : Option Stale) → Turns services s (step_by s o).service
  step_by_turns None = no_turn services s flights
  step_by_turns (Some x) = stepped_turns x.entry (new_record s x.rows x.entry)

  ordered_turns : (command : Command) (token who : List ℕ) (i : Inputs) → Turns services s (noted (order_rows s command token who i) (carried_out s command who i))
  ordered_turns (Cancel id) token who i = own_turns services s _ (order_rows s (Cancel id) token who i) refl refl (tt, tt) flights
  ordered_turns (Restore id) token who i = own_turns services s _ (order_rows s (Restore id) token who i) refl refl (tt, tt) flights
  ordered_turns (Replace id method path body) token who i =
      own_turns services s _ (order_rows s (Replace id method path body) token who i) refl refl (tt, tt) flights
  ordered_turns (Create before behind q) token who i =
      own_turns services s _ (order_rows s (Create before behind q) token who i) refl refl (tt, (tt, tt)) flights
  ordered_turns (Retry (OfCall n)) token who i = own_turns services s _ (order_rows s (Retry (OfCall n)) token who i) refl refl (tt, tt) flights
  ordered_turns (Retry (OfReply id)) token who i = own_turns services s _ (order_rows s (Retry (OfReply id)) token who i) refl refl (tt, tt) flights
  ordered_turns (Retry (OfFetch n)) token who i = own_turns services s _ (order_rows s (Retry (OfFetch n)) token who i) refl refl (tt, tt) flights
  ordered_turns (Fold id) token who i = own_turns services s _ (order_rows s (Fold id) token who i) refl refl (tt, tt) flights
  ordered_turns (Deploy p) token who i = own_turns services s _ (order_rows s (Deploy p) token who i) refl refl (tt, tt) flights
  ordered_turns (Correct k p) token who i =
      own_turns services s _ (order_rows s (Correct k p) token who i) refl refl (tt, tt) (corrected_stand services s k (brought s p) s.flights flights)
  ordered_turns (Rules g) token who i = own_turns services s _ (order_rows s (Rules g) token who i) refl refl (tt, tt) flights

  order_by_turns : (command : Command) (token who : List ℕ) (i : Inputs) (o : Option OrderRefused) → Turns services s (order_by s command token who i o).service
  order_by_turns command token who i (Some why) = no_turn services s flights
  order_by_turns command token who i None = ordered_turns command token who i

  order_where_turns : (command : Command) (token who : List ℕ) (i : Inputs) (o : Option OrderedRow) → Turns services s (order_where s command token who i o).service
  order_where_turns command token who i (Some o) = no_turn services s flights
  order_where_turns command token who i None = order_by_turns command token who i (refused s command who)

  abandoned_turns : (o : Option Flight) → Turns services s (abandoned s o).service
  abandoned_turns None = no_turn services s flights
  abandoned_turns (Some f) =
      own_turns services s _ (all_deleted s.registers f.numbers f.calls) refl refl
      (each_weaker IsSending IsOwn sending_own (all_deleted s.registers f.numbers f.calls) (sends_deleted s.registers f.numbers f.calls))
      (All-filter (λ g. not (has_flight f.id g)) (FlightStands services s) s.flights flights)

  -- ---- a version of a call is taken

  -- what is said of it: that it was acknowledged
  abbrev pub SaysAcked : SetMessage → Kept → Result Taken TakeRefused → Type 0
  SaysAcked set t (Ok taken) = (taken.ack ≡ ack_of set) × HasAcked set.caller set.number set.version t.journal
  SaysAcked set t (Err why) = Unit {0}

  pub record Takes (set : SetMessage) (a : After (Result Taken TakeRefused)) : Type 0 where
    pub turns : Turns services s a.service
    pub says : SaysAcked set a.service a.answer

  -- rows that end with the acknowledgement
  took_turns : (t : Kept) (rows : List Row) (set : SetMessage) → t.journal ≡ s.journal ++ (rows ++ acked_row set ∷ []) → t.setting ≡ s.setting → t.flights ≡ s.flights
      → All (HasPartner services s) rows → Turns services s t
  took_turns t rows set journal setting same partners = record {
    grows = record { rows = rows ++ acked_row set ∷ []; is = journal; setting = setting };
    partners = All-append (HasPartner services s) rows (acked_row set ∷ []) partners (All-cons (HasPartner services s) (acked_row set) [] tt (All-nil (HasPartner services s)));
    flights = subst (All (FlightStands services s)) (sym same) flights;
  }

  acked_last : (t : Kept) (rows : List Row) (set : SetMessage) → t.journal ≡ s.journal ++ (rows ++ acked_row set ∷ []) → HasAcked set.caller set.number set.version t.journal
  acked_last t rows set journal =
      subst (HasAcked set.caller set.number set.version) (sym journal)
      (Contains-append_right s.journal (rows ++ acked_row set ∷ []) (acked_row set) (Contains-push rows (acked_row set)))

  module _ (set : SetMessage) (sent : WasSent services set) (dest : set.dest ≡ me s) where
    took_partner : HasPartner services s (took_row s set)
    took_partner = (let D : List ℕ → Type 0 = λ d. JournalOf services set.caller (HasSent d set.number set.version set.desired) in subst D dest sent)

    takes_by : (t : Kept) (rows : List Row) (by : Option ℕ) → t.journal ≡ s.journal ++ (rows ++ acked_row set ∷ []) → t.setting ≡ s.setting → t.flights ≡ s.flights
        → All (HasPartner services s) rows → Takes set (after t (Ok (taken set by)))
    takes_by t rows by journal setting same partners =
        record { turns = took_turns t rows set journal setting same partners; says = (refl, acked_last t rows set journal) }

    takes_new : (i : Inputs) (o : Option Entry) (d : Option Request) → Takes set (after (taken_by s set i o d) (Ok (taken set (Some (take_rule s set)))))
    takes_new i (Some e) d =
        takes_by (taken_by s set i (Some e) d) (took_row s set ∷ []) (Some (take_rule s set)) refl refl refl
        (All-cons (HasPartner services s) (took_row s set) [] took_partner (All-nil (HasPartner services s)))
    takes_new i None (Some q) =
        let asks : Row = created_row s set q i in
        takes_by (taken_by s set i None (Some q)) (took_row s set ∷ (asks ∷ [])) (Some (take_rule s set)) refl refl refl
        (All-cons (HasPartner services s) (took_row s set) (asks ∷ []) took_partner (All-cons (HasPartner services s) asks [] tt (All-nil (HasPartner services s))))
    takes_new i None None =
        takes_by (taken_by s set i None None) (took_row s set ∷ []) (Some (take_rule s set)) refl refl refl
        (All-cons (HasPartner services s) (took_row s set) [] took_partner (All-nil (HasPartner services s)))

    takes_not : (why : TakeRefused) → Takes set (after s (Err why))
    takes_not why = record { turns = no_turn services s flights; says = tt }

    admitted_takes : (i : Inputs) (full : Option ℕ) → Takes set (take_admitted s set i full)
    admitted_takes i (Some n) = takes_not (TakeRefused.Full n)
    admitted_takes i None =
        cond_both (is_known s set) (after (acked_again s set) (Ok (taken set None))) (take_new s set i) (Takes set)
        (λ _. takes_by (acked_again s set) [] None refl refl refl (All-nil (HasPartner services s)))
        (λ _. take_either s set i (Takes set) (λ e. takes_not (TakeRefused.TooOld e.id)) (takes_not (TakeRefused.Denied (take_rule s set)))
        (λ _. takes_new i (find_call (origin_of set) s.entries) set.desired))

    pub take_takes : (i : Inputs) → Takes set (take_event s set i)
    take_takes i =
        takes_either s set i (Takes set) (takes_not (TakeRefused.NotYet set.number)) (admitted_takes i (is_too_much s set))

  -- ---- a token is taken

  abbrev pub SaysHeard : TokenMessage → Kept → Result Heard AnswerRefused → Type 0
  SaysHeard a t (Ok h) = (h.confirm ≡ confirm_of a) × HasConfirmed a.number a.answer_version t.journal
  SaysHeard a t (Err why) = Unit {0}

  pub record KeepsOver (a : TokenMessage) (x : After (Result Heard AnswerRefused)) : Type 0 where
    pub turns : Turns services s x.service
    pub says : SaysHeard a x.service x.answer

  module _ (a : TokenMessage) (caller : a.caller ≡ me s) (given : WasGiven services a) where
    token_said : (r : Register) → register a.number s.registers ≡ Some r → r.dest ≡ a.callee → JournalOfDest services s a.number (HasGiven (me s) a.number a.answer_version)
    token_said r found dest =
        let P : List Row → Type 0 = HasGiven (me s) a.number a.answer_version in
        let C : List ℕ → Type 0 = λ c. JournalOf services a.callee (HasGiven c a.number a.answer_version) in
        let D : List ℕ → Type 0 = λ d. JournalOf services d P in
        dest_said services s fits a.number r found P (subst D (sym dest) (subst C caller given))

    hears_not : (why : AnswerRefused) → KeepsOver a (after s (Err why))
    hears_not why = record { turns = no_turn services s flights; says = tt }

    hears_by : (rows : List Row) (by : Option ℕ) → All (HasPartner services s) rows → KeepsOver a (after (noted (rows ++ confirmed_row a ∷ []) s) (Ok (heard a by)))
    hears_by rows by partners = record {
      turns = record {
        grows = record { rows = rows ++ confirmed_row a ∷ []; is = refl; setting = refl };
        partners = All-append (HasPartner services s) rows (confirmed_row a ∷ []) partners (All-cons (HasPartner services s) (confirmed_row a) [] tt (All-nil (HasPartner services s)));
        flights = flights;
      };
      says = (refl, Contains-append_right s.journal (rows ++ confirmed_row a ∷ []) (confirmed_row a) (Contains-push rows (confirmed_row a)));
    }

    heard_new : (r : Register) → register a.number s.registers ≡ Some r → r.dest ≡ a.callee → (b : Bool)
        → KeepsOver a (cond b (hear_new s a r) (after (noted (confirmed_row a ∷ []) s) (Ok (heard a None))))
    heard_new r found dest true =
        let row = noted_row (hear_rule s a r) a in
        hear_either s a r (KeepsOver a) (hears_not (AnswerRefused.TooOld a.number)) (hears_not (AnswerRefused.Denied (hear_rule s a r)))
        (λ _. hears_by (row ∷ []) (Some (hear_rule s a r)) (All-cons (HasPartner services s) row [] (token_said r found dest) (All-nil (HasPartner services s))))
    heard_new r found dest false = hears_by [] None (All-nil (HasPartner services s))

    heard_if : (r : Register) → register a.number s.registers ≡ Some r → (b : Bool) → same_text r.dest a.callee ≡ b
        → KeepsOver a (cond (not b) (after s (Err (AnswerRefused.Unknown a.number)))
        (cond (is_news r a.answer_version) (hear_new s a r) (after (noted (confirmed_row a ∷ []) s) (Ok (heard a None)))))
    heard_if r found true is =
        heard_new r found (text_is r.dest a.callee is) (is_news r a.answer_version)
    heard_if r found false is = hears_not (AnswerRefused.Unknown a.number)

    heard_of : (o : Option Register) → register a.number s.registers ≡ o → KeepsOver a (token_taken_where s a o)
    heard_of None found = hears_not (AnswerRefused.Unknown a.number)
    heard_of (Some r) found = heard_if r found (same_text r.dest a.callee) refl

    pub take_token_hears : KeepsOver a (take_token_event s a)
    take_token_hears = heard_of (register a.number s.registers) refl

  -- ---- something comes back of a post

  acked_turns : (set : SetMessage) (ack : Ack) → had s (Set set) ≡ true → is_ack_of set ack ≡ true → PostReplyStands services (Set set) (WasAcked ack)
      → Turns services s (posted s (Set set) (WasAcked ack)).service
  acked_turns set ack has is stands =
      let parts = and_parts (same_text set.caller (me s)) (had_call set (register set.number s.registers)) has in
      let caller = text_is set.caller (me s) parts.0 in
      of_register (register set.number s.registers) refl parts.1 caller
    where
      of_register : (o : Option Register) → register set.number s.registers ≡ o → had_call set o ≡ true → set.caller ≡ me s → Turns services s (posted s (Set set) (WasAcked ack)).service
      of_register None found e caller = cc
      of_register (Some r) found e caller =
          let goes = text_is r.dest set.dest (and_parts (same_text r.dest set.dest) _ e).0 in
          let one = and_parts (same_text ack.caller set.caller && same_text ack.dest set.dest && nat_eq ack.number set.number) (nat_eq ack.version set.version) is in
          let two = and_parts (same_text ack.caller set.caller && same_text ack.dest set.dest) (nat_eq ack.number set.number) one.0 in
          let three = and_parts (same_text ack.caller set.caller) (same_text ack.dest set.dest) two.0 in
          let from : ack.caller ≡ me s = text_is ack.caller set.caller three.0 ∙ caller in
          let to : ack.dest ≡ r.dest = text_is ack.dest set.dest three.1 ∙ sym goes in
          let number : ack.number ≡ set.number = eqb-true ack.number set.number two.1 in
          let C : List ℕ → Type 0 = λ c. JournalOf services ack.dest (HasAcked c ack.number ack.version) in
          let D : List ℕ → Type 0 = λ d. JournalOf services d (HasAcked (me s) ack.number ack.version) in
          let partner = dest_said services s fits ack.number r (ap (λ k. register k s.registers) number ∙ found) (HasAcked (me s) ack.number ack.version) (subst D to (subst C from stands)) in
          record {
            grows = record { rows = _ ∷ []; is = refl; setting = refl };
            partners = All-cons (HasPartner services s) _ [] partner (All-nil (HasPartner services s));
            flights = flights;
          }

  confirmed_turns : (a : TokenMessage) (c : Confirm) → PostReplyStands services (Token a) (WasConfirmedBack c) → Turns services s (posted s (Token a) (WasConfirmedBack c)).service
  confirmed_turns a c stands = record {
    grows = record { rows = _ ∷ []; is = refl; setting = refl };
    partners = All-cons (HasPartner services s) _ [] stands (All-nil (HasPartner services s));
    flights = flights;
  }

  -- an answer that was fetched of the service to which the call goes
  fetched_turns : (a : AnswerMessage) → JournalOf services a.callee (HasAnswered (me s) a.number a.answer_version a.version a.response)
      → (f : FetchMessage) → f.callee ≡ a.callee → (o : Option Register) → register a.number s.registers ≡ o → has_call f o ≡ true → (n : Option NotedRow)
      → Turns services s (fetched s a o n).service
  fetched_turns a given f same None found has n = no_turn services s flights
  fetched_turns a given f same (Some r) found has None = no_turn services s flights
  fetched_turns a given f same (Some r) found has (Some n) =
      let P : List Row → Type 0 = HasAnswered (me s) a.number a.answer_version a.version a.response in
      let D : List ℕ → Type 0 = λ d. JournalOf services d P in
      let dest : a.callee ≡ r.dest = sym same ∙ sym (text_is r.dest f.callee has) in
      let partner = dest_said services s fits a.number r found P (subst D dest given) in
      cond_both (is_newer r.answer a.answer_version) (after (noted (fetched_row a n ∷ []) s) (Ok Saw)) (after s (Ok Knew)) (λ x. Turns services s x.service)
      (λ _. record {
        grows = record { rows = fetched_row a n ∷ []; is = refl; setting = refl };
        partners = All-cons (HasPartner services s) (fetched_row a n) [] partner (All-nil (HasPartner services s));
        flights = flights;
      })
      (λ _. no_turn services s flights)

  given_turns : (f : FetchMessage) (a : AnswerMessage) → had s (Fetch f) ≡ true → is_given_to f a ≡ true → PostReplyStands services (Fetch f) (Given a)
      → Turns services s (posted s (Fetch f) (Given a)).service
  given_turns f a has is stands =
      let first = and_parts (same_text f.caller (me s) && has_call f (register f.number s.registers)) (is_some (noted_at f.number f.answer_version s.journal)) has in
      let second = and_parts (same_text f.caller (me s)) (has_call f (register f.number s.registers)) first.0 in
      let caller = text_is f.caller (me s) second.0 in
      let one = and_parts (same_text a.callee f.callee && nat_eq a.number f.number) (nat_eq a.answer_version f.answer_version) is in
      let two = and_parts (same_text a.callee f.callee) (nat_eq a.number f.number) one.0 in
      let number : a.number ≡ f.number = eqb-true a.number f.number two.1 in
      let C : List ℕ → Type 0 = λ c. JournalOf services a.callee (HasAnswered c a.number a.answer_version a.version a.response) in
      let H : ℕ → Type 0 = λ k. has_call f (register k s.registers) ≡ true in
      fetched_turns a (subst C caller stands) f (sym (text_is a.callee f.callee two.0)) (register a.number s.registers) refl (subst H (sym number) second.1)
      (noted_at a.number a.answer_version s.journal)

  held_turns : (post : Post) (hold : Hold) → Turns services s (held_back s post hold)
  held_turns (Set set) hold = quiet_turns services s _ refl refl refl flights
  held_turns (Token a) hold = quiet_turns services s _ refl refl refl flights
  held_turns (Fetch f) hold = no_turn services s flights

  held_where_turns : (post : Post) (o : Option Hold) → Turns services s (held_where s post o).service
  held_where_turns post None = no_turn services s flights
  held_where_turns post (Some hold) =
      cond_both (is_now s post) (after (held_back s post hold) (Ok Held)) (after s (Ok Left)) (λ x. Turns services s x.service)
      (λ _. held_turns post hold) (λ _. no_turn services s flights)

  replied_turns : (post : Post) (answer : PostReply) → had s post ≡ true → replies_to post answer ≡ true → PostReplyStands services post answer
      → Turns services s (posted s post answer).service
  replied_turns (Set set) (WasAcked ack) has is stands = acked_turns set ack has is stands
  replied_turns (Set set) (WasConfirmedBack c) has is stands = cc
  replied_turns (Set set) (Given a) has is stands = cc
  replied_turns (Token t) (WasAcked ack) has is stands = cc
  replied_turns (Token t) (WasConfirmedBack c) has is stands = confirmed_turns t c stands
  replied_turns (Token t) (Given a) has is stands = cc
  replied_turns (Fetch f) (WasAcked ack) has is stands = cc
  replied_turns (Fetch f) (WasConfirmedBack c) has is stands = cc
  replied_turns (Fetch f) (Given a) has is stands = given_turns f a has is stands
  replied_turns post (Refused word n) has is stands = held_where_turns post (hold_of word n)
  replied_turns post (Lost note) has is stands = no_turn services s flights

  -- ---- all events

  pub event_turns : (e : Event) → TurnsWhere services s e → Turns services s (event s e).service
  event_turns (events.Arrive o q i) stands = (arrive_moves services s fits flights o q i stands).turns
  event_turns (events.CallAnswered id a) of = (call_answered_moves services s fits flights id a of.0 of.1).1.turns
  event_turns (events.CallFailed id n why) _ = (call_failed_moves services s fits flights id n why).1.turns
  event_turns (events.Abandon id) _ = abandoned_turns (flight_of id s)
  event_turns (events.Take set i) of = (take_takes set of.0 of.1 i).turns
  event_turns (events.TakeToken t) of = (take_token_hears t of.0 of.1).turns
  event_turns (events.Give f) _ = no_turn services s flights
  event_turns (events.NextPost dest) _ = no_turn services s flights
  event_turns (events.WritePost name) _ = no_turn services s flights
  event_turns (events.Posted post reply) stands =
      posted_either s post reply (λ x. Turns services s x.service) (no_turn services s flights) (λ has is. replied_turns post reply has is stands)
  event_turns events.Step _ = step_by_turns (stale_in (answers s) (base s) (unfolded s))
  event_turns (events.Order command token who i) _ = order_where_turns command token who i (ordered token s.journal)

  -- ---- a post is written

  -- it stands in this service's own journal
  abbrev pub StandsHere : Post → Type 0
  StandsHere (Set set) = (set.caller ≡ me s) × HasSent set.dest set.number set.version set.desired s.journal
  StandsHere (Token t) = (t.callee ≡ me s) × HasGiven t.caller t.number t.answer_version s.journal
  StandsHere (Fetch f) = (f.caller ≡ me s) × WasNoted f.number f.answer_version s.journal

  call_here : (n : ℕ) (o : Option Register) → register n s.registers ≡ o → IfSome (option_map (λ r. Set (set_message s r)) o) StandsHere
  call_here n None found = tt
  call_here n (Some r) found =
      let last : Some (sent_by r) ≡ last_sent n s.journal = sym (ap (option_map sent_by) found) ∙ fits.sent.registers n in
      let from = subst (λ o. IfSome o (λ x. (x.number ≡ n) × Contains s.journal (Sent x))) (sym last) (sent_from n s.journal) in
      (refl, from.1)

  -- what was answered last to a call was given
  given_here : (p : Reply) (e : Entry) → find (has_id e.id) s.entries ≡ Some e → e.origin ≡ Call p.caller p.number → p.answer_version ≡ e.answer_version → 0 < p.answer_version
      → (o : Option Record) → record_of e ≡ o → HasGiven p.caller p.number p.answer_version s.journal
  given_here p e found from version above None is =
      let none : e.answer_version ≡ 0 = (found_all (HasItsAnswer s.journal) (has_id e.id) s.entries e fits.answered.entries found).first is in
      absurd (omega (arith, none, version, above))
  given_here p e found from version above (Some m) is =
      let G : ℕ → Type 0 = λ v. HasGiven p.caller p.number v s.journal in
      subst G (sym version) (m.version, m.response, entry_answered s fits e found p.caller p.number from m is)

  token_here : (p : Reply) → (0 < p.answer_version → HasGiven p.caller p.number p.answer_version s.journal) → (b : Bool) → nat_lt 0 p.answer_version ≡ b
      → IfSome (cond b (Some (Token (token_message s p))) None) StandsHere
  token_here p given true is = (refl, given (ltb-true 0 p.answer_version is))
  token_here p given false is = tt

  reply_here : (id : ℕ) (o : Option Reply) → reply id s.replies ≡ o → IfSome (token_post s o) StandsHere
  reply_here id None found = tt
  reply_here id (Some p) found =
      let of = of_entry s.journal s.entries s.replies id p (logged s fits) found in
      let by_id : find (has_id (of.entry).id) s.entries ≡ Some of.entry =
      ap (λ k. find (has_id k) s.entries) (found_itself s.entries p.id of.entry of.found) ∙ of.found in
      token_here p (λ above. given_here p of.entry by_id of.from of.reply.answer_version above (record_of of.entry) refl) (nat_lt 0 p.answer_version) refl

  -- what a register says was announced, a token announced
  noted_here : (n : ℕ) (r : Register) → r.number ≡ n → 0 < r.noted → (o : Option NotedRow) → HasNoted o r → IfSome o (λ t. (t.number ≡ n) × Contains s.journal (Noted t))
      → WasNoted r.number r.noted s.journal
  noted_here n r number above None has from = (let none = has.0 in absurd (omega (arith, none, above)))
  noted_here n r number above (Some t) has from =
      let N : ℕ → Type 0 = λ k. WasNoted k r.noted s.journal in
      let V : ℕ → Type 0 = λ v. WasNoted t.number v s.journal in
      subst N (from.0 ∙ sym number) (subst V (sym has.0) (t.who, t.rule, from.1))

  fetch_here : (n : ℕ) (r : Register) → r.number ≡ n → (0 < r.noted → WasNoted r.number r.noted s.journal) → (b : Bool) → nat_lt 0 r.noted ≡ b
      → IfSome (cond b (Some (Fetch (fetch_message s r))) None) StandsHere
  fetch_here n r number noted true is = (refl, noted (ltb-true 0 r.noted is))
  fetch_here n r number noted false is = tt

  announced_here : (n : ℕ) (o : Option Register) → register n s.registers ≡ o → IfSome (fetch_post s o) StandsHere
  announced_here n None found = tt
  announced_here n (Some r) found =
      let number = found_number n s.registers r found in
      let seen = subst (λ o. IfSome o (λ (x : Register). HasNoted (last_noted n s.journal) x)) found (announced_of (register n s.registers) (fits.seen.registers n)) in
      fetch_here n r number (λ above. noted_here n r number above (last_noted n s.journal) seen (noted_from n s.journal)) (nat_lt 0 r.noted) refl
    where
      announced_of : (o : Option Register) → IfSome o (HasSeen (seen_acked n s.journal) (option_map seen_answer (last_seen n s.journal)) (last_noted n s.journal)) → IfSome o (λ (x : Register). HasNoted (last_noted n s.journal) x)
      announced_of None h = tt
      announced_of (Some x) h = h.noted

  pub written_here : (name : PostName) → IfSome (write_post s name) StandsHere
  written_here (OfCall n) = call_here n (register n s.registers) refl
  written_here (OfReply id) = reply_here id (reply id s.replies) refl
  written_here (OfFetch n) = announced_here n (register n s.registers) refl
