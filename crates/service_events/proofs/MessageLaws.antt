-- Events of repair messages keep what fits of calls: a version is taken, a token is taken, something comes back of a post.
use Rattle.std.proofs.Common.{◌≡◌, ℕ, ◌+◌, ◌<◌, ◌≤◌, Bool, true, false, not, ◌&&◌, List, [], ◌∷◌, ◌++◌, Option, Some, None, Ok, Err, IsSome, IfSome, IsSomeAnd, max, map, length, insert, nat_eq, is_some, refl, sym, ap, ◌∙◌, subst, inl, inr, arith, eqb-true, if◌then◌else◌, append-nil}
use Rattle.std.proofs.lemmas.Bool.{cases_Bool, and_parts}
use Rattle.std.proofs.lemmas.List.Sums.{fold_push}
use Rattle.lang_base.specs.Texts.{same_text}
use Rattle.lang_core.specs.declared.ids.Origin.{Origin}
use Rattle.lang_core.specs.declared.ids.Origin.TheVariants.{Outside, Call}
use Rattle.lang_core.specs.declared.inputs.Inputs.{Inputs}
use Rattle.lang_core.specs.declared.request.Request.{Request}
use Rattle.request_log.specs.Entries.{has_origin, find_call, IsDistinct, with_entry}
use Rattle.request_log.specs.declared.entry.Entry.{Entry}
use Rattle.repair_messages.specs.declared.messages.Ack.{Ack}
use Rattle.repair_messages.specs.declared.messages.AnswerMessage.{AnswerMessage}
use Rattle.repair_messages.specs.declared.messages.SetMessage.{SetMessage}
use Rattle.repair_messages.specs.declared.messages.TokenMessage.{TokenMessage}
use Rattle.repair_messages.specs.declared.posts.Post.{Post}
use Rattle.repair_messages.specs.declared.posts.Post.TheVariants.{Set, Token, Fetch}
use Rattle.journal_rows.specs.Words.{sent_step, last_sent, last_seen, seen_version, claimed, last_noted, noted_version, noted_at, confirmed_version, comes_from}
use Rattle.journal_rows.specs.declared.callee.TookRow.{TookRow}
use Rattle.journal_rows.specs.declared.callee.TookHow.TheVariants.{Message}
use Rattle.journal_rows.specs.declared.caller.NotedRow.{NotedRow}
use Rattle.journal_rows.specs.declared.row.Row.{Row}
use Rattle.journal_rows.specs.declared.row.Row.TheVariants.{Ordered}
use Rattle.call_registers.specs.Registers.{register, with_hold, is_news, is_newer}
use Rattle.call_registers.specs.declared.register.Hold.{Hold}
use Rattle.call_registers.specs.declared.register.Register.{Register}
use Rattle.call_registers.specs.Replies.{reply, at_entry, with_taken, made_due}
use Rattle.flights.specs.declared.flight.Flight.{Flight}
use Rattle.service_events.specs.State.{Kept, after, me, is_in_flight, same_call_origin}
use Rattle.service_events.specs.Calls.{noted}
use Rattle.service_events.specs.Messages.{take_rule, take_new, origin_of, is_known, is_too_much, acked_row, took_row, at_reply_of, acked_again, created_entry, created_reply, created_place, created_row, at_version, taken_by, take_admitted, confirmed_row, noted_row, heard, hear_rule, hear_allowed, hear_new, token_taken_where, fetched_row, fetched_by, fetched, had_call, is_ack_of, replies_to, had, is_now, hold_of, held_back, held_where, saw_ack_row, was_confirmed_row, confirmed_reply, posted}
use Rattle.service_events.specs.declared.answers.PostReply.{PostReply}
use Rattle.service_events.specs.declared.answers.PostReply.TheVariants.{Acked as WasAcked, Confirmed as WasConfirmedBack, Given, Refused, Lost}
use Rattle.service_events.specs.declared.refusals.AnswerRefused.TheVariants.{Unknown}
use Rattle.service_events.specs.declared.refusals.TakeRefused.TheVariants.{NotYet}
use Rattle.service_events.specs.Fits.{OrdersOn, calls_of_flight}
use Rattle.service_events.proofs.AskedLemmas.{take_either, hear_either}
use Rattle.service_events.proofs.CallRowLemmas.{Each, kind_follows, IsPlain, IsUnseen, IsUnordered}
use Rattle.service_events.proofs.FlightLemmas.{LeavesOrigin, same_flips, any_none, flies_rows, flies_took}
use Rattle.service_events.proofs.HeardLemmas.{goes_heard, false_is_not_true, known, older_by, claims_below}
use Rattle.service_events.proofs.NoteLemmas.{news_above, no_news_below, told_more}
use Rattle.service_events.proofs.CallLaws.{FitsCalls, Goes, goes_same, goes_then, IsMinor, register_calls}
use Rattle.service_events.proofs.EntryPlaces.{found_stands, places_insert, places_with}
use Rattle.service_events.proofs.PlainLaws.{goes_entries, goes_plain}

no_order : (before : List Row) (row : Row) → IsUnordered row → OrdersOn before row
no_order before (Ordered o) h = absurd h
no_order before row h = tt

-- ---- a version of a call

-- rows that take a version for an origin that isn't in flight
pub leaves_took : (c : List ℕ) (n : ℕ) (g : Origin) (t : TookRow) → t.caller ≡ c → t.number ≡ n → same_call_origin (Call c n) g ≡ false → comes_from g t ≡ false
leaves_took c n Outside t caller number h = refl
leaves_took c n (Call d m) t caller number h =
    ap (λ x. same_text x d && nat_eq t.number m) caller ∙ ap (λ k. same_text c d && nat_eq k m) number ∙ same_flips (Call d m) (Call c n) ∙ h

took_all : (set : SetMessage) (rows : List Row) → ((g : Origin) → same_call_origin (origin_of set) g ≡ false → Each (LeavesOrigin g) rows)
    → (fs : List Flight) → Each (λ (g : Flight). same_call_origin (origin_of set) g.origin ≡ false) fs → Each (λ (g : Flight). Each (LeavesOrigin g.origin) rows) fs
took_all set rows leaves [] h = tt
took_all set rows leaves (g ∷ gs) h = (leaves g.origin h.0, took_all set rows leaves gs h.1)

-- rows of a taken version
goes_took : (s : Kept) (set : SetMessage) (rows : List Row) → is_in_flight (origin_of set) s ≡ false → Each IsPlain rows → Each IsUnseen rows → Each IsUnordered rows
    → ((g : Origin) → same_call_origin (origin_of set) g ≡ false → Each (LeavesOrigin g) rows) → Goes s (noted rows s)
goes_took s set rows apart plain unseen unordered leaves =
    goes_plain s rows plain unseen (λ h. kind_follows OrdersOn IsUnordered no_order rows s.journal unordered)
    (λ h. flies_took s.journal rows s.flights (took_all set rows leaves s.flights (any_none (origin_of set) s.flights apart)) h)

took_leaves : (s : Kept) (set : SetMessage) (g : Origin) → same_call_origin (origin_of set) g ≡ false → LeavesOrigin g (took_row s set)
took_leaves s set g h =
    leaves_took set.caller set.number g (record { caller = set.caller; number = set.number; version = set.version; desired = set.desired; how = Message; who = set.who; rule = take_rule s set }) refl refl h

taken_goes : (s : Kept) (set : SetMessage) (i : Inputs) (e : Option Entry) (d : Option Request) → IsDistinct s.entries → is_in_flight (origin_of set) s ≡ false
    → find_call (origin_of set) s.entries ≡ e → Goes s (taken_by s set i e d)
taken_goes s set i (Some e) d distinct apart found =
    let es = with_entry (at_version set e) s.entries in
    let ps = at_entry e.id (λ p. made_due (length s.journal + 1) (with_taken set.version (is_some set.desired) p)) s.replies in
    let t = record s { entries = es; replies = ps } in
    goes_then s t (taken_by s set i (Some e) d)
    (goes_entries s es ps (places_with s.registers s.entries e (at_version set e) (map calls_of_flight s.flights)
    (found_stands (has_origin set.caller set.number) s.entries e found) refl refl distinct))
    (goes_took t set (took_row s set ∷ (acked_row set ∷ [])) apart (tt, (tt, tt)) (tt, (tt, tt)) (tt, (tt, tt)) (λ g h. (took_leaves s set g h, (tt, tt))))
taken_goes s set i None (Some q) distinct apart found =
    let es = insert s.entries (created_place s set) (created_entry s set q i) in
    let ps = s.replies ++ created_reply s set ∷ [] in
    let t = record s { entries = es; replies = ps } in
    goes_then s t (taken_by s set i None (Some q))
    (goes_entries s es ps (places_insert s.registers s.entries (created_place s set) (created_entry s set q i) (map calls_of_flight s.flights) refl))
    (goes_took t set (took_row s set ∷ (created_row s set q i ∷ (acked_row set ∷ []))) apart
    (tt, (tt, (tt, tt))) (tt, (tt, (tt, tt))) (tt, (tt, (tt, tt))) (λ g h. (took_leaves s set g h, (tt, (tt, tt)))))
taken_goes s set i None None distinct apart found =
    goes_took s set (took_row s set ∷ (acked_row set ∷ [])) apart (tt, (tt, tt)) (tt, (tt, tt)) (tt, (tt, tt)) (λ g h. (took_leaves s set g h, (tt, tt)))

again_goes : (s : Kept) (set : SetMessage) → Goes s (acked_again s set)
again_goes s set =
    let ps = at_reply_of (find_call (origin_of set) s.entries) (made_due (length s.journal)) s.replies in
    let t = record s { replies = ps } in
    goes_then s t (acked_again s set) (goes_entries s s.entries ps (λ h. h))
    (goes_plain t (acked_row set ∷ []) (tt, tt) (tt, tt) (λ h. (tt, tt)) (λ h. flies_rows s.journal (acked_row set ∷ []) s.flights (tt, tt) h))

new_goes : (s : Kept) (set : SetMessage) (i : Inputs) → IsDistinct s.entries → is_in_flight (origin_of set) s ≡ false → Goes s (take_new s set i).service
new_goes s set i distinct apart =
    take_either s set i (λ a. Goes s a.service) (λ e. goes_same s) (goes_same s)
    (λ recent. taken_goes s set i (find_call (origin_of set) s.entries) set.desired distinct apart refl)

admitted_goes : (s : Kept) (set : SetMessage) (i : Inputs) (n : Option ℕ) → IsDistinct s.entries → is_in_flight (origin_of set) s ≡ false
    → Goes s (take_admitted s set i n).service
admitted_goes s set i (Some n) distinct apart = goes_same s
admitted_goes s set i None distinct apart = elim (cases_Bool (is_known s set)) [
  | inl is ↦ rw is (again_goes s set)
  | inr new ↦ rw new (new_goes s set i distinct apart)
]

pub take_by_goes : (s : Kept) (set : SetMessage) (i : Inputs) (b : Bool) → IsDistinct s.entries → is_in_flight (origin_of set) s ≡ b
    → Goes s (if b then after s (Err (NotYet set.number)) else take_admitted s set i (is_too_much s set)).service
take_by_goes s set i true distinct is = goes_same s
take_by_goes s set i false distinct is = admitted_goes s set i (is_too_much s set) distinct is

-- ---- a token

heard_new : (s : Kept) (t : TokenMessage) (r : Register) → register t.number s.registers ≡ Some r → is_news r t.answer_version ≡ true
    → Goes s (hear_allowed s t r).service
heard_new s t r found new =
    let n = t.number in
    let v = t.answer_version in
    goes_heard s (noted_row (hear_rule s t r) t ∷ (confirmed_row t ∷ [])) (tt, (tt, tt)) (tt, (tt, tt)) (tt, (tt, tt))
    (λ f. (let k = known s n r found f in
    let above = news_above r v (last_noted n s.journal) (last_seen n s.journal) k.noted k.answer new in
    ((k.sent, record { announced = above.0; seen = above.1 }), (subst IsSome (sym (fold_push (sent_step n) None s.journal (noted_row (hear_rule s t r) t))) k.sent, tt))))
    (λ f m. elim (cases_Bool (nat_eq n m)) [
      | inl is ↦ (let R : ℕ → Type 0 = λ j. max (confirmed_version j s.journal) v ≤ max (seen_version (last_seen j s.journal)) v in
          rw is ((λ told. absurd (false_is_not_true told)), f.seen.heard m, subst R (eqb-true n m is) (under f)))
      | inr differs ↦ rw differs ((λ told. absurd (false_is_not_true told)), f.seen.heard m, f.seen.told m)
    ])
  where
    under : FitsCalls s → max (confirmed_version t.number s.journal) t.answer_version ≤ max (seen_version (last_seen t.number s.journal)) t.answer_version
    under f =
        let k = known s t.number r found f in
        let above = news_above r t.answer_version (last_noted t.number s.journal) (last_seen t.number s.journal) k.noted k.answer new in
        let told = f.seen.told t.number in
        omega (arith, above.0, above.1, told)

heard_old : (s : Kept) (t : TokenMessage) (r : Register) → register t.number s.registers ≡ Some r → is_news r t.answer_version ≡ false
    → Goes s (noted (confirmed_row t ∷ []) s)
heard_old s t r found old =
    let n = t.number in
    let v = t.answer_version in
    goes_heard s (confirmed_row t ∷ []) (tt, tt) (tt, tt) (tt, tt) (λ f. ((known s n r found f).sent, tt))
    (λ f m. elim (cases_Bool (nat_eq n m)) [
      | inl is ↦ (let R : ℕ → Type 0 = λ j. max (confirmed_version j s.journal) v ≤ max (seen_version (last_seen j s.journal)) (noted_version (last_noted j s.journal)) in
          rw is ((λ told. absurd (false_is_not_true told)), f.seen.heard m, subst R (eqb-true n m is) (under f)))
      | inr differs ↦ rw differs ((λ told. absurd (false_is_not_true told)), f.seen.heard m, f.seen.told m)
    ])
  where
    under : FitsCalls s
        → max (confirmed_version t.number s.journal) t.answer_version ≤ max (seen_version (last_seen t.number s.journal)) (noted_version (last_noted t.number s.journal))
    under f =
        let k = known s t.number r found f in
        let below = no_news_below r t.answer_version (last_noted t.number s.journal) (last_seen t.number s.journal) k.noted k.answer old in
        let told = f.seen.told t.number in
        omega (arith, below, told)

token_taken_by_cases : (s : Kept) (t : TokenMessage) (r : Register) (same new : Bool) → register t.number s.registers ≡ Some r → is_news r t.answer_version ≡ new
    → Goes s
    (if not same then after s (Err (Unknown t.number))
    else (if new
    then hear_new s t r
    else after (noted (confirmed_row t ∷ []) s) (Ok (heard t None)))).service
token_taken_by_cases s t r false new found is = goes_same s
token_taken_by_cases s t r true true found is =
    hear_either s t r (λ a. Goes s a.service) (goes_same s) (goes_same s) (λ recent. heard_new s t r found is)
token_taken_by_cases s t r true false found is = heard_old s t r found is

pub token_taken_where_goes : (s : Kept) (t : TokenMessage) (o : Option Register) → register t.number s.registers ≡ o → Goes s (token_taken_where s t o).service
token_taken_where_goes s t None is = goes_same s
token_taken_where_goes s t (Some r) is = token_taken_by_cases s t r (same_text r.dest t.callee) (is_news r t.answer_version) is refl

-- ---- an answer that was fetched

fetched_new : (s : Kept) (a : AnswerMessage) (r : Register) (n : NotedRow) → register a.number s.registers ≡ Some r → noted_at a.number a.answer_version s.journal ≡ Some n
    → is_newer r.answer a.answer_version ≡ true → Goes s (noted (fetched_row a n ∷ []) s)
fetched_new s a r n found announced new =
    goes_heard s (fetched_row a n ∷ []) (tt, tt) (tt, tt) (tt, tt)
    (λ f. (let k = known s a.number r found f in
    let P : Option NotedRow → Type 0 = λ o. IsSomeAnd o (λ (x : NotedRow). (x.who ≡ n.who) × (x.rule ≡ n.rule)) in
    ((k.sent, older_by r.answer a.answer_version (last_seen a.number s.journal) k.answer new, subst P (sym announced) (refl, refl)), tt)))
    (λ f m. elim (cases_Bool (nat_eq a.number m)) [
      | inl is ↦ (let R : ℕ → Type 0 = λ j. claimed j s.journal ≤ a.answer_version in
          let T : ℕ → Type 0 = λ j. confirmed_version j s.journal ≤ max a.answer_version (noted_version (last_noted j s.journal)) in
          rw is ((λ told. refl), subst R (eqb-true a.number m is) (above f), subst T (eqb-true a.number m is) (under f)))
      | inr differs ↦ rw differs ((λ told. absurd (false_is_not_true told)), f.seen.heard m, f.seen.told m)
    ])
  where
    older : FitsCalls s → IfSome (last_seen a.number s.journal) (λ l. l.answer_version < a.answer_version)
    older f = older_by r.answer a.answer_version (last_seen a.number s.journal) (known s a.number r found f).answer new

    above : FitsCalls s → claimed a.number s.journal ≤ a.answer_version
    above f =
        let most = claims_below (claimed a.number s.journal) a.answer_version (last_seen a.number s.journal) (f.seen.heard a.number) (older f) in
        omega (arith, most)

    under : FitsCalls s → confirmed_version a.number s.journal ≤ max a.answer_version (noted_version (last_noted a.number s.journal))
    under f =
        told_more (confirmed_version a.number s.journal) a.answer_version (noted_version (last_noted a.number s.journal)) (last_seen a.number s.journal)
        (older f) (f.seen.told a.number)

fetched_by_goes : (s : Kept) (a : AnswerMessage) (r : Register) (n : NotedRow) → register a.number s.registers ≡ Some r → noted_at a.number a.answer_version s.journal ≡ Some n
    → Goes s (fetched_by s a r n).service
fetched_by_goes s a r n found announced = elim (cases_Bool (is_newer r.answer a.answer_version)) [
  | inl new ↦ rw new (fetched_new s a r n found announced new)
  | inr old ↦ rw old (goes_same s)
]

fetched_goes : (s : Kept) (a : AnswerMessage) (o : Option Register) (n : Option NotedRow) → register a.number s.registers ≡ o
    → noted_at a.number a.answer_version s.journal ≡ n → Goes s (fetched s a o n).service
fetched_goes s a None n found announced = goes_same s
fetched_goes s a (Some r) None found announced = goes_same s
fetched_goes s a (Some r) (Some n) found announced = fetched_by_goes s a r n found announced

-- ---- what comes back of a post

pub minor_hold : (hold : Hold) → IsMinor (with_hold hold)
minor_hold hold = record { aside = record { number = λ r. refl; sent = λ r. refl }; seen = λ r. (refl, refl, refl); wants = λ r. refl }

goes_held_back : (s : Kept) (post : Post) (hold : Hold) → Goes s (held_back s post hold)
goes_held_back s (Set set) hold = record { grows = record { rows = []; is = sym (append-nil s.journal); setting = refl }; keeps = λ few h. register_calls s set.number (with_hold hold) (minor_hold hold) h }
goes_held_back s (Token t) hold = goes_entries s s.entries (held_back s (Token t) hold).replies (λ h. h)
goes_held_back s (Fetch f) hold = goes_same s

held_goes : (s : Kept) (post : Post) (hold : Option Hold) → Goes s (held_where s post hold).service
held_goes s post None = goes_same s
held_goes s post (Some hold) = elim (cases_Bool (is_now s post)) [
  | inl is ↦ rw is (goes_held_back s post hold)
  | inr isnt ↦ rw isnt (goes_same s)
]

-- a call that the service had was sent
call_sent : (s : Kept) (set : SetMessage) (o : Option Register) → register set.number s.registers ≡ o → had_call set o ≡ true → FitsCalls s
    → IsSome (last_sent set.number s.journal)
call_sent s set None is h f = cc
call_sent s set (Some r) is h f = (known s set.number r is f).sent

acked_goes : (s : Kept) (post : Post) (ack : Ack) → had s post ≡ true → replies_to post (WasAcked ack) ≡ true → Goes s (noted (saw_ack_row ack ∷ []) s)
acked_goes s (Token t) ack have reply = cc
acked_goes s (Fetch f) ack have reply = cc
acked_goes s (Set set) ack have reply =
    goes_heard s (saw_ack_row ack ∷ []) (tt, tt) (tt, tt) (tt, tt)
    (λ f. (let S : ℕ → Type 0 = λ n. IsSome (last_sent n s.journal) in
    let parts = and_parts (same_text set.caller (me s)) (had_call set (register set.number s.registers)) have in
    (subst S (sym (number_of set ack reply)) (call_sent s set (register set.number s.registers) refl parts.1 f), tt)))
    (λ f m. elim (cases_Bool (nat_eq ack.number m)) [
      | inl is ↦ rw is ((λ told. absurd (false_is_not_true told)), f.seen.heard m, f.seen.told m)
      | inr differs ↦ rw differs ((λ told. absurd (false_is_not_true told)), f.seen.heard m, f.seen.told m)
    ])
  where
    number_by : (a b c d : Bool) → (a && b && c && d) ≡ true → c ≡ true
    number_by true true true d h = refl
    number_by true true false d h = cc
    number_by true false c d h = cc
    number_by false b c d h = cc

    number_of : (set : SetMessage) (ack : Ack) → is_ack_of set ack ≡ true → ack.number ≡ set.number
    number_of set ack h =
        eqb-true ack.number set.number
        (number_by (same_text ack.caller set.caller) (same_text ack.dest set.dest) (nat_eq ack.number set.number) (nat_eq ack.version set.version) h)

pub posted_goes : (s : Kept) (post : Post) (answer : PostReply) → had s post ≡ true → replies_to post answer ≡ true → Goes s (posted s post answer).service
posted_goes s post (WasAcked ack) have reply = acked_goes s post ack have reply
posted_goes s post (WasConfirmedBack c) have reply =
    let ps = confirmed_reply s post c.answer_version in
    let t = record s { replies = ps } in
    goes_then s t (noted (was_confirmed_row c ∷ []) t) (goes_entries s s.entries ps (λ h. h))
    (goes_plain t (was_confirmed_row c ∷ []) (tt, tt) (tt, tt) (λ h. (tt, tt)) (λ h. flies_rows s.journal (was_confirmed_row c ∷ []) s.flights (tt, tt) h))
posted_goes s post (Given a) have reply =
    fetched_goes s a (register a.number s.registers) (noted_at a.number a.answer_version s.journal) refl refl
posted_goes s post (Refused word number) have reply = held_goes s post (hold_of word number)
posted_goes s post (Lost note) have reply = goes_same s
