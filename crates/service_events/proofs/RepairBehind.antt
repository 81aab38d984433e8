-- Messages, steps and orders that fold nothing go on behind the horizon.
use Rattle.std.proofs.Common.{◌≡◌, ℕ, ◌+◌, ◌<◌, ◌≤◌, Bool, true, false, not, ◌&&◌, cond, List, [], ◌∷◌, ◌++◌, Option, Some, None, IsSome, IsSomeAnd, Ok, Err, find, if◌then◌else◌, is_some, length, nat_eq, nat_lt, refl, sym, ap, ◌∙◌, subst, arith, append-nil, eqb-true, length-set, lt-ltb, ltb-true, IfSome, option_map}
use Rattle.std.specs.List.{position_or_len}
use Rattle.std.proofs.lemmas.Bool.{cond_both, false_from_ne_true, both_ways}
use Rattle.std.proofs.lemmas.List.{length-map}
use Rattle.lang_base.specs.Texts.{same_text}
use Rattle.lang_core.specs.declared.inputs.Inputs.{Inputs}
use Rattle.lang_core.specs.declared.request.Request.{Request}
use Rattle.lang_core.specs.declared.trace.CallMade.{CallMade}
use Rattle.request_log.specs.Entries.{changed, find_call, has_id, has_origin, mark, replace}
use Rattle.request_log.specs.declared.entry.Entry.{Entry}
use Rattle.request_log.specs.declared.entry.Made.{Made}
use Rattle.create_placement.specs.Placement.{created, place_between}
use Rattle.local_repair.specs.Steps.{calls_of_made, is_new_answer, raised, remade, same_call}
use Rattle.repair_messages.specs.declared.messages.AnswerMessage.{AnswerMessage}
use Rattle.repair_messages.specs.declared.messages.SetMessage.{SetMessage}
use Rattle.repair_messages.specs.declared.messages.TokenMessage.{TokenMessage}
use Rattle.repair_messages.specs.declared.posts.Post.{Post}
use Rattle.repair_messages.specs.declared.posts.Post.TheVariants.{Set, Token, Fetch}
use Rattle.repair_messages.specs.declared.posts.PostName.{PostName}
use Rattle.repair_messages.specs.declared.posts.PostName.TheVariants.{Call as OfCall, Reply as OfReply, Fetch as OfFetch}
use Rattle.journal_rows.specs.Words.{last_noted, last_seen, noted_at, seen_acked}
use Rattle.journal_rows.specs.declared.caller.NotedRow.{NotedRow}
use Rattle.journal_rows.specs.declared.orders.Command.{Command}
use Rattle.journal_rows.specs.declared.orders.Command.TheVariants.{Cancel, Restore, Replace, Create, Retry, Fold, Deploy, Correct, Rules}
use Rattle.journal_rows.specs.declared.row.Row.{Row}
use Rattle.journal_rows.specs.declared.row.Row.TheVariants.{Answered}
use Rattle.call_registers.specs.Registers.{held_version, is_news, is_newer, next_number, register}
use Rattle.call_registers.specs.declared.register.Answer.{Answer}
use Rattle.call_registers.specs.declared.register.Hold.{Hold}
use Rattle.call_registers.specs.declared.register.Register.{Register}
use Rattle.service_events.specs.Calls.{deleted, named, next_after, noted, replaced, settling_rows, slot_rows, keeps_number, seen_answer}
use Rattle.service_events.specs.Fits.{Fits, HasSeen, IsDoneWith, call_in, call_to, count}
use Rattle.service_events.specs.Messages.{acked_again, at_version, confirmed_row, created_entry, created_place, created_row, fetched, fetched_row, hear_new, hear_rule, heard, held_back, held_where, hold_of, is_known, is_now, is_past_call, neighbour, noted_row, origin_of, posted, take_admitted, take_new, taken, taken_by, token_taken_by, token_taken_where, acked_row, hear_allowed, saw_ack_row, took_row, was_confirmed_row}
use Rattle.service_events.specs.Orders.{brought, carried_out, made_under, misnamed, order_rows, place_made, released_post, entry_of}
use Rattle.service_events.specs.State.{Kept, after, answers, base, folded, next_id, unfolded}
use Rattle.service_events.specs.Steps.{Stale, answer_rows, new_numbers, new_record, sent_rows, stale_in, step_by, stepped}
use Rattle.service_events.specs.declared.answers.PostReply.{PostReply}
use Rattle.service_events.specs.declared.answers.PostReply.TheVariants.{Acked as WasAcked, Confirmed as WasConfirmedBack, Given, Refused, Lost}
use Rattle.service_events.specs.declared.answers.Posted.TheVariants.{Saw, Knew, Held, Left}
use Rattle.service_events.specs.declared.refusals.AnswerRefused.{AnswerRefused}
use Rattle.service_events.proofs.AskedLemmas.{hear_either, take_either}
use Rattle.service_events.proofs.BehindLaws.{GoesBehind, behind_same, behind_then}
use Rattle.service_events.proofs.CorrectLaw.{corrected_many, corrected_stays}
use Rattle.service_events.proofs.BehindLemmas.{FoldsNone, IsPastNumber, LeavesCall, noted_below}
use Rattle.service_events.proofs.CallRowLemmas.{Each, each_append}
use Rattle.service_events.proofs.FlightLemmas.{each_found}
use Rattle.service_events.proofs.HorizonLemmas.{behind_horizon, changed_stays, found_past, insert_stays, number_past, with_stays}
use Rattle.service_events.proofs.LiveBehind.{AreNot, LeavesBehind, above_is_not, deleted_leaves, deleted_none}
use Rattle.service_events.proofs.NoteLemmas.{noted_is}
use Rattle.service_events.proofs.PlaceLemmas.{not_counted}
use Rattle.service_events.proofs.SearchLemmas.{length_insert}
use Rattle.service_events.proofs.StepLaw.{is_taken}
use Rattle.repair_messages.specs.declared.messages.Confirm.{Confirm}
use Rattle.service_events.proofs.OrderLaw.{present_is, present_too}

-- ---- settling's rows

slot_none : (registers : List Register) (next number : ℕ) (old new : CallMade) → Each FoldsNone (slot_rows registers next number old new)
slot_none registers next number old new =
    cond_both (same_call old new) []
    (cond (same_text old.dest new.dest) (replaced registers number old.dest new.request ∷ []) (deleted registers number old ∷ named next new ∷ [])) (Each FoldsNone)
    (λ _. tt)
    (λ _. cond_both (same_text old.dest new.dest) (replaced registers number old.dest new.request ∷ []) (deleted registers number old ∷ named next new ∷ []) (Each FoldsNone)
    (λ _. (tt, tt)) (λ _. (tt, (tt, tt))))

slot_leaves : (n : ℕ) (registers : List Register) (next number : ℕ) (old new : CallMade) → nat_eq number n ≡ false → nat_eq next n ≡ false
    → Each (LeavesCall n) (slot_rows registers next number old new)
slot_leaves n registers next number old new own other =
    cond_both (same_call old new) []
    (cond (same_text old.dest new.dest) (replaced registers number old.dest new.request ∷ []) (deleted registers number old ∷ named next new ∷ [])) (Each (LeavesCall n))
    (λ _. tt)
    (λ _. cond_both (same_text old.dest new.dest) (replaced registers number old.dest new.request ∷ []) (deleted registers number old ∷ named next new ∷ []) (Each (LeavesCall n))
    (λ _. (own, tt)) (λ _. (own, (other, tt))))

next_grows : (n next : ℕ) (old new : CallMade) → n < next → n < next_after next old new
next_grows n next old new less = by (keeps_number old new)
  where
    by : (b : Bool) → n < cond b next (next + 1)
    by true = less
    by false = omega (arith, less)

settling_none : (registers : List Register) (ns : List ℕ) (os cs : List CallMade) (next : ℕ) → Each FoldsNone (settling_rows registers next ns os cs)
settling_none registers (n ∷ ns) (o ∷ os) (c ∷ cs) next =
    each_append FoldsNone (slot_rows registers next n o c) (settling_rows registers (next_after next o c) ns os cs) (slot_none registers next n o c)
    (settling_none registers ns os cs (next_after next o c))
settling_none registers (n ∷ ns) (o ∷ os) [] next = deleted_none registers (n ∷ ns) (o ∷ os)
settling_none registers (n ∷ ns) [] cs next = tt
settling_none registers [] [] (c ∷ cs) next = (tt, settling_none registers [] [] cs (next + 1))
settling_none registers [] (o ∷ os) (c ∷ cs) next = (tt, settling_none registers [] (o ∷ os) cs (next + 1))
settling_none registers [] [] [] next = tt
settling_none registers [] (o ∷ os) [] next = tt

settling_leaves : (n : ℕ) (registers : List Register) (ns : List ℕ) (os cs : List CallMade) (next : ℕ) → AreNot n ns → n < next → Each (LeavesCall n) (settling_rows registers next ns os cs)
settling_leaves n registers (m ∷ ms) (o ∷ os) (c ∷ cs) next apart less =
    each_append (LeavesCall n) (slot_rows registers next m o c) (settling_rows registers (next_after next o c) ms os cs)
    (slot_leaves n registers next m o c apart.0 (above_is_not n next less)) (settling_leaves n registers ms os cs (next_after next o c) apart.1 (next_grows n next o c less))
settling_leaves n registers (m ∷ ms) (o ∷ os) [] next apart less = deleted_leaves n registers (m ∷ ms) (o ∷ os) apart
settling_leaves n registers (m ∷ ms) [] cs next apart less = tt
settling_leaves n registers [] [] (c ∷ cs) next apart less = (above_is_not n next less, settling_leaves n registers [] [] cs (next + 1) tt (omega (arith, less)))
settling_leaves n registers [] (o ∷ os) (c ∷ cs) next apart less = (above_is_not n next less, settling_leaves n registers [] (o ∷ os) cs (next + 1) tt (omega (arith, less)))
settling_leaves n registers [] [] [] next apart less = tt
settling_leaves n registers [] (o ∷ os) [] next apart less = tt

module _ (e : Entry) (m : Made) where
  answer_none : (b : Bool) → Each FoldsNone (if b then Answered (record { id = e.id; origin = e.origin; answer_version = raised e.answer_version; version = e.version; response = m.trace.response; live = false }) ∷ [] else [])
  answer_none true = (tt, tt)
  answer_none false = tt

  answer_leaves : (n : ℕ) (b : Bool) → Each (LeavesCall n) (if b then Answered (record { id = e.id; origin = e.origin; answer_version = raised e.answer_version; version = e.version; response = m.trace.response; live = false }) ∷ [] else [])
  answer_leaves n true = (tt, tt)
  answer_leaves n false = tt

-- ---- an answer of a call that is done with isn't fetched

newer_above : (o : Option Answer) (v : ℕ) → is_newer o v ≡ true → 1 ≤ v → held_version o < v
newer_above None v h some = omega (arith, some)
newer_above (Some held) v h some = ltb-true held.answer_version v h

asks_something : (dest : List ℕ) (desired : Option Request) → IsSome (call_to dest desired) → is_some desired ≡ true
asks_something dest None h = cc
asks_something dest (Some q) h = refl

never_both : (asked behind : Bool) → asked ≡ true → behind ≡ true → (asked && behind) ≡ false → ⊥
never_both true true a b none = cc
never_both true false a b none = cc
never_both false behind a b none = cc

-- of a register that is done with, no answer that was announced is newer than the one that is held
none_newer : (r : Register) (v : ℕ) → IsDoneWith r → IsSome (call_in (Some r)) → 1 ≤ v → v ≤ r.noted → is_newer r.answer v ≡ true → ⊥
none_newer r v done wanted some low new =
    let above = newer_above r.answer v new some in
    never_both (is_some r.desired) (nat_lt (held_version r.answer) r.noted) (asks_something r.dest r.desired wanted)
    (lt-ltb (held_version r.answer) r.noted (omega (arith, above, low))) done.fetched

module _ (s : Kept) (f : Fits s) where
  fetches_other : (a : AnswerMessage) (r : Register) (x : NotedRow) → register a.number s.registers ≡ Some r → noted_at a.number a.answer_version s.journal ≡ Some x
      → is_newer r.answer a.answer_version ≡ true → (n : ℕ) → IsPastNumber s n → nat_eq a.number n ≡ false
  fetches_other a r x found announced new n p = false_from_ne_true (nat_eq a.number n) (λ is.
      let here : register n s.registers ≡ Some r = ap (λ k. register k s.registers) (sym (eqb-true a.number n is)) ∙ found in
      let Done : Option Register → Type 0 = λ o. IsSomeAnd o IsDoneWith in
      let Wants : Option Register → Type 0 = λ o. IsSome (call_in o) in
      let Has : Option Register → Type 0 = λ o. IfSome o (HasSeen (seen_acked a.number s.journal) (option_map seen_answer (last_seen a.number s.journal)) (last_noted a.number s.journal)) in
      let has = subst Has found (f.seen.registers a.number) in
      let low = noted_below s.journal f.seen.rows a.number a.answer_version (subst IsSome (sym announced) refl) in
      let told = noted_is (last_noted a.number s.journal) r has.noted in
      none_newer r a.answer_version (subst Done here p.done) (subst Wants here p.wanted) low.0 (let most = low.1 in omega (arith, most, told)) new)

  few : s.horizon ≤ length s.entries
  few = f.horizon.within

  same : GoesBehind s s
  same = behind_same s f.horizon.within

  -- ---- a step

  pub step_by_behind : (o : Option Stale) → stale_in (answers s) (base s) (unfolded s) ≡ o → LeavesBehind s (step_by s o)
  step_by_behind None is = same
  step_by_behind (Some x) is =
      let e = x.entry in
      let m = new_record s x.rows e in
      let y = remade e m (new_numbers s e m) in
      let sent = sent_rows s e m in
      let taken = is_taken s x is f.asked.distinct in
      let many = length-set s.entries (position_or_len (has_id e.id) s.entries) y in
      let within = f.horizon.within in
      behind_then s s (stepped s e m).service (sent ++ answer_rows e m) same refl
      (each_append FoldsNone sent (answer_rows e m) (settling_none s.registers e.slots (calls_of_made e.made) m.trace.calls (next_number s.registers)) (answer_none e m (is_new_answer e.made m)))
      (λ n p. each_append (LeavesCall n) sent (answer_rows e m)
      (settling_leaves n s.registers e.slots (calls_of_made e.made) m.trace.calls (next_number s.registers)
      (not_counted n e.slots (each_found (λ (z : Entry). count n z.slots ≡ 0) (has_id e.id) (unfolded s) e taken.behind p.others)) (let low = p.within in omega (arith, low)))
      (answer_leaves e m n (is_new_answer e.made m)))
      (with_stays s y taken.past) refl refl (omega (arith, within, many)) refl

  -- ---- a version of a call

  taken_by_behind : (set : SetMessage) (i : Inputs) (o : Option Entry) (desired : Option Request) → find_call (origin_of set) (folded s) ≡ None → find_call (origin_of set) s.entries ≡ o
      → GoesBehind s (taken_by s set i o desired)
  taken_by_behind set i (Some e) desired recent is =
      let p : Entry → Bool = has_origin set.caller set.number in
      let behind : find p (unfolded s) ≡ Some e = sym (found_past s p recent) ∙ is in
      let many = length-set s.entries (position_or_len (has_id e.id) s.entries) (at_version set e) in
      let within = f.horizon.within in
      behind_then s s (taken_by s set i (Some e) desired) (took_row s set ∷ (acked_row set ∷ [])) same refl (tt, (tt, tt)) (λ n p. (tt, (tt, tt)))
      (with_stays s (at_version set e) (number_past s p e f.asked.distinct behind)) refl refl (omega (arith, within, many)) refl
  taken_by_behind set i None (Some q) recent is =
      let x = created_entry s set q i in
      let at = created_place s set in
      let many = length_insert s.entries at x in
      let within = f.horizon.within in
      behind_then s s (taken_by s set i None (Some q)) (took_row s set ∷ (created_row s set q i ∷ (acked_row set ∷ []))) same refl
      (tt, (tt, (tt, tt))) (λ n p. (tt, (tt, (tt, tt))))
      (insert_stays s at x (behind_horizon s (place_between (neighbour s set.caller set.before) (neighbour s set.caller set.after) s.entries)) within) refl refl
      (omega (arith, within, many)) refl
  taken_by_behind set i None None recent is =
      behind_then s s (taken_by s set i None None) (took_row s set ∷ (acked_row set ∷ [])) same refl (tt, (tt, tt)) (λ n p. (tt, (tt, tt))) refl refl refl few refl

  pub take_admitted_behind : (set : SetMessage) (i : Inputs) (full : Option ℕ) → LeavesBehind s (take_admitted s set i full)
  take_admitted_behind set i (Some n) = same
  take_admitted_behind set i None =
      cond_both (is_known s set) (after (acked_again s set) (Ok (taken set None))) (take_new s set i) (LeavesBehind s)
      (λ _. behind_then s s (acked_again s set) (acked_row set ∷ []) same refl (tt, tt) (λ n p. (tt, tt)) refl refl refl few refl)
      (λ _. take_either s set i (LeavesBehind s) (λ e. same) same
      (λ recent. taken_by_behind set i (find_call (origin_of set) s.entries) set.desired recent refl))

  -- ---- a token

  recent_call : (number n : ℕ) → is_past_call number s ≡ false → IsPastNumber s n → nat_eq number n ≡ false
  recent_call number n recent p = false_from_ne_true (nat_eq number n) (λ is.
      both_ways (is_past_call number s) recent (ap (λ k. is_past_call k s) (eqb-true number n is) ∙ p.past))

  token_taken_by_behind : (a : TokenMessage) (r : Register) → LeavesBehind s (token_taken_by s a r)
  token_taken_by_behind a r =
      cond_both (not (same_text r.dest a.callee)) (after s (Err (AnswerRefused.Unknown a.number)))
      (cond (is_news r a.answer_version) (hear_new s a r) (after (noted (confirmed_row a ∷ []) s) (Ok (heard a None)))) (LeavesBehind s)
      (λ _. same)
      (λ _. cond_both (is_news r a.answer_version) (hear_new s a r) (after (noted (confirmed_row a ∷ []) s) (Ok (heard a None))) (LeavesBehind s)
      (λ _. hear_either s a r (LeavesBehind s) same same
      (λ recent. behind_then s s (hear_allowed s a r).service (noted_row (hear_rule s a r) a ∷ (confirmed_row a ∷ [])) same refl (tt, (tt, tt))
      (λ n p. (recent_call a.number n recent p, (tt, tt))) refl refl refl few refl))
      (λ _. behind_then s s (noted (confirmed_row a ∷ []) s) (confirmed_row a ∷ []) same refl (tt, tt) (λ n p. (tt, tt)) refl refl refl few refl))

  pub token_taken_where_behind : (a : TokenMessage) (o : Option Register) → LeavesBehind s (token_taken_where s a o)
  token_taken_where_behind a None = same
  token_taken_where_behind a (Some r) = token_taken_by_behind a r

  -- ---- what comes back of a post

  rowless : (t : Kept) → t.journal ≡ s.journal → folded t ≡ folded s → t.base ≡ s.base → t.horizon ≡ s.horizon → t.horizon ≤ length t.entries → t.setting ≡ s.setting → GoesBehind s t
  rowless t is stay base horizon within setting = behind_then s s t [] same (is ∙ sym (append-nil s.journal)) tt (λ n p. tt) stay base horizon within setting

  held_behind : (post : Post) (hold : Hold) → GoesBehind s (held_back s post hold)
  held_behind (Set set) hold = rowless (held_back s (Set set) hold) refl refl refl refl few refl
  held_behind (Token t) hold = rowless (held_back s (Token t) hold) refl refl refl refl few refl
  held_behind (Fetch x) hold = same

  held_where_behind : (post : Post) (o : Option Hold) → LeavesBehind s (held_where s post o)
  held_where_behind post None = same
  held_where_behind post (Some hold) =
      cond_both (is_now s post) (after (held_back s post hold) (Ok Held)) (after s (Ok Left)) (LeavesBehind s) (λ _. held_behind post hold) (λ _. same)

  fetched_behind : (a : AnswerMessage) (o : Option Register) (x : Option NotedRow) → register a.number s.registers ≡ o → noted_at a.number a.answer_version s.journal ≡ x
      → LeavesBehind s (fetched s a o x)
  fetched_behind a None x found announced = same
  fetched_behind a (Some r) None found announced = same
  fetched_behind a (Some r) (Some x) found announced =
      cond_both (is_newer r.answer a.answer_version) (after (noted (fetched_row a x ∷ []) s) (Ok Saw)) (after s (Ok Knew)) (LeavesBehind s)
      (λ new. behind_then s s (noted (fetched_row a x ∷ []) s) (fetched_row a x ∷ []) same refl (tt, tt) (λ n p. (fetches_other a r x found announced new n p, tt)) refl refl refl few refl)
      (λ _. same)

  confirmed_behind : (post : Post) (c : Confirm) → LeavesBehind s (posted s post (WasConfirmedBack c))
  confirmed_behind post c = behind_then s s (posted s post (WasConfirmedBack c)).service (was_confirmed_row c ∷ []) same refl (tt, tt) (λ n p. (tt, tt)) refl refl refl few refl

  pub posted_by_behind : (post : Post) (answer : PostReply) → LeavesBehind s (posted s post answer)
  posted_by_behind post (WasAcked ack) = behind_then s s (noted (saw_ack_row ack ∷ []) s) (saw_ack_row ack ∷ []) same refl (tt, tt) (λ n p. (tt, tt)) refl refl refl few refl
  posted_by_behind post (WasConfirmedBack c) = confirmed_behind post c
  posted_by_behind post (Given a) = fetched_behind a (register a.number s.registers) (noted_at a.number a.answer_version s.journal) refl refl
  posted_by_behind post (Refused word number) = held_where_behind post (hold_of word number)
  posted_by_behind post (Lost note) = same

  -- ---- an order that folds nothing

  at_id_behind : (id : ℕ) (change : Entry → Entry) (rows : List Row) → find (has_id id) (folded s) ≡ None → Each FoldsNone rows
      → ((n : ℕ) → Each (LeavesCall n) rows) → GoesBehind s (noted rows (record s { entries = changed id change s.entries }))
  at_id_behind id change rows recent none leaves =
      let many = length-map s.entries (λ e. cond (has_id id e) (change e) e) in
      let within = f.horizon.within in
      behind_then s s (noted rows (record s { entries = changed id change s.entries })) rows same refl none (λ n p. leaves n) (changed_stays s id change recent) refl refl
      (omega (arith, within, many)) refl

  released_behind : (token who : List ℕ) (i : Inputs) (name : PostName) → GoesBehind s (noted (order_rows s (Retry name) token who i) (released_post who name s))
  released_behind token who i (OfCall n) =
      behind_then s s (noted (order_rows s (Retry (OfCall n)) token who i) (released_post who (OfCall n) s)) (order_rows s (Retry (OfCall n)) token who i) same refl
      ((λ last. refl), tt) (λ n p. (tt, tt)) refl refl refl few refl
  released_behind token who i (OfReply n) =
      behind_then s s (noted (order_rows s (Retry (OfReply n)) token who i) (released_post who (OfReply n) s)) (order_rows s (Retry (OfReply n)) token who i) same refl
      ((λ last. refl), tt) (λ n p. (tt, tt)) refl refl refl few refl
  released_behind token who i (OfFetch n) =
      behind_then s s (noted (order_rows s (Retry (OfFetch n)) token who i) (released_post who (OfFetch n) s)) (order_rows s (Retry (OfFetch n)) token who i) same refl
      ((λ last. refl), tt) (λ n p. (tt, tt)) refl refl refl few refl

  -- what an order that is well named leaves, unless it folds
  abbrev OrdersBehind : Command → List ℕ → List ℕ → Inputs → Type 0
  OrdersBehind (Fold id) token who i = Unit {0}
  OrdersBehind command token who i = GoesBehind s (noted (order_rows s command token who i) (carried_out s command who i))

  pub ordered_behind : (command : Command) (token who : List ℕ) (i : Inputs) → misnamed s command ≡ None → OrdersBehind command token who i
  ordered_behind (Cancel id) token who i ok =
      at_id_behind id (mark true) (order_rows s (Cancel id) token who i) (present_is s id (entry_of id s) ok) ((λ last. refl), tt) (λ n. (tt, tt))
  ordered_behind (Restore id) token who i ok =
      at_id_behind id (mark false) (order_rows s (Restore id) token who i) (present_is s id (entry_of id s) ok) ((λ last. refl), tt) (λ n. (tt, tt))
  ordered_behind (Replace id m p b) token who i ok =
      at_id_behind id (replace m p b) (order_rows s (Replace id m p b) token who i) (present_too s id (entry_of id s) ok) ((λ last. refl), tt) (λ n. (tt, tt))
  ordered_behind (Create before after q) token who i ok =
      let x = created (next_id s) q i (made_under s before after) in
      let at = place_made s before after in
      let many = length_insert s.entries at x in
      let within = f.horizon.within in
      behind_then s s (noted (order_rows s (Create before after q) token who i) (carried_out s (Create before after q) who i)) (order_rows s (Create before after q) token who i) same refl
      ((λ last. refl), (tt, tt)) (λ n p. (tt, (tt, tt)))
      (insert_stays s at x (behind_horizon s (place_between before after s.entries)) within) refl refl (omega (arith, within, many)) refl
  ordered_behind (Retry name) token who i ok = released_behind token who i name
  ordered_behind (Deploy p) token who i ok =
      behind_then s s (noted (order_rows s (Deploy p) token who i) (carried_out s (Deploy p) who i)) (order_rows s (Deploy p) token who i) same refl
      ((λ last. refl), tt) (λ n past. (tt, tt)) refl refl refl few refl
  ordered_behind (Correct k p) token who i ok =
      let many = corrected_many s k (brought s p) in
      let within = f.horizon.within in
      behind_then s s (noted (order_rows s (Correct k p) token who i) (carried_out s (Correct k p) who i)) (order_rows s (Correct k p) token who i) same refl
      ((λ last. refl), tt) (λ n past. (tt, tt)) (corrected_stays s k (brought s p) within) refl refl (omega (arith, within, many)) refl
  ordered_behind (Rules g) token who i ok =
      behind_then s s (noted (order_rows s (Rules g) token who i) (carried_out s (Rules g) who i)) (order_rows s (Rules g) token who i) same refl
      ((λ last. refl), tt) (λ n past. (tt, tt)) refl refl refl few refl
  ordered_behind (Fold id) token who i ok = tt
