-- Steps, messages and orders keep what follows from the journal of programs and rules.
use Rattle.std.proofs.Common.{◌≡◌, ℕ, zero, suc, ◌+◌, ◌≤◌, Bool, true, false, not, cond, List, [], ◌∷◌, ◌++◌, All, Option, Some, None, IsSomeAnd, Ok, Err, find, insert, is_some, length, map, option_map, slice_get, drop, take, refl, sym, ap, ◌∙◌, subst, arith}
use Rattle.std.specs.List.{AllByRecursion as Each, position_or_len}
use Rattle.std.proofs.lemmas.Bool.{cond_both}
use Rattle.std.proofs.lemmas.List.Elements.{All-append, All-cons, All-drop, All-head, All-map, All-nil, All-set, All-tail, All-take, All-weaker}
use Rattle.lang_base.specs.Texts.{same_text}
use Rattle.lang_core.specs.declared.cells.Cell.{Cell}
use Rattle.lang_core.specs.declared.ids.Origin.TheVariants.{Outside}
use Rattle.lang_core.specs.declared.inputs.Inputs.{Inputs}
use Rattle.lang_core.specs.declared.request.Request.{Request}
use Rattle.lang_tree.specs.declared.program.Route.{Route}
use Rattle.request_log.specs.Entries.{changed, find_call, has_id, has_origin, mark, replace, with_entry}
use Rattle.request_log.specs.Folded.{bare, bare_by}
use Rattle.request_log.specs.Records.{record_in}
use Rattle.request_log.specs.declared.entry.Entry.{Entry}
use Rattle.request_log.specs.declared.entry.Made.{Made}
use Rattle.local_repair.specs.Current.{IsCurrentRecord, after_entry}
use Rattle.local_repair.specs.Steps.{calls_of_made, is_new_answer, raised, remade}
use Rattle.create_placement.specs.Placement.{created, place_between}
use Rattle.repair_messages.specs.declared.messages.AnswerMessage.{AnswerMessage}
use Rattle.repair_messages.specs.declared.messages.SetMessage.{SetMessage}
use Rattle.repair_messages.specs.declared.messages.TokenMessage.{TokenMessage}
use Rattle.repair_messages.specs.declared.posts.Post.{Post}
use Rattle.repair_messages.specs.declared.posts.Post.TheVariants.{Set, Token, Fetch}
use Rattle.repair_messages.specs.declared.posts.PostName.{PostName}
use Rattle.repair_messages.specs.declared.posts.PostName.TheVariants.{Call as OfCall, Reply as OfReply, Fetch as OfFetch}
use Rattle.journal_rows.specs.Programs.{is_number}
use Rattle.journal_rows.specs.Words.{asked, folded_by, noted_at}
use Rattle.journal_rows.specs.declared.callee.AskedRow.{AskedRow}
use Rattle.journal_rows.specs.declared.caller.NotedRow.{NotedRow}
use Rattle.journal_rows.specs.declared.orders.About.TheVariants.{Request as AboutRequest}
use Rattle.journal_rows.specs.declared.orders.Command.{Command}
use Rattle.journal_rows.specs.declared.orders.Command.TheVariants.{Cancel, Restore, Replace, Create, Retry, Fold, Deploy, Correct, Rules}
use Rattle.journal_rows.specs.declared.orders.OrderedRow.{OrderedRow}
use Rattle.journal_rows.specs.declared.row.Row.{Row}
use Rattle.journal_rows.specs.declared.row.Row.TheVariants.{Answered, Ordered}
use Rattle.call_registers.specs.Registers.{is_news, is_newer, next_number, register}
use Rattle.call_registers.specs.declared.register.Hold.{Hold}
use Rattle.call_registers.specs.declared.register.Register.{Register}
use Rattle.service_events.specs.Calls.{noted}
use Rattle.service_events.specs.Fits.{Fits, FitsPrograms, IsInUse, IsUnder, ProgramsFollow, WasUnder}
use Rattle.service_events.specs.Messages.{acked_again, acked_row, at_version, confirmed_row, created_entry, created_place, created_row, created_under, fetched, fetched_row, hear_new, hear_rule, heard, held_back, held_where, hold_of, is_known, is_now, neighbour, noted_row, origin_of, posted, saw_ack_row, take_admitted, take_new, taken, taken_by, token_taken_by, token_taken_where, took_row, was_confirmed_row}
use Rattle.service_events.specs.Orders.{brought, carried_out, corrected_on, entry_of, first_unquiet, folded_on, made_under, order_by, order_rows, order_rule, order_where, place_made, refused, released_post, to_fold}
use Rattle.service_events.specs.State.{Kept, after, answers, base, folded, next_id, program_for, program_or, unfolded, where_needed}
use Rattle.service_events.specs.Steps.{Stale, answer_rows, new_numbers, new_record, sent_rows, stale_in, step_by}
use Rattle.service_events.specs.declared.answers.PostReply.{PostReply}
use Rattle.service_events.specs.declared.answers.PostReply.TheVariants.{Acked as WasAcked, Confirmed as WasConfirmedBack, Given, Refused, Lost}
use Rattle.service_events.specs.declared.answers.Posted.TheVariants.{Saw, Knew, Held, Left}
use Rattle.service_events.specs.declared.refusals.AnswerRefused.{AnswerRefused}
use Rattle.service_events.specs.declared.refusals.OrderRefused.{OrderRefused}
use Rattle.service_events.proofs.AskedLemmas.{hear_either, take_either}
use Rattle.service_events.proofs.CallerLaws.{each_append}
use Rattle.service_events.proofs.CorrectLaw.{corrected_stays, corrected_unfolded}
use Rattle.service_events.proofs.FoldLaw.{AreQuietEntries, quiet_are, then_folded, then_unfolded}
use Rattle.service_events.proofs.FreshLemmas.{unmade}
use Rattle.service_events.proofs.HorizonLemmas.{all_inserted, behind_horizon, changed_stays, changed_unfolded, found_past, insert_stays, number_past, with_stays, with_unfolded}
use Rattle.service_events.proofs.LiveUnder.{LeavesUnder, callers_ask, new_under}
use Rattle.service_events.proofs.OrderLaw.{IsNamed, present_is, present_too, quiet_by, to_fold_is, well_named}
use Rattle.service_events.proofs.PartLemmas.{logged}
use Rattle.service_events.proofs.ProgramLemmas.{AsksUnder, number_there, programs_more, programs_with, there_more}
use Rattle.service_events.proofs.ProgramOrders.{corrected_follow, deployed_follow, ruled_follow}
use Rattle.service_events.proofs.SearchLemmas.{found_all}
use Rattle.service_events.proofs.StepLaw.{is_taken, settling_callers}

-- ---- the program of an entry that is made

got_all : (P : Entry → Type 0) (at : ℕ) (es : List Entry) (e : Entry) → All P es → slice_get es at ≡ Some e → P e
got_all P zero [] e all is = cc
got_all P (suc at) [] e all is = cc
got_all P zero (x ∷ es) e all is = (let same : x ≡ e = cc in subst P same (All-head P x es all))
got_all P (suc at) (x ∷ es) e all is = got_all P at es e (All-tail P x es all) is

got_behind : (P : Entry → Type 0) (h at : ℕ) (es : List Entry) (e : Entry) → h ≤ at → All P (drop h es) → slice_get es at ≡ Some e → P e
got_behind P zero at es e low all is = got_all P at es e all is
got_behind P (suc h) zero es e low all is = absurd (omega (arith, low))
got_behind P (suc h) (suc at) [] e low all is = cc
got_behind P (suc h) (suc at) (x ∷ es) e low all is = got_behind P h at es e (omega (arith, low)) all is

-- the program for a place behind the folded entries is in use
pub use_for : (s : Kept) (place : ℕ) → s.horizon ≤ place → FitsPrograms s → IsInUse s.setting.program s.journal (program_for s place)
use_for s place low h = by (slice_get s.entries place) refl
  where
    by : (o : Option Entry) → slice_get s.entries place ≡ o → IsInUse s.setting.program s.journal (program_or s.newest o)
    by None is = h.current
    by (Some e) is = (got_behind (IsUnder s.setting.program s.journal) s.horizon place s.entries e low h.entries is).now

-- ---- entries like others, whose programs are the same

abbrev SameUnder : (Entry → Entry) → Type 0
SameUnder f = (first : List Route) (j : List Row) (e : Entry) → IsUnder first j e → IsUnder first j (f e)

module _ (s : Kept) (f : Fits s) where
  h : FitsPrograms s
  h = f.programs

  free : asked (next_id s) s.journal ≡ None
  free = unmade s.journal s.entries s.replies (logged s f)

  -- rows come
  more : (rows : List Row) → Each (AsksUnder s.journal) rows → ProgramsFollow s.setting.program s.began s.rules s.newest (s.journal ++ rows) (folded s) (unfolded s) s.flights
  more rows asks = programs_more s.setting.program s.began s.rules s.newest (folded s) (unfolded s) s.flights s.journal rows asks h

  -- rows come, and the entries are others, where the folded ones stay
  entries_more : (rows : List Row) (es : List Entry) (behind : List Entry) → Each (AsksUnder s.journal) rows → take s.horizon es ≡ folded s → drop s.horizon es ≡ behind
      → (All (IsUnder s.setting.program (s.journal ++ rows)) (unfolded s) → All (IsUnder s.setting.program (s.journal ++ rows)) behind)
      → ProgramsFollow s.setting.program s.began s.rules s.newest (s.journal ++ rows) (take s.horizon es) (drop s.horizon es) s.flights
  entries_more rows es behind asks stay is keeps =
      let m = more rows asks in
      subst (λ past. ProgramsFollow s.setting.program s.began s.rules s.newest (s.journal ++ rows) past (drop s.horizon es) s.flights) (sym stay)
      (subst (λ l. ProgramsFollow s.setting.program s.began s.rules s.newest (s.journal ++ rows) (folded s) l s.flights) (sym is)
      (programs_with s.setting.program s.began s.rules s.newest (folded s) (unfolded s) s.flights (s.journal ++ rows) behind s.flights m (keeps m.entries) m.flights))

  -- ---- a step

  answer_asks : (e : Entry) (m : Made) (b : Bool)
      → Each (AsksUnder s.journal) (cond b (Answered (record { id = e.id; origin = e.origin; answer_version = raised e.answer_version; version = e.version; response = m.trace.response; live = false }) ∷ []) [])
  answer_asks e m true = (tt, tt)
  answer_asks e m false = tt

  pub step_by_under : (o : Option Stale) → stale_in (answers s) (base s) (unfolded s) ≡ o → LeavesUnder (step_by s o)
  step_by_under None is = h
  step_by_under (Some x) is =
      let e = x.entry in
      let m = new_record s x.rows e in
      let y = remade e m (new_numbers s e m) in
      let t = is_taken s x is f.asked.distinct in
      let rows = sent_rows s e m ++ answer_rows e m in
      let U : Entry → Type 0 = IsUnder s.setting.program (s.journal ++ (sent_rows s e m ++ answer_rows e m)) in
      entries_more rows (with_entry y s.entries) (with_entry y (unfolded s))
      (each_append (AsksUnder s.journal) (sent_rows s e m) (answer_rows e m)
      (callers_ask s.journal (sent_rows s e m) (settling_callers s.registers e.slots (calls_of_made e.made) m.trace.calls (next_number s.registers)))
      (answer_asks e m (is_new_answer e.made m)))
      (with_stays s y t.past) (with_unfolded s y t.past)
      (λ all. let u = found_all U (has_id e.id) (unfolded s) e all t.behind in
      All-set U (unfolded s) (position_or_len (has_id y.id) (unfolded s)) y (record { number = u.number; now = u.now; ran = u.now.there }) all)

  -- ---- a version of a call

  taken_by_under : (set : SetMessage) (i : Inputs) (o : Option Entry) (desired : Option Request) → find_call (origin_of set) (folded s) ≡ None → find_call (origin_of set) s.entries ≡ o
      → FitsPrograms (taken_by s set i o desired)
  taken_by_under set i (Some e) desired recent is =
      let p : Entry → Bool = has_origin set.caller set.number in
      let behind : find p (unfolded s) ≡ Some e = sym (found_past s p recent) ∙ is in
      let past = number_past s p e f.asked.distinct behind in
      let y = at_version set e in
      let U : Entry → Type 0 = IsUnder s.setting.program (s.journal ++ (took_row s set ∷ (acked_row set ∷ []))) in
      entries_more (took_row s set ∷ (acked_row set ∷ [])) (with_entry y s.entries) (with_entry y (unfolded s)) (tt, (tt, tt)) (with_stays s y past) (with_unfolded s y past)
      (λ all. let u = found_all U p (unfolded s) e all behind in
      All-set U (unfolded s) (position_or_len (has_id y.id) (unfolded s)) y (record { number = u.number; now = u.now; ran = u.ran }) all)
  taken_by_under set i None (Some q) recent is =
      let n = created_under s set in
      let low = behind_horizon s (place_between (neighbour s set.caller set.before) (neighbour s set.caller set.after) s.entries) in
      let used = use_for s (created_place s set) low h in
      let a : AskedRow = record { id = next_id s; origin = origin_of set; request = q; inputs = i; program = n.number } in
      let x = created_entry s set q i in
      let rows : List Row = took_row s set ∷ (created_row s set q i ∷ (acked_row set ∷ [])) in
      let asks : Each (AsksUnder s.journal) (took_row s set ∷ (created_row s set q i ∷ (acked_row set ∷ []))) =
      (tt, ((number_there s.setting.program s.journal n used.there, used.stands), (tt, tt))) in
      let new = new_under s.setting.program s.journal (took_row s set ∷ []) (acked_row set ∷ []) a n x refl refl refl free (tt, tt) asks used in
      entries_more rows (insert s.entries (created_place s set) x) (drop s.horizon (insert s.entries (created_place s set) x)) asks
      (insert_stays s (created_place s set) x low f.horizon.within) refl
      (all_inserted (IsUnder s.setting.program (s.journal ++ (took_row s set ∷ (created_row s set q i ∷ (acked_row set ∷ []))))) s (created_place s set) x low f.horizon.within new)
  taken_by_under set i None None recent is = more (took_row s set ∷ (acked_row set ∷ [])) (tt, (tt, tt))

  pub take_admitted_under : (set : SetMessage) (i : Inputs) (full : Option ℕ) → LeavesUnder (take_admitted s set i full)
  take_admitted_under set i (Some n) = h
  take_admitted_under set i None =
      cond_both (is_known s set) (after (acked_again s set) (Ok (taken set None))) (take_new s set i) LeavesUnder
      (λ _. more (acked_row set ∷ []) (tt, tt))
      (λ _. take_either s set i LeavesUnder (λ e. h) h (λ recent. taken_by_under set i (find_call (origin_of set) s.entries) set.desired recent refl))

  -- ---- a token

  token_taken_by_under : (a : TokenMessage) (r : Register) → LeavesUnder (token_taken_by s a r)
  token_taken_by_under a r =
      cond_both (not (same_text r.dest a.callee)) (after s (Err (AnswerRefused.Unknown a.number)))
      (cond (is_news r a.answer_version) (hear_new s a r) (after (noted (confirmed_row a ∷ []) s) (Ok (heard a None)))) LeavesUnder
      (λ _. h)
      (λ _. cond_both (is_news r a.answer_version) (hear_new s a r) (after (noted (confirmed_row a ∷ []) s) (Ok (heard a None))) LeavesUnder
      (λ _. hear_either s a r LeavesUnder h h (λ _. more (noted_row (hear_rule s a r) a ∷ (confirmed_row a ∷ [])) (tt, (tt, tt))))
      (λ _. more (confirmed_row a ∷ []) (tt, tt)))

  pub token_taken_where_under : (a : TokenMessage) (o : Option Register) → LeavesUnder (token_taken_where s a o)
  token_taken_where_under a None = h
  token_taken_where_under a (Some r) = token_taken_by_under a r

  -- ---- what comes back of a post

  held_under : (post : Post) (hold : Hold) → FitsPrograms (held_back s post hold)
  held_under (Set set) hold = h
  held_under (Token t) hold = h
  held_under (Fetch x) hold = h

  held_where_under : (post : Post) (o : Option Hold) → LeavesUnder (held_where s post o)
  held_where_under post None = h
  held_where_under post (Some hold) =
      cond_both (is_now s post) (after (held_back s post hold) (Ok Held)) (after s (Ok Left)) LeavesUnder (λ _. held_under post hold) (λ _. h)

  fetched_under : (a : AnswerMessage) (o : Option Register) (n : Option NotedRow) → LeavesUnder (fetched s a o n)
  fetched_under a None n = h
  fetched_under a (Some r) None = h
  fetched_under a (Some r) (Some n) =
      cond_both (is_newer r.answer a.answer_version) (after (noted (fetched_row a n ∷ []) s) (Ok Saw)) (after s (Ok Knew)) LeavesUnder
      (λ _. more (fetched_row a n ∷ []) (tt, tt)) (λ _. h)

  pub posted_by_under : (post : Post) (answer : PostReply) → LeavesUnder (posted s post answer)
  posted_by_under post (WasAcked ack) = more (saw_ack_row ack ∷ []) (tt, tt)
  posted_by_under post (WasConfirmedBack c) = more (was_confirmed_row c ∷ []) (tt, tt)
  posted_by_under post (Given a) = fetched_under a (register a.number s.registers) (noted_at a.number a.answer_version s.journal)
  posted_by_under post (Refused word number) = held_where_under post (hold_of word number)
  posted_by_under post (Lost note) = h

  -- ---- an order

  -- entries of a number change, but not their programs
  at_id_under : (id : ℕ) (change : Entry → Entry) (rows : List Row) → SameUnder change → find (has_id id) (folded s) ≡ None → Each (AsksUnder s.journal) rows
      → ProgramsFollow s.setting.program s.began s.rules s.newest (s.journal ++ rows) (take s.horizon (changed id change s.entries)) (drop s.horizon (changed id change s.entries)) s.flights
  at_id_under id change rows same recent asks =
      let U : Entry → Type 0 = IsUnder s.setting.program (s.journal ++ rows) in
      entries_more rows (changed id change s.entries) (changed id change (unfolded s)) asks (changed_stays s id change recent) (changed_unfolded s id change)
      (λ all. All-map U (λ e. cond (has_id id e) (change e) e) (unfolded s)
      (All-weaker U (λ e. U (cond (has_id id e) (change e) e))
      (λ e u. cond_both (has_id id e) (change e) e U (λ _. same s.setting.program (s.journal ++ rows) e u) (λ _. u)) (unfolded s) all))

  released_under : (token who : List ℕ) (i : Inputs) (name : PostName) → FitsPrograms (noted (order_rows s (Retry name) token who i) (released_post who name s))
  released_under token who i (OfCall n) = more (order_rows s (Retry (OfCall n)) token who i) (tt, tt)
  released_under token who i (OfReply n) = more (order_rows s (Retry (OfReply n)) token who i) (tt, tt)
  released_under token who i (OfFetch n) = more (order_rows s (Retry (OfFetch n)) token who i) (tt, tt)

  made_here : (token who : List ℕ) (i : Inputs) (before after : Option ℕ) (q : Request)
      → FitsPrograms (noted (order_rows s (Create before after q) token who i) (carried_out s (Create before after q) who i))
  made_here token who i before after q =
      let at = place_made s before after in
      let n = made_under s before after in
      let low = behind_horizon s (place_between before after s.entries) in
      let used = use_for s at low h in
      let a : AskedRow = record { id = next_id s; origin = Outside; request = q; inputs = i; program = n.number } in
      let order : Row = Ordered (record { token = token; command = Create before after q; who = who; rule = order_rule s (Create before after q) who; original = None; repaired = Some q; about = AboutRequest (next_id s) }) in
      let x = created (next_id s) q i n in
      let asks : Each (AsksUnder s.journal) (order_rows s (Create before after q) token who i) = (tt, ((number_there s.setting.program s.journal n used.there, used.stands), tt)) in
      let new = new_under s.setting.program s.journal (order ∷ []) [] a n x refl refl refl free (tt, tt) asks used in
      entries_more (order_rows s (Create before after q) token who i) (insert s.entries at x) (drop s.horizon (insert s.entries at x)) asks
      (insert_stays s at x low f.horizon.within) refl
      (all_inserted (IsUnder s.setting.program (s.journal ++ order_rows s (Create before after q) token who i)) s at x low f.horizon.within new)

  -- those that a fold folds have the programs that they had when it was ordered
  module _ (id : ℕ) (o : OrderedRow) (folds : o.command ≡ Fold id) where
    bare_was : (x : Entry) (rows : List Cell) (made : Option Made) → IsSomeAnd made (λ m. IsCurrentRecord (answers s) rows x m) → IsUnder s.setting.program s.journal x
        → WasUnder s.setting.program (s.journal ++ Ordered o ∷ []) (bare_by x (option_map record_in made))
    bare_was x rows None current u = absurd current
    bare_was x rows (Some m) current u = record {
      before = s.journal;
      order = o;
      rest = [];
      is = refl;
      folds = ap (λ c. is_some (folded_by None c)) folds;
      number = u.number;
      there = there_more s.setting.program s.journal (Ordered o ∷ []) x.under.now u.now.there;
      ran = refl;
    }

    all_were : (es : List Entry) (rows : List Cell) → AreQuietEntries s rows es → All (IsUnder s.setting.program s.journal) es
        → All (WasUnder s.setting.program (s.journal ++ Ordered o ∷ [])) (map bare es)
    all_were [] rows quiet all = All-nil (WasUnder s.setting.program (s.journal ++ Ordered o ∷ []))
    all_were (x ∷ xs) rows quiet all =
        let U : Entry → Type 0 = IsUnder s.setting.program s.journal in
        All-cons (WasUnder s.setting.program (s.journal ++ Ordered o ∷ [])) (bare x) (map bare xs) (bare_was x rows x.made quiet.0.current (All-head U x xs all))
        (all_were xs (after_entry rows x) quiet.1 (All-tail U x xs all))

  folded_here : (token who : List ℕ) (i : Inputs) (id : ℕ) → IsNamed s (Fold id) → FitsPrograms (noted (order_rows s (Fold id) token who i) (carried_out s (Fold id) who i))
  folded_here token who i id ok =
      let at = to_fold_is s id (entry_of id s) refl ok.0 in
      let quiet = quiet_by (first_unquiet s (base s) (to_fold id s)) ok.1 in
      let n = length (to_fold id s) in
      let t = folded_on n s in
      let o : OrderedRow = record { token = token; command = Fold id; who = who; rule = order_rule s (Fold id) who; original = None; repaired = None; about = AboutRequest id } in
      let rows = order_rows s (Fold id) token who i in
      let m = more rows (tt, tt) in
      let first : List Route = s.setting.program in
      let count = position_or_len (has_id id) (unfolded s) + 1 in
      let were = all_were id o refl (to_fold id s) (base s) (quiet_are s (to_fold id s) (base s) quiet) (All-take (IsUnder first s.journal) count (unfolded s) h.entries) in
      subst (λ past. ProgramsFollow s.setting.program s.began s.rules s.newest (s.journal ++ rows) past (unfolded t) s.flights) (sym (then_folded s f id at.0 at.1 quiet))
      (subst (λ l. ProgramsFollow s.setting.program s.began s.rules s.newest (s.journal ++ rows) (folded s ++ map bare (to_fold id s)) l s.flights) (sym (then_unfolded s f id at.0 at.1 quiet))
      (record {
        rows = m.rows;
        rules = m.rules;
        newest = m.newest;
        current = m.current;
        past = All-append (WasUnder first (s.journal ++ rows)) (folded s) (map bare (to_fold id s)) m.past were;
        entries = All-drop (IsUnder first (s.journal ++ rows)) n (unfolded s) m.entries;
        flights = m.flights;
      }))

  -- a correction is of a program that there is
  known_by_then : (b : Bool) (why : OrderRefused) → where_needed (not b) (Some why) ≡ None → b ≡ true
  known_by_then true why none = refl
  known_by_then false why none = cc

  corrected_here : (token who : List ℕ) (i : Inputs) (k : ℕ) (p : List Route) → IsNamed s (Correct k p)
      → FitsPrograms (noted (order_rows s (Correct k p) token who i) (carried_out s (Correct k p) who i))
  corrected_here token who i k p ok =
      let n = brought s p in
      let t = corrected_on k n s in
      let rows = order_rows s (Correct k p) token who i in
      let known = known_by_then (is_number k s.journal) (OrderRefused.NoSuchProgram k) ok.0 in
      subst (λ past. ProgramsFollow s.setting.program s.began s.rules t.newest (s.journal ++ rows) past (unfolded t) t.flights) (sym (corrected_stays s k n f.horizon.within))
      (subst (λ l. ProgramsFollow s.setting.program s.began s.rules t.newest (s.journal ++ rows) (folded s) l t.flights) (sym (corrected_unfolded s k n f.horizon.within))
      (corrected_follow s.setting.program s.began s.rules s.newest s.journal (folded s) (unfolded s) s.flights h token who (order_rule s (Correct k p) who) None None p k known))

  ordered_under : (command : Command) (token who : List ℕ) (i : Inputs) → IsNamed s command → FitsPrograms (noted (order_rows s command token who i) (carried_out s command who i))
  ordered_under (Cancel id) token who i ok =
      at_id_under id (mark true) (order_rows s (Cancel id) token who i) (λ first j e u. record { number = u.number; now = u.now; ran = u.ran }) (present_is s id (entry_of id s) ok.0) (tt, tt)
  ordered_under (Restore id) token who i ok =
      at_id_under id (mark false) (order_rows s (Restore id) token who i) (λ first j e u. record { number = u.number; now = u.now; ran = u.ran }) (present_is s id (entry_of id s) ok.0) (tt, tt)
  ordered_under (Replace id m p b) token who i ok =
      at_id_under id (replace m p b) (order_rows s (Replace id m p b) token who i) (λ first j e u. record { number = u.number; now = u.now; ran = u.ran }) (present_too s id (entry_of id s) ok.0) (tt, tt)
  ordered_under (Create before after q) token who i ok = made_here token who i before after q
  ordered_under (Retry name) token who i ok = released_under token who i name
  ordered_under (Fold id) token who i ok = folded_here token who i id ok
  ordered_under (Deploy p) token who i ok =
      deployed_follow s.setting.program s.began s.rules s.newest s.journal (folded s) (unfolded s) s.flights h token who (order_rule s (Deploy p) who) None None p
  ordered_under (Correct k p) token who i ok = corrected_here token who i k p ok
  ordered_under (Rules g) token who i ok =
      ruled_follow s.setting.program s.began s.rules s.newest s.journal (folded s) (unfolded s) s.flights h token who (order_rule s (Rules g) who) None None g

  order_by_under : (command : Command) (token who : List ℕ) (i : Inputs) (o : Option OrderRefused) → refused s command who ≡ o → LeavesUnder (order_by s command token who i o)
  order_by_under command token who i (Some why) is = h
  order_by_under command token who i None is = ordered_under command token who i (well_named s command who is)

  pub order_where_under : (command : Command) (token who : List ℕ) (i : Inputs) (o : Option OrderedRow) → LeavesUnder (order_where s command token who i o)
  order_where_under command token who i (Some o) = h
  order_where_under command token who i None = order_by_under command token who i (refused s command who) refl
