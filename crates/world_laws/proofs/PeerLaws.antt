-- A service calls its peers alone: each event keeps it so.
use Rattle.std.proofs.Common.{◌≡◌, ℕ, zero, suc, not, ◌+◌, Bool, true, false, cond, List, [], ◌∷◌, ◌++◌, Option, Some, None, IfSome, Contains, Result, Ok, Err, drop, length, map, nat_eq, nat_le, option_map, slice_get, slice_set, All, refl, sym, ap, ◌∙◌, subst, append_assoc, append-nil}
use Rattle.std.proofs.lemmas.Bool.{cond_both}
use Rattle.std.proofs.lemmas.List.{take-append-drop}
use Rattle.std.proofs.lemmas.List.Elements.{All-append, All-contains, Contains-append_right}
use Rattle.lang_base.specs.Texts.{same_text}
use Rattle.lang_core.specs.Traces.{dead_trace}
use Rattle.lang_core.specs.declared.cells.Cell.{Cell}
use Rattle.lang_core.specs.declared.ids.Origin.{Origin}
use Rattle.lang_core.specs.declared.ids.Origin.TheVariants.{Outside, Call}
use Rattle.lang_core.specs.declared.inputs.Inputs.{Inputs}
use Rattle.lang_core.specs.declared.request.Request.{Request}
use Rattle.lang_core.specs.declared.request.Response.{Response}
use Rattle.lang_core.specs.declared.trace.CallMade.{CallMade}
use Rattle.lang_core.specs.declared.trace.Trace.{Trace}
use Rattle.handler_run.specs.Handlers.{run_of}
use Rattle.handler_run.specs.HandedOn.{Route, with_program}
use Rattle.handler_run.specs.declared.state.Ran.{Ran}
use Rattle.handler_run.specs.declared.state.Ran.TheVariants.{Done, Wants}
use Rattle.request_log.specs.Entries.{find_call, is_alive}
use Rattle.request_log.specs.Records.{Record, record_of}
use Rattle.request_log.specs.declared.entry.Entry.{Entry}
use Rattle.local_repair.specs.Alone.{trace_or_dead}
use Rattle.local_repair.specs.Current.{Consumed, rows_after, after_entry}
use Rattle.local_repair.specs.Programs.{setting_of}
use Rattle.local_repair.specs.Steps.{calls_of_made, answer_at, same_call}
use Rattle.local_repair.specs.Tests.{is_current}
use Rattle.repair_messages.specs.declared.messages.AnswerMessage.{AnswerMessage}
use Rattle.repair_messages.specs.declared.messages.SetMessage.{SetMessage}
use Rattle.repair_messages.specs.declared.messages.TokenMessage.{TokenMessage}
use Rattle.repair_messages.specs.declared.posts.Post.{Post}
use Rattle.repair_messages.specs.declared.posts.Post.TheVariants.{Set, Token, Fetch}
use Rattle.repair_messages.specs.declared.posts.PostName.TheVariants.{Call as OfCall, Reply as OfReply, Fetch as OfFetch}
use Rattle.journal_rows.specs.Words.{last_sent, last_taken, noted_at, ordered}
use Rattle.journal_rows.specs.declared.caller.NotedRow.{NotedRow}
use Rattle.journal_rows.specs.declared.callee.TookRow.{TookRow}
use Rattle.journal_rows.specs.declared.orders.Command.{Command}
use Rattle.journal_rows.specs.declared.orders.Command.TheVariants.{Cancel, Restore, Replace, Create, Retry, Fold, Deploy, Correct, Rules}
use Rattle.journal_rows.specs.declared.orders.OrderedRow.{OrderedRow}
use Rattle.journal_rows.specs.declared.row.Row.{Row}
use Rattle.journal_rows.specs.declared.row.Row.TheVariants.{Asked, Sent}
use Rattle.call_registers.specs.Registers.{register, next_number, is_news, is_newer}
use Rattle.call_registers.specs.declared.register.Hold.{Hold}
use Rattle.call_registers.specs.declared.register.Register.{Register}
use Rattle.call_registers.specs.declared.register.Why.{Why}
use Rattle.flights.specs.Moves.{calls_in, next_move}
use Rattle.flights.specs.declared.flight.Flight.{Flight}
use Rattle.flights.specs.declared.flight.Move.{Move}
use Rattle.flights.specs.declared.flight.Move.TheVariants.{Commit, Name, Change}
use Rattle.service_events.specs.Arriving.{accepted, new_flight, admitted, known_by, arrives_or_known, by_version, unless_gone, is_for, is_new_to, seen_live, live_answer_rows, answered_flight, told, failed_flight, abandoned}
use Rattle.service_events.specs.Calls.{noted, named, deleted, replaced, all_deleted, slot_rows, settling_rows, next_after}
use Rattle.service_events.specs.Event.{event}
use Rattle.service_events.specs.Fits.{Fits, WantsItsCalls, NumberedCalls, calls_of_entry, calls_of_flight, call_to, call_in, wanted_call, sent_by}
use Rattle.service_events.specs.Flying.{awaited, flight_run, before_answer, live_answer, surplus_rows, took_rows, committed, with_slot, with_change, deletion, change_rows, waits, call_or_none, wanted_of, named_unsent, changed_unsent, completing, completed, changed, moved, goes_on}
use Rattle.service_events.specs.Messages.{hear_new, hear_rule, take_new, origin_of, is_known, is_too_much, acked_row, took_row, acked_again, taken_by, taken, take_admitted, confirmed_row, noted_row, heard, token_taken_by, token_taken_where, fetched_row, fetched, is_now, hold_of, held_back, held_where, posted}
use Rattle.service_events.specs.Orders.{order_rows, carried_out, order_by, order_where, refused}
use Rattle.service_events.specs.State.{Kept, After, after, answers, or_else, is_crowded, is_heavy, flight_of, base, folded, unfolded}
use Rattle.service_events.specs.Steps.{ended_or, rerun, new_trace, new_record, sent_rows, answer_rows, stepped, Stale, stale_in, step_by}
use Rattle.service_events.specs.declared.answers.Arrived.{Arrived}
use Rattle.service_events.specs.declared.answers.Heard.{Heard}
use Rattle.service_events.specs.declared.answers.PostReply.{PostReply}
use Rattle.service_events.specs.declared.answers.PostReply.TheVariants.{Acked as WasAcked, Confirmed as WasConfirmedBack, Given, Refused, Lost}
use Rattle.service_events.specs.declared.answers.Posted.TheVariants.{Saw, Knew, Held, Left}
use Rattle.service_events.specs.declared.event.Event.{Event}
use Rattle.service_events.specs.declared.event.Event.TheVariants as events
use Rattle.service_events.specs.declared.refusals.AnswerRefused.{AnswerRefused}
use Rattle.service_events.specs.declared.refusals.ArriveRefused.{ArriveRefused}
use Rattle.service_events.specs.declared.refusals.CallRefused.{CallRefused}
use Rattle.service_events.specs.declared.refusals.OrderRefused.{OrderRefused}
use Rattle.service_events.proofs.AskedLemmas.{take_either, hear_either, arrives_either, takes_either, posted_either}
use Rattle.world_laws.proofs.ChainLaws.{IsOnward, calls_onward}
use Rattle.service_events.proofs.CallRowLemmas.{Each, each_append, each_behind, each_weaker, all_of_each}
use Rattle.service_events.proofs.SearchLemmas.{contains_here}
use Rattle.world_events.specs.Reach.{GoesTo, CallsPeers}
use Rattle.world_laws.proofs.PlaceFacts.{wanted_calls, entries_want, flight_wants}
use Rattle.world_laws.proofs.StillLemmas.{sent_from}

-- ---- rows on own calls

-- calls to these services
abbrev pub CallsTo : List (List ℕ) → List CallMade → Type 0
CallsTo peers cs = Each (λ (c : CallMade). Contains peers c.dest) cs

module _ (peers : List (List ℕ)) where
  abbrev To : List Row → Type 0
  To rows = Each (GoesTo peers) rows

  deleted_to : (rs : List Register) (ns : List ℕ) (cs : List CallMade) → CallsTo peers cs → To (all_deleted rs ns cs)
  deleted_to rs [] cs h = tt
  deleted_to rs (n ∷ ns) [] h = tt
  deleted_to rs (n ∷ ns) (c ∷ cs) h = (h.0, deleted_to rs ns cs h.1)

  pub got_to : (cs : List CallMade) (i : ℕ) (o : Option CallMade) → slice_get cs i ≡ o → CallsTo peers cs → IfSome o (λ c. Contains peers c.dest)
  got_to [] i None e h = tt
  got_to [] i (Some c) e h = cc
  got_to (x ∷ xs) zero None e h = tt
  got_to (x ∷ xs) zero (Some c) e h = (let is : x ≡ c = cc in subst (λ (y : CallMade). Contains peers y.dest) is h.0)
  got_to (x ∷ xs) (suc i) o e h = got_to xs i o e h.1

  deletion_to : (s : Kept) (n : Option ℕ) (o : Option CallMade) → IfSome o (λ c. Contains peers c.dest) → To (deletion s n o)
  deletion_to s (Some n) (Some c) h = (h, tt)
  deletion_to s (Some n) None h = tt
  deletion_to s None o h = tt

  change_to : (s : Kept) (f : Flight) (slot : ℕ) (c : CallMade) → CallsTo peers f.calls → Contains peers c.dest → To (change_rows s f slot c)
  change_to s f slot c own h =
      each_append (GoesTo peers) (deletion s (slice_get f.numbers slot) (slice_get f.calls slot)) (named (next_number s.registers) c ∷ [])
      (deletion_to s (slice_get f.numbers slot) (slice_get f.calls slot) (got_to f.calls slot (slice_get f.calls slot) refl own)) (h, tt)

  drop_to : (k : ℕ) (cs : List CallMade) → CallsTo peers cs → CallsTo peers (drop k cs)
  drop_to zero cs h = h
  drop_to (suc k) [] h = h
  drop_to (suc k) (c ∷ cs) h = drop_to k cs h.1

  set_to : (cs : List CallMade) (i : ℕ) (c : CallMade) → CallsTo peers cs → Contains peers c.dest → CallsTo peers (slice_set cs i c)
  set_to [] i c h p = tt
  set_to (x ∷ xs) zero c h p = (p, h.1)
  set_to (x ∷ xs) (suc i) c h p = (h.0, set_to xs i c h.1 p)

  slot_to : (rs : List Register) (next n : ℕ) (o c : CallMade) → Contains peers o.dest → Contains peers c.dest → To (slot_rows rs next n o c)
  slot_to rs next n o c h p = by (same_call o c) (same_text o.dest c.dest)
    where
      by : (a b : Bool) → To (cond a [] (cond b (replaced rs n o.dest c.request ∷ []) (deleted rs n o ∷ named next c ∷ [])))
      by true b = tt
      by false true = (h, tt)
      by false false = (h, (p, tt))

  settling_to : (rs : List Register) (next : ℕ) (ns : List ℕ) (os cs : List CallMade) → CallsTo peers os → CallsTo peers cs → To (settling_rows rs next ns os cs)
  settling_to rs next (n ∷ ns) (o ∷ os) (c ∷ cs) h p =
      each_append (GoesTo peers) (slot_rows rs next n o c) (settling_rows rs (next_after next o c) ns os cs) (slot_to rs next n o c h.0 p.0)
      (settling_to rs (next_after next o c) ns os cs h.1 p.1)
  settling_to rs next (n ∷ ns) (o ∷ os) [] h p = deleted_to rs (n ∷ ns) (o ∷ os) h
  settling_to rs next [] os (c ∷ cs) h p = (p.0, settling_to rs (next + 1) [] os cs h p.1)
  settling_to rs next [] os [] h p = tt
  settling_to rs next (n ∷ ns) [] cs h p = tt

-- ---- what an event leaves

-- rows more, whose calls go to peers
pub record Reaches (s t : Kept) : Type 0 where
  pub rows : List Row
  pub is : t.journal ≡ s.journal ++ rows
  pub setting : t.setting ≡ s.setting
  pub to : Each (GoesTo s.setting.peers) rows

pub reaches_same : (s t : Kept) → t.journal ≡ s.journal → t.setting ≡ s.setting → Reaches s t
reaches_same s t journal setting = record { rows = []; is = journal ∙ sym (append-nil s.journal); setting = setting; to = tt }

reaches_then : (s t u : Kept) → Reaches s t → Reaches t u → Reaches s u
reaches_then s t u a b = record {
  rows = a.rows ++ b.rows;
  is = b.is ∙ ap (λ j. j ++ b.rows) a.is ∙ append_assoc s.journal a.rows b.rows;
  setting = b.setting ∙ a.setting;
  to = each_append (GoesTo s.setting.peers) a.rows b.rows a.to (subst (λ x. Each (GoesTo x.peers) b.rows) a.setting b.to);
}

reaches_by : (s t : Kept) (rows : List Row) → t.journal ≡ s.journal ++ rows → t.setting ≡ s.setting → Each (GoesTo s.setting.peers) rows → Reaches s t
reaches_by s t rows journal setting to = record { rows = rows; is = journal; setting = setting; to = to }

pub reached_calls : (s t : Kept) → Reaches s t → CallsPeers s → CallsPeers t
reached_calls s t r h =
    subst (λ x. All (GoesTo x.peers) t.journal) (sym r.setting)
    (subst (All (GoesTo s.setting.peers)) (sym r.is)
    (All-append (GoesTo s.setting.peers) s.journal r.rows h (all_of_each (GoesTo s.setting.peers) r.rows r.to)))

-- ---- a run

run_to : (s : Kept) (p : List Route) (q : Request) (i : Inputs) (given : List Response) (rows : List Cell) (ran : Ran) → run_of (with_program p s.setting) q i given rows ≡ ran → CallsTo s.setting.peers (calls_in ran)
run_to s p q i given rows ran is =
    subst (λ r. CallsTo s.setting.peers (calls_in r)) is
    (each_weaker (IsOnward s.setting.me s.setting.peers q) (λ (c : CallMade). Contains s.setting.peers c.dest) (λ c o. o.peer) (calls_in (run_of (with_program p s.setting) q i given rows))
    (calls_onward (with_program p s.setting) q i given rows))

pub flight_to : (s : Kept) (f : Flight) (ran : Ran) → flight_run s f ≡ ran → CallsTo s.setting.peers (calls_in ran)
flight_to s f ran is = run_to s f.program.program f.request f.inputs (map (answers s) f.numbers) (rows_after (base s) (unfolded s)) ran is

-- ---- a flight goes on

took_to : (peers : List (List ℕ)) (o : Origin) (q : Request) → Each (GoesTo peers) (took_rows o q)
took_to peers Outside q = tt
took_to peers (Call c n) q = (tt, tt)

committed_reaches : (s : Kept) (f : Flight) (t : Trace) → CallsTo s.setting.peers f.calls → Reaches s (committed s f t).service
committed_reaches s f t own =
    let peers = s.setting.peers in
    let surplus = surplus_rows s f t in
    let before = before_answer s f t in
    reaches_by s (committed s f t).service (before ++ live_answer s f t ∷ []) refl refl
    (each_append (GoesTo peers) before (live_answer s f t ∷ [])
    (each_append (GoesTo peers) surplus (Asked _ ∷ took_rows f.origin f.request)
    (deleted_to peers s.registers (drop (length t.calls) f.numbers) (drop (length t.calls) f.calls) (drop_to peers (length t.calls) f.calls own))
    (tt, took_to peers f.origin f.request))
    (tt, tt))

pub call_by : (P : After Arrived → Type 0) (o : Option CallMade) (go : CallMade → After Arrived) (never : After Arrived) (Q : CallMade → Type 0) → IfSome o Q
    → ((c : CallMade) → Q c → P (go c)) → P never → P (call_or_none o go never)
call_by P None go never Q h each last = last
call_by P (Some c) go never Q h each last = each c h

pub wanted_to : (peers : List (List ℕ)) (ran : Ran) → CallsTo peers (calls_in ran) → IfSome (wanted_of ran) (λ c. Contains peers c.dest)
wanted_to peers (Done t) h = tt
wanted_to peers (Wants slot calls c) h = (each_behind (λ (x : CallMade). Contains peers x.dest) calls (c ∷ []) h).0

slot_is : (peers : List (List ℕ)) (f : Flight) (c : CallMade) (n : ℕ) → CallsTo peers f.calls → Contains peers c.dest → CallsTo peers (with_slot n c f).calls
slot_is peers f c n own h = each_append (λ (x : CallMade). Contains peers x.dest) f.calls (c ∷ []) own (h, tt)

completing_reaches : (s : Kept) (f : Flight) (ran : Ran) (move : Move) (again : Kept → Flight → After Arrived) → CallsTo s.setting.peers f.calls → CallsTo s.setting.peers (calls_in ran)
    → ((t : Kept) (g : Flight) → CallsTo t.setting.peers g.calls → Reaches t (again t g).service) → Reaches s (completing s f ran move again).service
completing_reaches s f ran Commit again own run next = committed_reaches s f (trace_or_dead ran) own
completing_reaches s f ran Name again own run next =
    let peers = s.setting.peers in
    call_by (λ a. Reaches s a.service) (wanted_of ran) (λ c. again (named_unsent s c) (with_slot (next_number s.registers) c f)) (committed s f (trace_or_dead ran))
    (λ c. Contains peers c.dest) (wanted_to peers ran run)
    (λ c h. reaches_then s (named_unsent s c) (again (named_unsent s c) (with_slot (next_number s.registers) c f)).service
    (reaches_by s (named_unsent s c) (named (next_number s.registers) c ∷ []) refl refl (h, tt))
    (next (named_unsent s c) (with_slot (next_number s.registers) c f) (slot_is peers f c (next_number s.registers) own h)))
    (committed_reaches s f (trace_or_dead ran) own)
completing_reaches s f ran (Change slot) again own run next =
    let peers = s.setting.peers in
    call_by (λ a. Reaches s a.service) (slice_get (calls_in ran) slot) (λ c. again (changed_unsent s f slot c) (with_change slot (next_number s.registers) c f)) (committed s f (trace_or_dead ran))
    (λ c. Contains peers c.dest) (got_to peers (calls_in ran) slot (slice_get (calls_in ran) slot) refl run)
    (λ c h. reaches_then s (changed_unsent s f slot c) (again (changed_unsent s f slot c) (with_change slot (next_number s.registers) c f)).service
    (reaches_by s (changed_unsent s f slot c) (change_rows s f slot c) refl refl (change_to peers s f slot c own h))
    (next (changed_unsent s f slot c) (with_change slot (next_number s.registers) c f) (set_to peers f.calls slot c own h)))
    (committed_reaches s f (trace_or_dead ran) own)

completed_reaches : (runs : ℕ) (s : Kept) (f : Flight) → CallsTo s.setting.peers f.calls → Reaches s (completed runs s f).service
completed_reaches zero s f own = committed_reaches s f dead_trace own
completed_reaches (suc runs) s f own =
    completing_reaches s f (flight_run s f) (next_move f (flight_run s f)) (completed runs) own (flight_to s f (flight_run s f) refl) (λ t g. completed_reaches runs t g)

changed_reaches : (s : Kept) (f : Flight) (slot : ℕ) (c : CallMade) → CallsTo s.setting.peers f.calls → Contains s.setting.peers c.dest → Reaches s (changed s f slot c).service
changed_reaches s f slot c own h =
    let peers = s.setting.peers in
    let g = with_change slot (next_number s.registers) c f in
    let rows = reaches_by s (changed_unsent s f slot c) (change_rows s f slot c) refl refl (change_to peers s f slot c own h) in
    cond_both (nat_le 3 f.changes) (completed 17 (changed_unsent s f slot c) g) (waits (noted (change_rows s f slot c) s) g (next_number s.registers) c) (λ a. Reaches s a.service)
    (λ _. reaches_then s (changed_unsent s f slot c) (completed 17 (changed_unsent s f slot c) g).service rows
    (completed_reaches 17 (changed_unsent s f slot c) g (set_to peers f.calls slot c own h)))
    (λ _. reaches_by s _ (change_rows s f slot c) refl refl (change_to peers s f slot c own h))

moved_reaches : (s : Kept) (f : Flight) (ran : Ran) (move : Move) → CallsTo s.setting.peers f.calls → CallsTo s.setting.peers (calls_in ran) → Reaches s (moved s f ran move).service
moved_reaches s f ran Commit own run = committed_reaches s f (trace_or_dead ran) own
moved_reaches s f ran Name own run =
    let peers = s.setting.peers in
    call_by (λ a. Reaches s a.service) (wanted_of ran)
    (λ c. waits (noted (named (next_number s.registers) c ∷ []) s) (with_slot (next_number s.registers) c f) (next_number s.registers) c) (committed s f (trace_or_dead ran))
    (λ c. Contains peers c.dest) (wanted_to peers ran run) (λ c h. reaches_by s _ (named (next_number s.registers) c ∷ []) refl refl (h, tt))
    (committed_reaches s f (trace_or_dead ran) own)
moved_reaches s f ran (Change slot) own run =
    let peers = s.setting.peers in
    call_by (λ a. Reaches s a.service) (slice_get (calls_in ran) slot) (λ c. changed s f slot c) (committed s f (trace_or_dead ran))
    (λ c. Contains peers c.dest) (got_to peers (calls_in ran) slot (slice_get (calls_in ran) slot) refl run) (λ c h. changed_reaches s f slot c own h)
    (committed_reaches s f (trace_or_dead ran) own)

goes_on_reaches : (s : Kept) (f : Flight) → CallsTo s.setting.peers f.calls → Reaches s (goes_on s f).service
unfolding goes_on
goes_on_reaches s f own = moved_reaches s f (flight_run s f) (next_move f (flight_run s f)) own (flight_to s f (flight_run s f) refl)

-- ---- the calls of a service that fits its journal and calls its peers alone

module _ (s : Kept) (fits : Fits s) (calls : CallsPeers s) where
  wanted_peer : (n : ℕ) (c : CallMade) → wanted_call s.registers n ≡ Some c → Contains s.setting.peers c.dest
  wanted_peer n c wanted = by_register (register n s.registers) refl wanted
    where
      dest_is : (r : Register) (d : Option Request) → call_to r.dest d ≡ Some c → r.dest ≡ c.dest
      dest_is r None e = cc
      dest_is r (Some q) e = (let same : record { dest = r.dest; request = q } ≡ c = cc in ap (λ (x : CallMade). x.dest) same)

      by_register : (o : Option Register) → register n s.registers ≡ o → call_in o ≡ Some c → Contains s.setting.peers c.dest
      by_register None found e = cc
      by_register (Some r) found e =
          let last : Some (sent_by r) ≡ last_sent n s.journal = sym (ap (option_map sent_by) found) ∙ fits.sent.registers n in
          let from = subst (λ o. IfSome o (λ x. (x.number ≡ n) × Contains s.journal (Sent x))) (sym last) (sent_from n s.journal) in
          let peer = All-contains (GoesTo s.setting.peers) s.journal (Sent (sent_by r)) calls from.1 in
          subst (Contains s.setting.peers) (dest_is r r.desired e) peer

  place_to : (p : NumberedCalls) → WantsItsCalls s.registers p → CallsTo s.setting.peers p.calls
  place_to p wants = wanted_calls s.registers (λ (c : CallMade). Contains s.setting.peers c.dest) wanted_peer p.numbers p.calls wants

  own_to : (id : ℕ) (f : Flight) → flight_of id s ≡ Some f → CallsTo s.setting.peers f.calls
  own_to id f found = place_to (calls_of_flight f) (flight_wants s fits id f found)

  abbrev Stays : {A : Type 0} → After A → Type 0
  Stays a = Reaches s a.service

  same : Reaches s s
  same = reaches_same s s refl refl

  -- ---- live requests

  admitted_reaches : (o : Origin) (q : Request) (i : Inputs) (full : Option ℕ) → Stays (admitted s o q i full)
  admitted_reaches o q i (Some n) = same
  admitted_reaches o q i None = goes_on_reaches s (new_flight s o q i) tt

  known_reaches : (c : List ℕ) (n : ℕ) (e : Entry) (m : Option Record) → Stays (known_by s c n e m)
  known_reaches c n e None = same
  known_reaches c n e (Some m) = same

  or_known_reaches : (c : List ℕ) (n : ℕ) (q : Request) (i : Inputs) (o : Option Entry) → Stays (arrives_or_known s c n q i o)
  or_known_reaches c n q i None = admitted_reaches (Call c n) q i (or_else (is_crowded s) (is_heavy s))
  or_known_reaches c n q i (Some e) = known_reaches c n e (record_of e)

  by_version_reaches : (version : ℕ) (d : Option Request) (known : After (Result Arrived ArriveRefused)) → Stays known → Stays (by_version s version d known)
  by_version_reaches version None known h = same
  by_version_reaches version (Some q) known h = h

  unless_gone_reaches : (last : Option TookRow) (known : After (Result Arrived ArriveRefused)) → Stays known → Stays (unless_gone s last known)
  unless_gone_reaches None known h = h
  unless_gone_reaches (Some t) known h = by_version_reaches t.version t.desired known h

  heard_to : (a : AnswerMessage) (b : Bool) → Each (GoesTo s.setting.peers) (cond b (seen_live a ∷ []) [])
  heard_to a true = (tt, tt)
  heard_to a false = tt

  answered_reaches : (id : ℕ) (a : AnswerMessage) (o : Option Flight) → flight_of id s ≡ o → Stays (answered_flight s id a o)
  answered_reaches id a None is = same
  answered_reaches id a (Some f) is =
      let m = noted (live_answer_rows s a) s in
      cond_both (is_for s a f) (accepted (goes_on m f)) (after s (Err (CallRefused.NoFlight id))) (λ x. Reaches s x.service)
      (λ _. reaches_then s m (goes_on m f).service (reaches_by s m (live_answer_rows s a) refl refl (tt, heard_to a (is_new_to a (register a.number s.registers))))
      (goes_on_reaches m f (own_to id f is)))
      (λ _. same)

  failed_reaches : (id n : ℕ) (why : Why) (o : Option Flight) → flight_of id s ≡ o → Stays (failed_flight s id n why o)
  failed_reaches id n why None is = same
  failed_reaches id n why (Some f) is =
      let m = told n why s in
      cond_both (nat_eq (awaited f) n) (accepted (goes_on m f)) (after s (Err (CallRefused.NoFlight id))) (λ x. Reaches s x.service)
      (λ _. reaches_then s m (goes_on m f).service (reaches_same s m refl refl) (goes_on_reaches m f (own_to id f is))) (λ _. same)

  abandoned_reaches : (id : ℕ) (o : Option Flight) → flight_of id s ≡ o → Stays (abandoned s o)
  abandoned_reaches id None is = same
  abandoned_reaches id (Some f) is =
      reaches_by s (abandoned s (Some f)).service (all_deleted s.registers f.numbers f.calls) refl refl
      (deleted_to s.setting.peers s.registers f.numbers f.calls (own_to id f is))

  -- ---- a step

  rerun_to : (turns : ℕ) (rows : List Cell) (e : Entry) (given : List Response) → CallsTo s.setting.peers (rerun turns s rows e given).calls
  rerun_to zero rows e given = tt
  rerun_to (suc turns) rows e given =
      ended_to (run_of (setting_of s.setting e) e.request e.inputs given rows)
      (run_to s e.under.now.program e.request e.inputs given rows (run_of (setting_of s.setting e) e.request e.inputs given rows) refl)
      (λ slot call. rerun turns s rows e (given ++ answer_at (answers s) (calls_of_made e.made) e.slots slot call ∷ []))
      (λ slot call. rerun_to turns rows e (given ++ answer_at (answers s) (calls_of_made e.made) e.slots slot call ∷ []))
    where
      ended_to : (ran : Ran) → CallsTo s.setting.peers (calls_in ran) → (more : ℕ → CallMade → Trace) → ((slot : ℕ) (call : CallMade) → CallsTo s.setting.peers (more slot call).calls)
          → CallsTo s.setting.peers (ended_or ran more).calls
      ended_to (Done t) h more f = h
      ended_to (Wants slot calls call) h more f = f slot call

  trace_to : (rows : List Cell) (e : Entry) → CallsTo s.setting.peers (new_trace s rows e).calls
  unfolding new_trace
  trace_to rows e =
      cond_both (is_alive e) (rerun 17 s rows e []) dead_trace (λ t. CallsTo s.setting.peers t.calls) (λ _. rerun_to 17 rows e []) (λ _. tt)

  answer_to : (b : Bool) (row : Row) → GoesTo s.setting.peers row → Each (GoesTo s.setting.peers) (cond b (row ∷ []) [])
  answer_to true row h = (h, tt)
  answer_to false row h = tt

  stale_there : (consumed : Consumed) (rows : List Cell) (es : List Entry) → IfSome (stale_in consumed rows es) (λ x. Contains es x.entry)
  stale_there consumed rows [] = tt
  stale_there consumed rows (e ∷ es) =
      cond_both (is_current consumed rows e) (stale_in consumed (after_entry rows e) es) (Some (record { entry = e; rows = rows })) (λ o. IfSome o (λ x. Contains (e ∷ es) x.entry))
      (λ _. later (stale_in consumed (after_entry rows e) es) (stale_there consumed (after_entry rows e) es)) (λ _. contains_here e es)
    where
      later : (o : Option Stale) → IfSome o (λ x. Contains es x.entry) → IfSome o (λ x. Contains (e ∷ es) x.entry)
      later None h = tt
      later (Some x) h = Contains-append_right (e ∷ []) es x.entry h

  -- it is one of all entries
  stale_is_there : (o : Option Stale) → IfSome o (λ x. Contains (unfolded s) x.entry) → IfSome o (λ x. Contains s.entries x.entry)
  stale_is_there None h = tt
  stale_is_there (Some x) h =
      let In : List Entry → Type 0 = λ es. Contains es x.entry in
      subst In (take-append-drop s.horizon s.entries) (Contains-append_right (folded s) (unfolded s) x.entry h)

  stepped_reaches : (e : Entry) (rows : List Cell) → Contains s.entries e → Stays (stepped s e (new_record s rows e))
  stepped_reaches e rows has =
      let m = new_record s rows e in
      let old = place_to (calls_of_entry e) (All-contains (λ x. WantsItsCalls s.registers (calls_of_entry x)) s.entries e (entries_want s fits) has) in
      reaches_by s (stepped s e m).service (sent_rows s e m ++ answer_rows e m) refl refl
      (each_append (GoesTo s.setting.peers) (sent_rows s e m) (answer_rows e m)
      (settling_to s.setting.peers s.registers (next_number s.registers) e.slots (calls_of_made e.made) m.trace.calls old (trace_to rows e))
      (answer_to _ _ tt))

  step_by_reaches : (o : Option Stale) → IfSome o (λ x. Contains s.entries x.entry) → Stays (step_by s o)
  step_by_reaches None h = same
  step_by_reaches (Some x) h = stepped_reaches x.entry x.rows h

  -- ---- orders and messages

  ordered_reaches : (command : Command) (token who : List ℕ) (i : Inputs) → Reaches s (noted (order_rows s command token who i) (carried_out s command who i))
  ordered_reaches (Cancel id) token who i = reaches_by s _ (order_rows s (Cancel id) token who i) refl refl (tt, tt)
  ordered_reaches (Restore id) token who i = reaches_by s _ (order_rows s (Restore id) token who i) refl refl (tt, tt)
  ordered_reaches (Replace id method path body) token who i = reaches_by s _ (order_rows s (Replace id method path body) token who i) refl refl (tt, tt)
  ordered_reaches (Create before behind q) token who i = reaches_by s _ (order_rows s (Create before behind q) token who i) refl refl (tt, (tt, tt))
  ordered_reaches (Retry (OfCall n)) token who i = reaches_by s _ (order_rows s (Retry (OfCall n)) token who i) refl refl (tt, tt)
  ordered_reaches (Retry (OfReply id)) token who i = reaches_by s _ (order_rows s (Retry (OfReply id)) token who i) refl refl (tt, tt)
  ordered_reaches (Retry (OfFetch n)) token who i = reaches_by s _ (order_rows s (Retry (OfFetch n)) token who i) refl refl (tt, tt)
  ordered_reaches (Fold id) token who i = reaches_by s _ (order_rows s (Fold id) token who i) refl refl (tt, tt)
  ordered_reaches (Deploy p) token who i = reaches_by s _ (order_rows s (Deploy p) token who i) refl refl (tt, tt)
  ordered_reaches (Correct k p) token who i = reaches_by s _ (order_rows s (Correct k p) token who i) refl refl (tt, tt)
  ordered_reaches (Rules g) token who i = reaches_by s _ (order_rows s (Rules g) token who i) refl refl (tt, tt)

  order_by_reaches : (command : Command) (token who : List ℕ) (i : Inputs) (o : Option OrderRefused) → Stays (order_by s command token who i o)
  order_by_reaches command token who i (Some why) = same
  order_by_reaches command token who i None = ordered_reaches command token who i

  order_where_reaches : (command : Command) (token who : List ℕ) (i : Inputs) (o : Option OrderedRow) → Stays (order_where s command token who i o)
  order_where_reaches command token who i (Some o) = same
  order_where_reaches command token who i None = order_by_reaches command token who i (refused s command who)

  taken_reaches : (set : SetMessage) (i : Inputs) (o : Option Entry) (d : Option Request) → Reaches s (taken_by s set i o d)
  taken_reaches set i (Some e) d = reaches_by s _ (took_row s set ∷ (acked_row set ∷ [])) refl refl (tt, (tt, tt))
  taken_reaches set i None (Some q) = reaches_by s _ (took_row s set ∷ (Asked _ ∷ (acked_row set ∷ []))) refl refl (tt, (tt, (tt, tt)))
  taken_reaches set i None None = reaches_by s _ (took_row s set ∷ (acked_row set ∷ [])) refl refl (tt, (tt, tt))

  take_admitted_reaches : (set : SetMessage) (i : Inputs) (full : Option ℕ) → Stays (take_admitted s set i full)
  take_admitted_reaches set i (Some n) = same
  take_admitted_reaches set i None =
      cond_both (is_known s set) (after (acked_again s set) (Ok (taken set None))) (take_new s set i)
      (λ a. Reaches s a.service) (λ _. reaches_by s (acked_again s set) (acked_row set ∷ []) refl refl (tt, tt))
      (λ _. take_either s set i (λ a. Reaches s a.service) (λ e. same) same (λ _. taken_reaches set i (find_call (origin_of set) s.entries) set.desired))

  token_taken_by_reaches : (a : TokenMessage) (r : Register) → Stays (token_taken_by s a r)
  token_taken_by_reaches a r = by (same_text r.dest a.callee) (is_news r a.answer_version)
    where
      by : (goes new : Bool)
          → Stays {A = Result Heard AnswerRefused} (cond (not goes) (after s (Err (AnswerRefused.Unknown a.number)))
          (cond new (hear_new s a r) (after (noted (confirmed_row a ∷ []) s) (Ok (heard a None)))))
      by false new = same
      by true true = hear_either s a r (λ x. Reaches s x.service) same same (λ _. reaches_by s _ (noted_row (hear_rule s a r) a ∷ (confirmed_row a ∷ [])) refl refl (tt, (tt, tt)))
      by true false = reaches_by s _ (confirmed_row a ∷ []) refl refl (tt, tt)

  token_taken_where_reaches : (a : TokenMessage) (o : Option Register) → Stays (token_taken_where s a o)
  token_taken_where_reaches a None = same
  token_taken_where_reaches a (Some r) = token_taken_by_reaches a r

  fetched_reaches : (a : AnswerMessage) (o : Option Register) (n : Option NotedRow) → Stays (fetched s a o n)
  fetched_reaches a None n = same
  fetched_reaches a (Some r) None = same
  fetched_reaches a (Some r) (Some n) =
      cond_both (is_newer r.answer a.answer_version) (after (noted (fetched_row a n ∷ []) s) (Ok Saw)) (after s (Ok Knew)) (λ x. Reaches s x.service)
      (λ _. reaches_by s _ (fetched_row a n ∷ []) refl refl (tt, tt)) (λ _. same)

  held_reaches : (post : Post) (hold : Hold) → Reaches s (held_back s post hold)
  held_reaches (Set set) hold = reaches_same s _ refl refl
  held_reaches (Token t) hold = reaches_same s _ refl refl
  held_reaches (Fetch f) hold = same

  held_where_reaches : (post : Post) (o : Option Hold) → Stays (held_where s post o)
  held_where_reaches post None = same
  held_where_reaches post (Some hold) =
      cond_both (is_now s post) (after (held_back s post hold) (Ok Held)) (after s (Ok Left)) (λ x. Reaches s x.service) (λ _. held_reaches post hold) (λ _. same)

  replied_reaches : (post : Post) (reply : PostReply) → Stays (posted s post reply)
  replied_reaches post (WasAcked ack) = reaches_by s _ (_ ∷ []) refl refl (tt, tt)
  replied_reaches post (WasConfirmedBack c) = reaches_by s _ (_ ∷ []) refl refl (tt, tt)
  replied_reaches post (Given a) = fetched_reaches a (register a.number s.registers) (noted_at a.number a.answer_version s.journal)
  replied_reaches post (Refused word n) = held_where_reaches post (hold_of word n)
  replied_reaches post (Lost note) = same

  -- ---- all events

  pub event_reaches : (e : Event) → Reaches s (event s e).service
  event_reaches (events.Arrive Outside q i) = admitted_reaches Outside q i (or_else (is_crowded s) (is_heavy s))
  event_reaches (events.Arrive (Call c n) q i) =
      let entry = find_call (Call c n) s.entries in
      arrives_either s c n q i (λ a. Reaches s a.service) same
      (unless_gone_reaches (last_taken c n s.journal) (arrives_or_known s c n q i entry) (or_known_reaches c n q i entry))
  event_reaches (events.CallAnswered id a) = answered_reaches id a (flight_of id s) refl
  event_reaches (events.CallFailed id n why) = failed_reaches id n why (flight_of id s) refl
  event_reaches (events.Abandon id) = abandoned_reaches id (flight_of id s) refl
  event_reaches (events.Take set i) = takes_either s set i (λ a. Reaches s a.service) same (take_admitted_reaches set i (is_too_much s set))
  event_reaches (events.TakeToken t) = token_taken_where_reaches t (register t.number s.registers)
  event_reaches (events.Give f) = same
  event_reaches (events.NextPost dest) = same
  event_reaches (events.WritePost name) = same
  event_reaches (events.Posted post reply) = posted_either s post reply (λ a. Reaches s a.service) same (λ _ _. replied_reaches post reply)
  event_reaches events.Step =
      step_by_reaches (stale_in (answers s) (base s) (unfolded s)) (stale_is_there (stale_in (answers s) (base s) (unfolded s)) (stale_there (answers s) (base s) (unfolded s)))
  event_reaches (events.Order command token who i) = order_where_reaches command token who i (ordered token s.journal)
