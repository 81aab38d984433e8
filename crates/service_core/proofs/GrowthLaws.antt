-- Each event leaves what a journal had, and adds rows behind: so what it answered stays where it is.
use Rattle.std.proofs.Common.{◌≡◌, ℕ, Bool, true, false, List, [], ◌∷◌, ◌++◌, Option, Some, None, Result, Ok, refl, sym, ap, subst}
use Rattle.std.proofs.lemmas.Bool.{cond_both}
use Rattle.std.proofs.lemmas.List.{append-nil}
use Rattle.lang_base.specs.Memory.{Unless}
use Rattle.lang_core.specs.declared.ids.Origin.{Origin}
use Rattle.lang_core.specs.declared.ids.Origin.TheVariants.{Outside, Call}
use Rattle.lang_core.specs.declared.inputs.Inputs.{Inputs}
use Rattle.lang_core.specs.declared.request.Request.{Request}
use Rattle.request_log.specs.Entries.{find_call}
use Rattle.request_log.specs.Records.{Record, record_of}
use Rattle.request_log.specs.declared.entry.Entry.{Entry}
use Rattle.repair_messages.specs.declared.messages.SetMessage.{SetMessage}
use Rattle.journal_rows.specs.Words.{last_taken, ordered}
use Rattle.journal_rows.specs.declared.callee.TookRow.{TookRow}
use Rattle.service_events.specs.Arriving.{admitted, arrives_or_known, by_version, known_by, new_flight, unless_gone}
use Rattle.service_events.specs.Event.{event, is_lacking, Happens}
use Rattle.service_events.specs.Messages.{acked_again, acked_row, created_row, is_known, is_too_much, origin_of, take_admitted, take_new, taken, taken_by, took_row}
use Rattle.service_events.specs.State.{After, Kept, after, answers, base, is_crowded, is_heavy, or_else, unfolded}
use Rattle.service_events.specs.Steps.{Stale, answer_rows, new_record, sent_rows, stale_in, step_by}
use Rattle.service_events.specs.declared.answers.Arrived.{Arrived}
use Rattle.service_events.specs.declared.refusals.ArriveRefused.{ArriveRefused}
use Rattle.service_events.specs.declared.event.Done.{Done}
use Rattle.service_events.specs.declared.event.Event.{Event}
use Rattle.service_events.specs.declared.event.Event.TheVariants as events
use Rattle.service_events.proofs.AskedLemmas.{arrives_either, take_either, takes_either}
use Rattle.service_events.proofs.CallLaws.{Grows}
use Rattle.service_events.proofs.EventLaws.{event_goes}
use Rattle.service_events.proofs.GoingLaws.{goes_on_goes}
use Rattle.journal_rows.specs.declared.orders.Command.{Command}
use Rattle.journal_rows.specs.declared.orders.Command.TheVariants.{Cancel, Restore, Replace, Create, Retry, Fold, Deploy, Correct, Rules}
use Rattle.journal_rows.specs.declared.orders.OrderedRow.{OrderedRow}
use Rattle.repair_messages.specs.declared.posts.PostName.TheVariants.{Call as OfCall, Reply as OfReply, Fetch as OfFetch}
use Rattle.service_events.specs.Orders.{carried_out, order_by, order_rows, order_where, refused}
use Rattle.service_events.specs.declared.refusals.OrderRefused.{OrderRefused}
use Rattle.service_events.proofs.OrderLaws.{same_journal}

grows_none : (s : Kept) → Grows s s
grows_none s = record { rows = []; is = sym (append-nil s.journal); setting = refl }

-- what an event leaves grows
abbrev LeavesGrown : {A : Type 0} → Kept → After A → Type 0
LeavesGrown s a = Grows s a.service

-- ---- a repair step

step_by_grows : (s : Kept) (x : Option Stale) → LeavesGrown s (step_by s x)
step_by_grows s None = grows_none s
step_by_grows s (Some x) =
    let m = new_record s x.rows x.entry in
    record { rows = sent_rows s x.entry m ++ answer_rows x.entry m; is = refl; setting = refl }

-- ---- a version of a call

taken_grows : (s : Kept) (set : SetMessage) (i : Inputs) (e : Option Entry) (d : Option Request) → Grows s (taken_by s set i e d)
taken_grows s set i (Some e) d = record { rows = took_row s set ∷ (acked_row set ∷ []); is = refl; setting = refl }
taken_grows s set i None (Some q) =
    record { rows = took_row s set ∷ (created_row s set q i ∷ (acked_row set ∷ [])); is = refl; setting = refl }
taken_grows s set i None None = record { rows = took_row s set ∷ (acked_row set ∷ []); is = refl; setting = refl }

take_admitted_grows : (s : Kept) (set : SetMessage) (i : Inputs) (n : Option ℕ) → LeavesGrown s (take_admitted s set i n)
take_admitted_grows s set i (Some n) = grows_none s
take_admitted_grows s set i None =
    cond_both (is_known s set) (after (acked_again s set) (Ok (taken set None))) (take_new s set i) (LeavesGrown s)
    (λ _. record { rows = acked_row set ∷ []; is = refl; setting = refl })
    (λ _. take_either s set i (LeavesGrown s) (λ e. grows_none s) (grows_none s) (λ _. taken_grows s set i (find_call (origin_of set) s.entries) set.desired))

-- ---- an arrival

admitted_grows : (s : Kept) (o : Origin) (q : Request) (i : Inputs) (full : Option ℕ) → LeavesGrown s (admitted s o q i full)
admitted_grows s o q i (Some n) = grows_none s
admitted_grows s o q i None =
    let gone = (goes_on_goes s (new_flight s o q i)).grows in
    record { rows = gone.rows; is = gone.is; setting = gone.setting }

known_grows : (s : Kept) (c : List ℕ) (n : ℕ) (e : Entry) (r : Option Record) → LeavesGrown s (known_by s c n e r)
known_grows s c n e None = grows_none s
known_grows s c n e (Some r) = grows_none s

or_known_grows : (s : Kept) (c : List ℕ) (n : ℕ) (q : Request) (i : Inputs) (e : Option Entry) → LeavesGrown s (arrives_or_known s c n q i e)
or_known_grows s c n q i (Some e) = known_grows s c n e (record_of e)
or_known_grows s c n q i None = admitted_grows s (Call c n) q i (or_else (is_crowded s) (is_heavy s))

version_grows : (s : Kept) (version : ℕ) (d : Option Request) (known : After (Result Arrived ArriveRefused)) → LeavesGrown s known
    → LeavesGrown s (by_version s version d known)
version_grows s version None known h = grows_none s
version_grows s version (Some q) known h = h

gone_grows : (s : Kept) (last : Option TookRow) (known : After (Result Arrived ArriveRefused)) → LeavesGrown s known → LeavesGrown s (unless_gone s last known)
gone_grows s None known h = h
gone_grows s (Some t) known h = version_grows s t.version t.desired known h

-- ---- all events

-- ---- an order

same_setting : (s : Kept) (command : Command) (who : List ℕ) (i : Inputs) → (carried_out s command who i).setting ≡ s.setting
same_setting s (Cancel id) who i = refl
same_setting s (Restore id) who i = refl
same_setting s (Replace id method path body) who i = refl
same_setting s (Create before after q) who i = refl
same_setting s (Retry (OfCall number)) who i = refl
same_setting s (Retry (OfReply id)) who i = refl
same_setting s (Retry (OfFetch number)) who i = refl
same_setting s (Fold id) who i = refl
same_setting s (Deploy p) who i = refl
same_setting s (Correct k p) who i = refl
same_setting s (Rules g) who i = refl

order_by_grows : (s : Kept) (command : Command) (token who : List ℕ) (i : Inputs) (o : Option OrderRefused) → Grows s (order_by s command token who i o).service
order_by_grows s command token who i (Some why) = grows_none s
order_by_grows s command token who i None = record {
  rows = order_rows s command token who i;
  is = ap (λ j. j ++ order_rows s command token who i) (same_journal s command who i);
  setting = same_setting s command who i;
}

order_where_grows : (s : Kept) (command : Command) (token who : List ℕ) (i : Inputs) (o : Option OrderedRow) → Grows s (order_where s command token who i o).service
order_where_grows s command token who i (Some o) = grows_none s
order_where_grows s command token who i None = order_by_grows s command token who i (refused s command who)

pub event_grows : (s : Kept) (e : Event) → Grows s (event s e).service
event_grows s (events.Arrive Outside q i) = admitted_grows s Outside q i (or_else (is_crowded s) (is_heavy s))
event_grows s (events.Arrive (Call c n) q i) =
    arrives_either s c n q i (LeavesGrown s) (grows_none s)
    (gone_grows s (last_taken c n s.journal) (arrives_or_known s c n q i (find_call (Call c n) s.entries)) (or_known_grows s c n q i (find_call (Call c n) s.entries)))
event_grows s (events.Take set i) = takes_either s set i (LeavesGrown s) (grows_none s) (take_admitted_grows s set i (is_too_much s set))
event_grows s events.Step = step_by_grows s (stale_in (answers s) (base s) (unfolded s))
event_grows s (events.CallAnswered id a) = (event_goes s (events.CallAnswered id a) tt).grows
event_grows s (events.CallFailed id number why) = (event_goes s (events.CallFailed id number why) tt).grows
event_grows s (events.Abandon id) = (event_goes s (events.Abandon id) tt).grows
event_grows s (events.TakeToken t) = (event_goes s (events.TakeToken t) tt).grows
event_grows s (events.Give f) = grows_none s
event_grows s (events.NextPost dest) = grows_none s
event_grows s (events.WritePost name) = grows_none s
event_grows s (events.Posted post reply) = (event_goes s (events.Posted post reply) tt).grows
event_grows s (events.Order command token who i) = order_where_grows s command token who i (ordered token s.journal)

-- what holds of what an event leaves, and of the service before it, holds of what a call leaves that makes it
pub left_by : (P : Kept → Type 0) (s t : Kept) (e : Event) (d : Done) → Happens e s d t → P (event s e).service → P s → P t
left_by P s t e d happens leaves before = by (is_lacking d) happens
  where
    by : (lacking : Bool) → Unless lacking (after t d ≡ event s e) (t ≡ s) → P t
    by true same = subst P (sym same) before
    by false is = subst P (sym (ap (λ (a : After Done). a.service) is)) leaves

-- a call that makes it lets the journal grow as it does; for want of memory, nothing changed
pub grown : (s t : Kept) (e : Event) (d : Done) → Happens e s d t → Grows s t
grown s t e d happens = left_by (Grows s) s t e d happens (event_grows s e) (grows_none s)
