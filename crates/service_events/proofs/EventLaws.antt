-- Laws of all events of a service: each is one statement, with a case for each event.
use Rattle.std.proofs.Common.{◌≡◌, ℕ, List, ◌++◌, Option, Some, None, refl, sym, ap, ◌∙◌, take, arith}
use Rattle.lang_core.specs.declared.ids.Origin.TheVariants.{Outside, Call}
use Rattle.request_log.specs.Entries.{find_call}
use Rattle.journal_rows.specs.Words.{last_taken, ordered, fold_step}
use Rattle.call_registers.specs.Registers.{register}
use Rattle.service_events.specs.Event.{event}
use Rattle.service_events.specs.Fits.{Fits, FitsFlights, FitsHorizon}
use Rattle.service_events.specs.Messages.{is_too_much, origin_of}
use Rattle.service_events.specs.State.{Kept, KeepsFolded, answers, base, flight_of, is_crowded, is_heavy, is_in_flight, or_else, unfolded}
use Rattle.service_events.specs.Steps.{stale_in}
use Rattle.service_events.specs.declared.event.Event.{Event}
use Rattle.service_events.specs.declared.event.Event.TheVariants as events
use Rattle.service_events.proofs.AskedLemmas.{arrives_either, takes_either, posted_either}
use Rattle.service_events.proofs.CallLaws.{FitsCalls, Goes, IsFew, calls_of_fits, goes_same}
use Rattle.service_events.proofs.LiveCallLaws.{arrives_goes, outside_apart, call_goes, answered_goes, failed_goes, abandoned_goes}
use Rattle.service_events.proofs.LiveEntryLaws.{LeavesLogged, arrives_logged, unless_gone_logged, answered_logged, failed_logged, abandoned_logged}
use Rattle.service_events.proofs.LiveRuns.{admitted_runs, call_runs, answered_runs, failed_runs, abandoned_runs}
use Rattle.service_events.proofs.MessageLaws.{take_by_goes, token_taken_where_goes, posted_goes}
use Rattle.service_events.proofs.OrderLaw.{order_where_logged, IsNamed, quiet_by, to_fold_is, well_named}
use Rattle.service_events.proofs.OrderLaws.{order_where_goes}
use Rattle.service_events.proofs.PartLemmas.{IsLogged, logged}
use Rattle.service_events.proofs.PostedLaw.{token_taken_where_logged, posted_logged_by}
use Rattle.service_events.proofs.RepairRuns.{LeavesRuns, step_by_runs, take_admitted_runs, token_taken_where_runs, posted_by_runs, order_where_runs}
use Rattle.service_events.proofs.StepLaw.{step_by_logged}
use Rattle.service_events.proofs.StepLaws.{step_by_goes}
use Rattle.service_events.proofs.TakeLaw.{take_admitted_logged}
use Rattle.std.proofs.lemmas.List.Sums.{fold_push}
use Rattle.lang_core.specs.declared.inputs.Inputs.{Inputs}
use Rattle.journal_rows.specs.declared.orders.About.TheVariants.{Request as AboutRequest}
use Rattle.journal_rows.specs.declared.orders.Command.{Command}
use Rattle.journal_rows.specs.declared.orders.Command.TheVariants.{Cancel, Restore, Replace, Create, Retry, Fold, Deploy, Correct, Rules}
use Rattle.journal_rows.specs.declared.orders.OrderedRow.{OrderedRow}
use Rattle.journal_rows.specs.declared.row.Row.TheVariants.{Ordered}
use Rattle.service_events.specs.Calls.{noted}
use Rattle.service_events.specs.Orders.{carried_out, entry_of, first_unquiet, order_by, order_rows, order_rule, order_where, refused, to_fold}
use Rattle.service_events.specs.declared.refusals.OrderRefused.{OrderRefused}
use Rattle.service_events.proofs.BehindLaws.{GoesBehind, behind_fits, behind_same}
use Rattle.service_events.proofs.FoldLaw.{fold_horizon, fold_keeps}
use Rattle.service_events.proofs.LiveUnder.{LeavesUnder, abandoned_under, admitted_under, answered_under, call_under, failed_under}
use Rattle.service_events.proofs.RepairUnder.{order_where_under, posted_by_under, step_by_under, take_admitted_under, token_taken_where_under}
use Rattle.service_events.proofs.LiveBehind.{LeavesBehind, abandoned_behind, admitted_behind, answered_behind, call_behind, failed_behind}
use Rattle.service_events.proofs.RepairBehind.{ordered_behind, posted_by_behind, step_by_behind, take_admitted_behind, token_taken_where_behind}

-- ---- the journal grows, and what fits of calls is kept

-- what an event asks for it: an arrival, a version, a step and an order ask that the service fits its journal
abbrev pub GoesWhere : Kept → Event → Type 0
GoesWhere s (events.Arrive o q i) = Fits s
GoesWhere s (events.Take set i) = Fits s
GoesWhere s events.Step = Fits s
GoesWhere s (events.Order command token who i) = Fits s
GoesWhere s e = Unit {0}

pub goes_where_fits : (s : Kept) (e : Event) → Fits s → GoesWhere s e
goes_where_fits s (events.Arrive o q i) f = f
goes_where_fits s (events.Take set i) f = f
goes_where_fits s events.Step f = f
goes_where_fits s (events.CallAnswered id a) f = tt
goes_where_fits s (events.CallFailed id number why) f = tt
goes_where_fits s (events.Abandon id) f = tt
goes_where_fits s (events.TakeToken t) f = tt
goes_where_fits s (events.Give x) f = tt
goes_where_fits s (events.NextPost dest) f = tt
goes_where_fits s (events.WritePost name) f = tt
goes_where_fits s (events.Posted post reply) f = tt
goes_where_fits s (events.Order command token who i) f = f

pub event_goes : (s : Kept) (e : Event) → GoesWhere s e → Goes s (event s e).service
event_goes s (events.Arrive Outside q i) f = arrives_goes s Outside q i (or_else (is_crowded s) (is_heavy s)) (outside_apart s.flights) refl
event_goes s (events.Arrive (Call c n) q i) f =
    call_goes s c n q i (is_in_flight (Call c n) s) (last_taken c n s.journal) (find_call (Call c n) s.entries) f refl refl refl
event_goes s (events.CallAnswered id a) _ = answered_goes s id a (flight_of id s) refl
event_goes s (events.CallFailed id number why) _ = failed_goes s id number why (flight_of id s) refl
event_goes s (events.Abandon id) _ = abandoned_goes s id (flight_of id s) refl
event_goes s (events.Take set i) f = take_by_goes s set i (is_in_flight (origin_of set) s) f.asked.distinct refl
event_goes s (events.TakeToken t) _ = token_taken_where_goes s t (register t.number s.registers) refl
event_goes s (events.Give f) _ = goes_same s
event_goes s (events.NextPost dest) _ = goes_same s
event_goes s (events.WritePost name) _ = goes_same s
event_goes s (events.Posted post reply) _ = posted_either s post reply (λ a. Goes s a.service) (goes_same s) (posted_goes s post reply)
event_goes s events.Step f = step_by_goes s (stale_in (answers s) (base s) (unfolded s)) refl f.asked.distinct
event_goes s (events.Order command token who i) f = order_where_goes s f command token who i (ordered token s.journal) refl

-- ---- entries and replies follow from the journal

event_logged : (s : Kept) (e : Event) → Fits s → IsLogged s.journal s.entries s.replies → FitsFlights s.journal s.flights → IsFew (event s e).service
    → LeavesLogged (event s e)
event_logged s (events.Arrive Outside q i) f l flights few = arrives_logged s l Outside q i refl
event_logged s (events.Arrive (Call c n) q i) f l flights few =
    arrives_either s c n q i LeavesLogged l (unless_gone_logged s l c n q i (last_taken c n s.journal) refl)
event_logged s (events.CallAnswered id a) f l flights few = answered_logged s l flights id a (flight_of id s) refl
event_logged s (events.CallFailed id number why) f l flights few = failed_logged s l flights id number why (flight_of id s) refl
event_logged s (events.Abandon id) f l flights few = abandoned_logged s l (flight_of id s)
event_logged s (events.Take set i) f l flights few = takes_either s set i LeavesLogged l (take_admitted_logged s l set i (is_too_much s set))
event_logged s (events.TakeToken t) f l flights few = token_taken_where_logged s l t (register t.number s.registers)
event_logged s (events.Give x) f l flights few = l
event_logged s (events.NextPost dest) f l flights few = l
event_logged s (events.WritePost name) f l flights few = l
event_logged s (events.Posted post reply) f l flights few = posted_either s post reply LeavesLogged l (posted_logged_by s l post reply)
event_logged s events.Step f l flights few = step_by_logged s l (stale_in (answers s) (base s) (unfolded s)) refl few
event_logged s (events.Order command token who i) f l flights few = order_where_logged s l f command token who i (ordered token s.journal)

-- ---- records are what runs gave

event_runs : (s : Kept) (e : Event) → Fits s → LeavesRuns (event s e)
event_runs s (events.Arrive Outside q i) f = admitted_runs s f Outside q i (or_else (is_crowded s) (is_heavy s))
event_runs s (events.Arrive (Call c n) q i) f = arrives_either s c n q i LeavesRuns f.runs (call_runs s f c n q i)
event_runs s (events.CallAnswered id a) f = answered_runs s f id a (flight_of id s) refl
event_runs s (events.CallFailed id number why) f = failed_runs s f id number why (flight_of id s) refl
event_runs s (events.Abandon id) f = abandoned_runs s f (flight_of id s)
event_runs s (events.Take set i) f = takes_either s set i LeavesRuns f.runs (take_admitted_runs s f set i (is_too_much s set))
event_runs s (events.TakeToken t) f = token_taken_where_runs s f t (register t.number s.registers)
event_runs s (events.Give x) f = f.runs
event_runs s (events.NextPost dest) f = f.runs
event_runs s (events.WritePost name) f = f.runs
event_runs s (events.Posted post reply) f = posted_either s post reply LeavesRuns f.runs (λ _ _. posted_by_runs s f post reply)
event_runs s events.Step f = step_by_runs s f (stale_in (answers s) (base s) (unfolded s)) refl
event_runs s (events.Order command token who i) f = order_where_runs s f command token who i (ordered token s.journal)

-- ---- the folded entries stay, and what is told of them, or more are folded

-- an order, where a fold leaves a service whose journal tells it
order_horizon : (s : Kept) (f : Fits s) (command : Command) (token who : List ℕ) (i : Inputs) → IsNamed s command
    → FitsCalls (noted (order_rows s command token who i) (carried_out s command who i)) → FitsHorizon (noted (order_rows s command token who i) (carried_out s command who i))
order_horizon s f (Fold id) token who i ok calls =
    let at = to_fold_is s id (entry_of id s) refl ok.0 in
    fold_horizon s f id at.0 at.1 (quiet_by (first_unquiet s (base s) (to_fold id s)) ok.1) (s.journal ++ order_rows s (Fold id) token who i)
    (fold_push fold_step None s.journal
    (Ordered (record { token = token; command = Fold id; who = who; rule = order_rule s (Fold id) who; original = None; repaired = None; about = AboutRequest id })))
order_horizon s f (Cancel id) token who i ok calls = behind_fits s (noted (order_rows s (Cancel id) token who i) (carried_out s (Cancel id) who i)) f calls.sent calls.seen (ordered_behind s f (Cancel id) token who i ok.0)
order_horizon s f (Restore id) token who i ok calls = behind_fits s (noted (order_rows s (Restore id) token who i) (carried_out s (Restore id) who i)) f calls.sent calls.seen (ordered_behind s f (Restore id) token who i ok.0)
order_horizon s f (Replace id m p b) token who i ok calls = behind_fits s (noted (order_rows s (Replace id m p b) token who i) (carried_out s (Replace id m p b) who i)) f calls.sent calls.seen (ordered_behind s f (Replace id m p b) token who i ok.0)
order_horizon s f (Create before after q) token who i ok calls = behind_fits s (noted (order_rows s (Create before after q) token who i) (carried_out s (Create before after q) who i)) f calls.sent calls.seen (ordered_behind s f (Create before after q) token who i ok.0)
order_horizon s f (Retry name) token who i ok calls = behind_fits s (noted (order_rows s (Retry name) token who i) (carried_out s (Retry name) who i)) f calls.sent calls.seen (ordered_behind s f (Retry name) token who i ok.0)
order_horizon s f (Deploy p) token who i ok calls = behind_fits s (noted (order_rows s (Deploy p) token who i) (carried_out s (Deploy p) who i)) f calls.sent calls.seen (ordered_behind s f (Deploy p) token who i ok.0)
order_horizon s f (Correct k p) token who i ok calls = behind_fits s (noted (order_rows s (Correct k p) token who i) (carried_out s (Correct k p) who i)) f calls.sent calls.seen (ordered_behind s f (Correct k p) token who i ok.0)
order_horizon s f (Rules g) token who i ok calls = behind_fits s (noted (order_rows s (Rules g) token who i) (carried_out s (Rules g) who i)) f calls.sent calls.seen (ordered_behind s f (Rules g) token who i ok.0)

order_by_horizon : (s : Kept) (f : Fits s) (command : Command) (token who : List ℕ) (i : Inputs) (o : Option OrderRefused) → refused s command who ≡ o
    → FitsCalls (order_by s command token who i o).service → FitsHorizon (order_by s command token who i o).service
order_by_horizon s f command token who i (Some why) is calls = f.horizon
order_by_horizon s f command token who i None is calls = order_horizon s f command token who i (well_named s command who is) calls

order_where_horizon : (s : Kept) (f : Fits s) (command : Command) (token who : List ℕ) (i : Inputs) (o : Option OrderedRow)
    → FitsCalls (order_where s command token who i o).service → FitsHorizon (order_where s command token who i o).service
order_where_horizon s f command token who i (Some o) calls = f.horizon
order_where_horizon s f command token who i None calls = order_by_horizon s f command token who i (refused s command who) refl calls

-- what an event leaves that is no order
abbrev pub EventBehind : Kept → Event → Type 0
EventBehind s (events.Order command token who i) = Unit {0}
EventBehind s e = GoesBehind s (event s e).service

pub event_behind : (s : Kept) (e : Event) → Fits s → EventBehind s e
event_behind s (events.Arrive Outside q i) f = admitted_behind s f.horizon.within Outside q i (or_else (is_crowded s) (is_heavy s))
event_behind s (events.Arrive (Call c n) q i) f =
    arrives_either s c n q i (LeavesBehind s) (behind_same s f.horizon.within) (call_behind s f.horizon.within c n q i)
event_behind s (events.CallAnswered id a) f = answered_behind s f.horizon.within id a (flight_of id s) refl
event_behind s (events.CallFailed id number why) f = failed_behind s f.horizon.within id number why (flight_of id s) refl
event_behind s (events.Abandon id) f = abandoned_behind s f.horizon.within id (flight_of id s) refl
event_behind s (events.Take set i) f = takes_either s set i (LeavesBehind s) (behind_same s f.horizon.within) (take_admitted_behind s f set i (is_too_much s set))
event_behind s (events.TakeToken t) f = token_taken_where_behind s f t (register t.number s.registers)
event_behind s (events.Give x) f = behind_same s f.horizon.within
event_behind s (events.NextPost dest) f = behind_same s f.horizon.within
event_behind s (events.WritePost name) f = behind_same s f.horizon.within
event_behind s (events.Posted post reply) f =
    posted_either s post reply (LeavesBehind s) (behind_same s f.horizon.within) (λ _ _. posted_by_behind s f post reply)
event_behind s events.Step f = step_by_behind s f (stale_in (answers s) (base s) (unfolded s)) refl
event_behind s (events.Order command token who i) f = tt

pub event_horizon : (s : Kept) (e : Event) → Fits s → FitsCalls (event s e).service → FitsHorizon (event s e).service
event_horizon s (events.Order command token who i) f calls = order_where_horizon s f command token who i (ordered token s.journal) calls
event_horizon s (events.Arrive o q i) f calls = behind_fits s (event s (events.Arrive o q i)).service f calls.sent calls.seen (event_behind s (events.Arrive o q i) f)
event_horizon s (events.CallAnswered id a) f calls = behind_fits s (event s (events.CallAnswered id a)).service f calls.sent calls.seen (event_behind s (events.CallAnswered id a) f)
event_horizon s (events.CallFailed id number why) f calls = behind_fits s (event s (events.CallFailed id number why)).service f calls.sent calls.seen (event_behind s (events.CallFailed id number why) f)
event_horizon s (events.Abandon id) f calls = behind_fits s (event s (events.Abandon id)).service f calls.sent calls.seen (event_behind s (events.Abandon id) f)
event_horizon s (events.Take set i) f calls = behind_fits s (event s (events.Take set i)).service f calls.sent calls.seen (event_behind s (events.Take set i) f)
event_horizon s (events.TakeToken t) f calls = behind_fits s (event s (events.TakeToken t)).service f calls.sent calls.seen (event_behind s (events.TakeToken t) f)
event_horizon s (events.Give x) f calls = f.horizon
event_horizon s (events.NextPost dest) f calls = f.horizon
event_horizon s (events.WritePost name) f calls = f.horizon
event_horizon s (events.Posted post reply) f calls = behind_fits s (event s (events.Posted post reply)).service f calls.sent calls.seen (event_behind s (events.Posted post reply) f)
event_horizon s events.Step f calls = behind_fits s (event s events.Step).service f calls.sent calls.seen (event_behind s events.Step f)

-- ---- and an event changes no folded entry

behind_keeps : (s t : Kept) → GoesBehind s t → KeepsFolded s t
behind_keeps s t g =
    let same = g.horizon in
    record { within = omega (arith, same); entries = ap (λ (k : ℕ). take k t.entries) (sym same) ∙ g.folded }

keeps_all : (s : Kept) → KeepsFolded s s
keeps_all s = record { within = omega arith; entries = refl }

order_keeps : (s : Kept) (f : Fits s) (command : Command) (token who : List ℕ) (i : Inputs) → IsNamed s command
    → KeepsFolded s (noted (order_rows s command token who i) (carried_out s command who i))
order_keeps s f (Fold id) token who i ok =
    let at = to_fold_is s id (entry_of id s) refl ok.0 in
    fold_keeps s f id at.0 at.1 (quiet_by (first_unquiet s (base s) (to_fold id s)) ok.1) (s.journal ++ order_rows s (Fold id) token who i)
order_keeps s f (Cancel id) token who i ok = behind_keeps s (noted (order_rows s (Cancel id) token who i) (carried_out s (Cancel id) who i)) (ordered_behind s f (Cancel id) token who i ok.0)
order_keeps s f (Restore id) token who i ok = behind_keeps s (noted (order_rows s (Restore id) token who i) (carried_out s (Restore id) who i)) (ordered_behind s f (Restore id) token who i ok.0)
order_keeps s f (Replace id m p b) token who i ok = behind_keeps s (noted (order_rows s (Replace id m p b) token who i) (carried_out s (Replace id m p b) who i)) (ordered_behind s f (Replace id m p b) token who i ok.0)
order_keeps s f (Create before after q) token who i ok = behind_keeps s (noted (order_rows s (Create before after q) token who i) (carried_out s (Create before after q) who i)) (ordered_behind s f (Create before after q) token who i ok.0)
order_keeps s f (Retry name) token who i ok = behind_keeps s (noted (order_rows s (Retry name) token who i) (carried_out s (Retry name) who i)) (ordered_behind s f (Retry name) token who i ok.0)
order_keeps s f (Deploy p) token who i ok = behind_keeps s (noted (order_rows s (Deploy p) token who i) (carried_out s (Deploy p) who i)) (ordered_behind s f (Deploy p) token who i ok.0)
order_keeps s f (Correct k p) token who i ok = behind_keeps s (noted (order_rows s (Correct k p) token who i) (carried_out s (Correct k p) who i)) (ordered_behind s f (Correct k p) token who i ok.0)
order_keeps s f (Rules g) token who i ok = behind_keeps s (noted (order_rows s (Rules g) token who i) (carried_out s (Rules g) who i)) (ordered_behind s f (Rules g) token who i ok.0)

order_by_keeps : (s : Kept) (f : Fits s) (command : Command) (token who : List ℕ) (i : Inputs) (o : Option OrderRefused) → refused s command who ≡ o
    → KeepsFolded s (order_by s command token who i o).service
order_by_keeps s f command token who i (Some why) is = keeps_all s
order_by_keeps s f command token who i None is = order_keeps s f command token who i (well_named s command who is)

order_where_keeps : (s : Kept) (f : Fits s) (command : Command) (token who : List ℕ) (i : Inputs) (o : Option OrderedRow)
    → KeepsFolded s (order_where s command token who i o).service
order_where_keeps s f command token who i (Some o) = keeps_all s
order_where_keeps s f command token who i None = order_by_keeps s f command token who i (refused s command who) refl

-- whatever happens, what was folded is folded still, and is as it was
pub event_keeps : (s : Kept) (e : Event) → Fits s → KeepsFolded s (event s e).service
event_keeps s (events.Order command token who i) f = order_where_keeps s f command token who i (ordered token s.journal)
event_keeps s (events.Arrive o q i) f = behind_keeps s (event s (events.Arrive o q i)).service (event_behind s (events.Arrive o q i) f)
event_keeps s (events.CallAnswered id a) f = behind_keeps s (event s (events.CallAnswered id a)).service (event_behind s (events.CallAnswered id a) f)
event_keeps s (events.CallFailed id number why) f = behind_keeps s (event s (events.CallFailed id number why)).service (event_behind s (events.CallFailed id number why) f)
event_keeps s (events.Abandon id) f = behind_keeps s (event s (events.Abandon id)).service (event_behind s (events.Abandon id) f)
event_keeps s (events.Take set i) f = behind_keeps s (event s (events.Take set i)).service (event_behind s (events.Take set i) f)
event_keeps s (events.TakeToken t) f = behind_keeps s (event s (events.TakeToken t)).service (event_behind s (events.TakeToken t) f)
event_keeps s (events.Give x) f = keeps_all s
event_keeps s (events.NextPost dest) f = keeps_all s
event_keeps s (events.WritePost name) f = keeps_all s
event_keeps s (events.Posted post reply) f = behind_keeps s (event s (events.Posted post reply)).service (event_behind s (events.Posted post reply) f)
event_keeps s events.Step f = behind_keeps s (event s events.Step).service (event_behind s events.Step f)

-- ---- programs and rules follow from the journal

event_programs : (s : Kept) (e : Event) → Fits s → LeavesUnder (event s e)
event_programs s (events.Arrive Outside q i) f = admitted_under s f Outside q i (or_else (is_crowded s) (is_heavy s))
event_programs s (events.Arrive (Call c n) q i) f = arrives_either s c n q i LeavesUnder f.programs (call_under s f c n q i)
event_programs s (events.CallAnswered id a) f = answered_under s f id a (flight_of id s) refl
event_programs s (events.CallFailed id number why) f = failed_under s f id number why (flight_of id s) refl
event_programs s (events.Abandon id) f = abandoned_under s f (flight_of id s)
event_programs s (events.Take set i) f = takes_either s set i LeavesUnder f.programs (take_admitted_under s f set i (is_too_much s set))
event_programs s (events.TakeToken t) f = token_taken_where_under s f t (register t.number s.registers)
event_programs s (events.Give x) f = f.programs
event_programs s (events.NextPost dest) f = f.programs
event_programs s (events.WritePost name) f = f.programs
event_programs s (events.Posted post reply) f = posted_either s post reply LeavesUnder f.programs (λ _ _. posted_by_under s f post reply)
event_programs s events.Step f = step_by_under s f (stale_in (answers s) (base s) (unfolded s)) refl
event_programs s (events.Order command token who i) f = order_where_under s f command token who i (ordered token s.journal)

-- ---- all of it

-- a service that fits its journal fits it after each event, where the journal after it has fewer rows than a number of 64 bits counts
pub event_fits : (s : Kept) (e : Event) → Fits s → IsFew (event s e).service → Fits (event s e).service
event_fits s e f few =
    let calls : FitsCalls (event s e).service = (event_goes s e (goes_where_fits s e f)).keeps few (calls_of_fits s f) in
    let entries : IsLogged (event s e).service.journal (event s e).service.entries (event s e).service.replies = event_logged s e f (logged s f) f.flights few in
    record {
      sent = calls.sent;
      seen = calls.seen;
      taken = entries.taken;
      asked = entries.asked;
      runs = event_runs s e f;
      answered = entries.answered;
      replies = entries.replies;
      places = calls.places;
      flights = calls.flights;
      orders = calls.orders;
      horizon = event_horizon s e f calls;
      programs = event_programs s e f;
    }
