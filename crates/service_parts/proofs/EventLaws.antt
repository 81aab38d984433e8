-- What each event keeps of a service's limits and of the ages of its posts: each law is one statement, with a case for each event.
use Rattle.std.proofs.Common.{refl}
use Rattle.lang_core.specs.declared.ids.Origin.TheVariants.{Outside, Call}
use Rattle.request_log.specs.Entries.{find_call}
use Rattle.journal_rows.specs.Words.{last_taken, ordered}
use Rattle.call_registers.specs.Registers.{register}
use Rattle.service_events.specs.Arriving.{arrives_or_known}
use Rattle.service_events.specs.Event.{event}
use Rattle.service_events.specs.Fits.{Fits}
use Rattle.service_events.specs.Messages.{is_too_much}
use Rattle.service_events.specs.State.{Kept, answers, base, flight_of, is_crowded, is_heavy, or_else, unfolded}
use Rattle.service_events.specs.Steps.{stale_in}
use Rattle.service_events.specs.declared.event.Event.{Event}
use Rattle.service_events.specs.declared.event.Event.TheVariants as events
use Rattle.service_events.proofs.AskedLemmas.{arrives_either, takes_either, posted_either}
use Rattle.service_events.proofs.CallLaws.{IsFew}
use Rattle.service_events.proofs.EventLaws.{event_fits}
use Rattle.service_parts.proofs.AgeLaws.{AgesOf, GoesAged, abandoned_step, admitted_aged, aged_same, aged_step, answered_aged, call_aged, failed_aged, gone_aged, keeps_ages, stepped_aged, unreplied}
use Rattle.service_parts.proofs.BoundLaws.{IsBounded, abandoned_bounded, answered_bounded, arrives_bounded, call_bounded, failed_bounded, gone_bounded}
use Rattle.service_parts.proofs.MessageAges.{heard_aged, order_where_aged, reply_aged, take_admitted_aged}
use Rattle.service_parts.proofs.MessageBounds.{token_taken_where_bounded, reply_bounded, take_admitted_bounded}
use Rattle.service_parts.proofs.StepBoundLaws.{order_where_bounded, step_by_bounded}

-- ---- there aren't too many entries and flights

pub event_bounded : (s : Kept) (e : Event) → IsBounded s → IsBounded (event s e).service
event_bounded s (events.Arrive Outside q i) h = arrives_bounded s Outside q i h
event_bounded s (events.Arrive (Call c n) q i) h =
    let entry = find_call (Call c n) s.entries in
    arrives_either s c n q i (λ a. IsBounded a.service) h
    (gone_bounded s (last_taken c n s.journal) (arrives_or_known s c n q i entry) h (call_bounded s c n q i entry h))
event_bounded s (events.CallAnswered id a) h = answered_bounded s id a (flight_of id s) refl h
event_bounded s (events.CallFailed id number why) h = failed_bounded s id number why (flight_of id s) refl h
event_bounded s (events.Abandon id) h = abandoned_bounded s (flight_of id s) h
event_bounded s (events.Take set i) h = takes_either s set i (λ a. IsBounded a.service) h (take_admitted_bounded s set i (is_too_much s set) refl h)
event_bounded s (events.TakeToken a) h = token_taken_where_bounded s a (register a.number s.registers) h
event_bounded s (events.Give f) h = h
event_bounded s (events.NextPost dest) h = h
event_bounded s (events.WritePost name) h = h
event_bounded s (events.Posted post reply) h = posted_either s post reply (λ a. IsBounded a.service) h (λ _ _. reply_bounded s post reply h)
event_bounded s events.Step h = step_by_bounded s (stale_in (answers s) (base s) (unfolded s)) h
event_bounded s (events.Order command token who i) h = order_where_bounded s command token who i (ordered token s.journal) h

-- ---- posts are as old as the journal says

event_aged : (s : Kept) (e : Event) → Fits s → GoesAged s (event s e).service
event_aged s (events.Arrive Outside q i) f = admitted_aged s Outside q i (or_else (is_crowded s) (is_heavy s))
event_aged s (events.Arrive (Call c n) q i) f =
    let entry = find_call (Call c n) s.entries in
    arrives_either s c n q i (λ a. GoesAged s a.service) (aged_same s)
    (gone_aged s (last_taken c n s.journal) (arrives_or_known s c n q i entry) (call_aged s c n q i entry))
event_aged s (events.CallAnswered id a) f = answered_aged s id a (flight_of id s)
event_aged s (events.CallFailed id number why) f = failed_aged s id number why (flight_of id s)
event_aged s (events.Abandon id) f = aged_step s (event s (events.Abandon id)).service (abandoned_step s (flight_of id s))
event_aged s (events.Take set i) f = takes_either s set i (λ a. GoesAged s a.service) (aged_same s) (take_admitted_aged s f set i (is_too_much s set))
event_aged s (events.TakeToken a) f = heard_aged s a (register a.number s.registers)
event_aged s (events.Give x) f = aged_same s
event_aged s (events.NextPost dest) f = aged_same s
event_aged s (events.WritePost name) f = aged_same s
event_aged s (events.Posted post reply) f = posted_either s post reply (λ a. GoesAged s a.service) (aged_same s) (reply_aged s f post reply)
event_aged s events.Step f = stepped_aged s (stale_in (answers s) (base s) (unfolded s)) f
event_aged s (events.Order command token who i) f = order_where_aged s command token who i (ordered token s.journal)

pub event_ages : (s : Kept) (e : Event) → Fits s → IsFew (event s e).service → AgesOf s → AgesOf (event s e).service
event_ages s e f few h =
    let aged = event_aged s e f in
    keeps_ages s (event s e).service f (event_fits s e f few) few aged.calls (aged.replies (unreplied s f)) h
