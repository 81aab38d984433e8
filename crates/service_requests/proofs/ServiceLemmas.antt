-- What a service's type keeps: a flight of it may end, and what an event leaves is a service again.
use Rattle.std.proofs.Common.{◌≡◌, ◌∙◌, sym, subst, ap, ℕ, ◌<◌, ◌≤◌, ◌^◌, Bool, List, [], ◌∷◌, length, find, Some, None, Result, Ok, Err, IfOk, OnErr, arith}
use Rattle.lang_base.specs.declared.memory.NoMemory.{NoMemory}
use Rattle.lang_core.specs.declared.ids.Origin.{Origin}
use Rattle.lang_core.specs.declared.inputs.Inputs.{Inputs}
use Rattle.lang_core.specs.declared.request.Request.{Request}
use Rattle.journal_rows.specs.Words.{last_taken_of}
use Rattle.flights.specs.declared.flight.Flight.{Flight}
use Rattle.service_events.specs.State.{Kept, After, after, in_all, next_id, has_flight, flight_of}
use Rattle.service_events.specs.Arriving.{accepted, new_flight}
use Rattle.service_events.specs.Event.{event}
use Rattle.service_events.specs.Fits.{Fits}
use Rattle.service_events.specs.Flying.{goes_on}
use Rattle.service_events.specs.declared.answers.Arrived.{Arrived}
use Rattle.service_events.specs.declared.event.Event.{Event}
use Rattle.service_events.proofs.FreshLemmas.{unfound, alone, below_next, untaken_of}
use Rattle.service_events.proofs.PartLemmas.{logged}
use Rattle.service_events.proofs.ReplyLemmas.{above_all}
use Rattle.service_events.proofs.SearchLemmas.{found_all}
use Rattle.service_events.proofs.FlightLemmas.{flies_from, free_number}
use Rattle.service_requests.specs.Endings.{MayEnd}
use Rattle.service_parts.specs.Parts.{kept}
use Rattle.service_parts.specs.declared.parts.Parts.{Parts}
use Rattle.service_requests.specs.Arrivals.{before_run}
use Rattle.service_parts.specs.Services.{HasRoom, IsService}
use Rattle.service_parts.proofs.ServiceLaws.{same_service, event_service}
use Rattle.service_requests.proofs.ArrivalLemmas.{may_run}

-- ---- the end of a flight

some_length : {X : Type 0} (p : X → Bool) (xs : List X) (x : X) → find p xs ≡ Some x → 1 ≤ length xs
some_length p [] x h = cc
some_length p (y ∷ ys) x h = omega arith

-- a flight that is there may end
pub flight_may_end : (s : Kept) (id : ℕ) (f : Flight) → Fits s → in_all s ≤ 100000 → flight_of id s ≡ Some f → MayEnd s f
flight_may_end s id f fits few found =
    let l = logged s fits in
    let free : last_taken_of f.origin s.journal ≡ None = found_all (λ (f : Flight). last_taken_of f.origin s.journal ≡ None) (has_flight id) s.flights f fits.flights.untaken found in
    let some = some_length (has_flight id) s.flights f found in
    record {
      number = found_all (λ (f : Flight). 1 ≤ f.id) (has_flight id) s.flights f fits.flights.numbered found;
      id = unfound s.journal s.entries s.replies l;
      origin = alone s.journal s.entries s.replies l f.origin (untaken_of f.origin s.journal free);
      few = omega (arith, few, some);
      replies = above_all (next_id s) s.replies (below_next s.journal s.entries s.replies l);
    }

-- and so may one that begins
pub new_may_end : (s : Kept) (o : Origin) (q : Request) (i : Inputs) → Fits s → before_run s o ≡ None → MayEnd s (new_flight s o q i)
new_may_end s o q i fits runs =
    let l = logged s fits in
    let may = may_run s o runs in
    let place = may.place in
    let flies = flies_from s.journal s.flights fits.flights in
    record {
      number = (free_number s.flights flies.others flies.numbered).0;
      id = unfound s.journal s.entries s.replies l;
      origin = may.alone;
      few = omega (arith, place);
      replies = above_all (next_id s) s.replies (below_next s.journal s.entries s.replies l);
    }

-- ---- what is left

-- what follows after a draft and where a flight goes on, with what is equal to both
pub follows_same : (s t : Kept) (f g : Flight) (left : After Arrived) → left ≡ goes_on s f → s ≡ t → f ≡ g → left ≡ goes_on t g
follows_same s t f g left h e k = h ∙ ap (λ (s : Kept). goes_on s f) e ∙ ap (goes_on t) k

pub same_may_end : (s : Kept) (f g : Flight) → f ≡ g → MayEnd s g → MayEnd s f
same_may_end s f g e h = subst (MayEnd s) (sym e) h

-- where an outcome of an event was put in place, or was refused for want of memory
pub outcome_service : {A E : Type 0} (p p' : Parts) (e : Event) (result : Result A NoMemory) (left : After A) (done : After (Result A E)) → accepted left ≡ done
    → done.service ≡ (event (kept p) e).service → IfOk result (λ a. after (kept p') a ≡ left) → OnErr result (kept p' ≡ kept p) → HasRoom p' → IsService p → IsService p'
outcome_service {A} {E} p p' e (Ok a) left done same by is err room h =
    event_service p p' e (ap (λ (x : After A). x.service) is ∙ ap (λ (x : After (Result A E)). x.service) same ∙ by) room h
outcome_service p p' e (Err why) left done same by is err room h = same_service p p' err room h
