-- What a call leaves of a service's parts is a service again.
use Rattle.std.proofs.Common.{◌≡◌, ◌∙◌, sym, ap, subst, Bool, true, false, Result, arith}
use Rattle.lang_base.specs.Memory.{Unless, lacks}
use Rattle.service_events.specs.State.{Kept, After, after}
use Rattle.service_events.specs.Allowed.{IsAllowed}
use Rattle.service_events.specs.Doing.{Does}
use Rattle.service_events.specs.Event.{event}
use Rattle.service_events.specs.Fits.{Fits}
use Rattle.service_events.specs.declared.event.Event.{Event}
use Rattle.service_events.proofs.CallLaws.{IsFew}
use Rattle.service_events.proofs.EventLaws.{event_fits}
use Rattle.service_parts.proofs.AgeLaws.{AgesOf}
use Rattle.service_parts.proofs.AllowedLaws.{event_stays_allowed}
use Rattle.service_parts.proofs.BoundLaws.{IsBounded}
use Rattle.service_parts.proofs.EventLaws.{event_ages, event_bounded}
use Rattle.service_parts.specs.Parts.{kept}
use Rattle.service_parts.specs.declared.parts.Parts.{Parts}
use Rattle.service_parts.specs.Services.{HasRoom, IsService}

-- its rows can be counted, as their type tells
pub rows_few : (p : Parts) → IsFew (kept p)
rows_few p = (let few = p.journal.few in omega (arith, few))

-- where nothing but its room changed
pub same_service : (p p' : Parts) → kept p' ≡ kept p → HasRoom p' → IsService p → IsService p'
same_service p p' same room h =
    record {
      fits = subst Fits (sym same) h.fits;
      allowed = subst IsAllowed (sym same) h.allowed;
      ages = subst AgesOf (sym same) h.ages;
      few = subst IsBounded (sym same) h.few;
      room = room;
    }

-- where it is what an event leaves
pub event_service : (p p' : Parts) (e : Event) → kept p' ≡ (event (kept p) e).service → HasRoom p' → IsService p → IsService p'
event_service p p' e left room h =
    let s : Kept = kept p in
    let few : IsFew (event s e).service = subst IsFew left (rows_few p') in
    record {
      fits = subst Fits (sym left) (event_fits s e h.fits few);
      allowed = subst IsAllowed (sym left) (event_stays_allowed s e h.fits h.allowed);
      ages = subst AgesOf (sym left) (event_ages s e h.fits few h.ages);
      few = subst IsBounded (sym left) (event_bounded s e h.few);
      room = room;
    }

-- where a call did an event, or wanted memory and changed nothing
pub done_service : {A E : Type 0} (p p' : Parts) (e : Event) (is_memory : E → Bool) (done : After (Result A E)) (result : Result A E) → Does is_memory done (kept p) result (kept p')
    → done.service ≡ (event (kept p) e).service → HasRoom p' → IsService p → IsService p'
done_service {A} {E} p p' e is_memory done result does is room h = by (lacks is_memory result) does
  where
    by : (wants : Bool) → Unless wants (after (kept p') result ≡ done) (kept p' ≡ kept p) → IsService p'
    by true same = same_service p p' same room h
    by false left = event_service p p' e (ap (λ (a : After (Result A E)). a.service) left ∙ is) room h
