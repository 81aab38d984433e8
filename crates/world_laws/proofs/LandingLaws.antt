-- A flight that is completed without sending is committed in the end, by the same service.
use Rattle.std.proofs.Common.{◌≡◌, ℕ, zero, suc, Option, Some, None, slice_get, refl, ◌∙◌}
use Rattle.lang_core.specs.Traces.{dead_trace}
use Rattle.lang_core.specs.declared.trace.CallMade.{CallMade}
use Rattle.lang_core.specs.declared.trace.Trace.{Trace}
use Rattle.handler_run.specs.declared.state.Ran.{Ran}
use Rattle.handler_run.specs.declared.state.Ran.TheVariants.{Done, Wants}
use Rattle.local_repair.specs.Alone.{trace_or_dead}
use Rattle.call_registers.specs.Registers.{next_number}
use Rattle.flights.specs.Moves.{calls_in, first_other, by_run, change_or}
use Rattle.flights.specs.declared.flight.Flight.{Flight}
use Rattle.service_events.specs.State.{Kept, After}
use Rattle.service_events.specs.Flying.{flight_run, committed, with_slot, with_change, call_or_none, named_unsent, changed_unsent, completing, completed}
use Rattle.service_events.specs.declared.answers.Arrived.{Arrived}

-- it ends so
pub record Lands (s : Kept) (f : Flight) (a : After Arrived) : Type 0 where
  pub at : Kept
  pub flight : Flight
  pub trace : Trace
  pub is : a ≡ committed at flight trace
  pub setting : at.setting ≡ s.setting
  pub flights : at.flights ≡ s.flights
  pub id : flight.id ≡ f.id
  pub origin : flight.origin ≡ f.origin

pub lands_here : (s : Kept) (f : Flight) (t : Trace) → Lands s f (committed s f t)
lands_here s f t = record { at = s; flight = f; trace = t; is = refl; setting = refl; flights = refl; id = refl; origin = refl }

pub lands_after : (s t : Kept) (f g : Flight) (a : After Arrived) → t.setting ≡ s.setting → t.flights ≡ s.flights → g.id ≡ f.id
    → g.origin ≡ f.origin → Lands t g a → Lands s f a
lands_after s t f g a setting flights id origin l = record {
  at = l.at;
  flight = l.flight;
  trace = l.trace;
  is = l.is;
  setting = l.setting ∙ setting;
  flights = l.flights ∙ flights;
  id = l.id ∙ id;
  origin = l.origin ∙ origin;
}

pub lands_call : (s : Kept) (f : Flight) (o : Option CallMade) (go : CallMade → After Arrived) (never : After Arrived) → ((c : CallMade) → Lands s f (go c)) → Lands s f never
    → Lands s f (call_or_none o go never)
lands_call s f None go never goes stops = stops
lands_call s f (Some c) go never goes stops = goes c

lands_completing : (again : Kept → Flight → After Arrived) → ((s : Kept) (f : Flight) → Lands s f (again s f)) → (s : Kept) (f : Flight) (ran : Ran) (o : Option ℕ)
    → Lands s f (completing s f ran (change_or o (by_run ran)) again)
lands_completing again lands s f ran (Some slot) =
    let next = next_number s.registers in
    lands_call s f (slice_get (calls_in ran) slot) (λ c. again (changed_unsent s f slot c) (with_change slot next c f)) (committed s f (trace_or_dead ran))
    (λ c. let t = changed_unsent s f slot c in let g = with_change slot next c f in lands_after s t f g (again t g) refl refl refl refl (lands t g))
    (lands_here s f (trace_or_dead ran))
lands_completing again lands s f (Done t) None = lands_here s f t
lands_completing again lands s f (Wants slot calls c) None =
    let t = named_unsent s c in
    let g = with_slot (next_number s.registers) c f in
    lands_after s t f g (again t g) refl refl refl refl (lands t g)

pub completed_lands : (runs : ℕ) (s : Kept) (f : Flight) → Lands s f (completed runs s f)
completed_lands zero s f = lands_here s f dead_trace
completed_lands (suc runs) s f =
    lands_completing (completed runs) (completed_lands runs) s f (flight_run s f) (first_other f.calls (calls_in (flight_run s f)))
