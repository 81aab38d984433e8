-- Laws of a service's events, said of a call that did its event or wanted memory and changed nothing.
use Rattle.std.proofs.Common.{◌≡◌, ℕ, Bool, true, false, Option, Some, None, Result, Ok, Err, MatchOption, refl, sym, subst}
use Rattle.lang_base.specs.Memory.{Unless, lacks}
use Rattle.lang_core.specs.declared.ids.Origin.{Origin}
use Rattle.lang_core.specs.declared.inputs.Inputs.{Inputs}
use Rattle.lang_core.specs.declared.request.Request.{Request}
use Rattle.lang_programs.specs.Numbered.{Numbered}
use Rattle.repair_messages.specs.declared.messages.AnswerMessage.{AnswerMessage}
use Rattle.call_registers.specs.declared.register.Why.{Why}
use Rattle.flights.specs.declared.flight.Flight.{Flight}
use Rattle.service_events.specs.State.{Kept, After, after, flight_of}
use Rattle.service_events.specs.Arriving.{arrive_event, call_answered_event, call_failed_event}
use Rattle.service_events.specs.Commits.{live_rows, Commits, CommitsFlight}
use Rattle.service_events.specs.Doing.{Does, arrive_memory, call_memory}
use Rattle.service_events.specs.Fits.{Fits}
use Rattle.service_events.specs.declared.answers.Arrived.{Arrived}
use Rattle.service_events.specs.declared.refusals.ArriveRefused.{ArriveRefused}
use Rattle.service_events.specs.declared.refusals.CallRefused.{CallRefused}
use Rattle.service_events.proofs.CallLaws.{IsFew}
use Rattle.service_parts.proofs.CommitLaws.{arrive_commits, call_answered_commits, call_failed_commits}
use Rattle.service_parts.proofs.UntoldLaws.{TellsNone, same_tells_none}

-- what holds of an event and of a refusal for want of memory holds of a call
pub does_holds : {A E : Type 0} (P : Result A E → Kept → Type 0) (is_memory : E → Bool) (event : After (Result A E)) (s t : Kept) (r : Result A E)
    → Does is_memory event s r t → IsFew t → (IsFew event.service → P event.answer event.service) → (lacks is_memory r ≡ true → P r s) → P r t
does_holds {A} {E} P is_memory event s t r does few holds lacking = by (lacks is_memory r) refl does
  where
    by : (wants : Bool) → lacks is_memory r ≡ wants → Unless wants (after t r ≡ event) (t ≡ s) → P r t
    by true wants same = subst (P r) (sym same) (lacking wants)
    by false wants is =
        let Q : After (Result A E) → Type 0 = λ a. P a.answer a.service in
        let F : After (Result A E) → Type 0 = λ a. IsFew a.service in
        subst Q (sym is) (holds (subst F is few))

-- ---- what is committed

refused_commits : {E : Type 0} (is_memory : E → Bool) (o : Origin) (q : Request) (i : Inputs) (p : Numbered) (s : Kept) (r : Result Arrived E) → lacks is_memory r ≡ true
    → Commits o q i p s r s
refused_commits is_memory o q i p s (Ok arrived) wants = cc
refused_commits is_memory o q i p s (Err why) wants = refl

refused_flight : {E : Type 0} (is_memory : E → Bool) (id : ℕ) (s : Kept) (r : Result Arrived E) → lacks is_memory r ≡ true → CommitsFlight id s r s
refused_flight is_memory id s r wants = by (flight_of id s)
  where
    by : (there : Option Flight) → MatchOption there (s ≡ s) (λ (f : Flight). Commits f.origin f.request f.inputs f.program s r s)
    by None = refl
    by (Some f) = refused_commits is_memory f.origin f.request f.inputs f.program s r wants

pub arrive_done : (s t : Kept) (o : Origin) (q : Request) (i : Inputs) (r : Result Arrived ArriveRefused) → Fits s → IsFew t
    → Does arrive_memory (arrive_event s o q i) s r t → Commits o q i s.newest s r t
arrive_done s t o q i r fits few does =
    does_holds (λ r t. Commits o q i s.newest s r t) arrive_memory (arrive_event s o q i) s t r does few
    (arrive_commits s o q i fits) (refused_commits arrive_memory o q i s.newest s r)

pub call_answered_done : (s t : Kept) (id : ℕ) (a : AnswerMessage) (r : Result Arrived CallRefused) → Fits s → IsFew t
    → Does call_memory (call_answered_event s id a) s r t → CommitsFlight id s r t
call_answered_done s t id a r fits few does =
    does_holds (λ r t. CommitsFlight id s r t) call_memory (call_answered_event s id a) s t r does few
    (call_answered_commits s id a fits) (refused_flight call_memory id s r)

pub call_failed_done : (s t : Kept) (id number : ℕ) (why : Why) (r : Result Arrived CallRefused) → Fits s → IsFew t
    → Does call_memory (call_failed_event s id number why) s r t → CommitsFlight id s r t
call_failed_done s t id number why r fits few does =
    does_holds (λ r t. CommitsFlight id s r t) call_memory (call_failed_event s id number why) s t r does few
    (call_failed_commits s id number why fits) (refused_flight call_memory id s r)

-- ---- which events answer no live request, and tell no call why it has no answer

-- what holds of what an event leaves and of the service before it holds of what a call leaves
pub left_done : {A E : Type 0} (P : Kept → Type 0) (is_memory : E → Bool) (event : After (Result A E)) (s t : Kept) (r : Result A E) → Does is_memory event s r t
    → P event.service → P s → P t
left_done {A} {E} P is_memory event s t r does leaves before = by (lacks is_memory r) does
  where
    by : (wants : Bool) → Unless wants (after t r ≡ event) (t ≡ s) → P t
    by true same = subst P (sym same) before
    by false is = (let Q : After (Result A E) → Type 0 = λ a. P a.service in subst Q (sym is) leaves)

pub silent_done : {A E : Type 0} (is_memory : E → Bool) (event : After (Result A E)) (s t : Kept) (r : Result A E) → Does is_memory event s r t
    → live_rows event.service.journal ≡ live_rows s.journal → live_rows t.journal ≡ live_rows s.journal
silent_done is_memory event s t r does silent =
    left_done (λ (k : Kept). live_rows k.journal ≡ live_rows s.journal) is_memory event s t r does silent refl

pub untold_done : {A E : Type 0} (is_memory : E → Bool) (event : After (Result A E)) (s t : Kept) (r : Result A E) → Does is_memory event s r t
    → TellsNone s event.service → TellsNone s t
untold_done is_memory event s t r does untold = left_done (TellsNone s) is_memory event s t r does untold (same_tells_none s s refl)
