-- In services that agree on what went between them, a service's steps leave no stale entry; as many as it has entries that aren't folded will do.
use Rattle.std.proofs.Common.{◌≡◌, ℕ, zero, suc, ◌+◌, ◌<◌, ◌^◌, List, [], ◌∷◌, Option, Some, None, IfSome, length, take, refl, sym, ap, ◌∙◌, subst, arith}
use Rattle.std.specs.Option.{option_map_or}
use Rattle.std.proofs.Math.Seq.{take-length}
use Rattle.local_repair.specs.Current.{AllCurrent}
use Rattle.local_repair.specs.Steps.{StepsTo}
use Rattle.local_repair.specs.declared.stepped.Stepped.{Stepped}
use Rattle.local_repair.specs.declared.stepped.Stepped.TheVariants.{Idle, Ran}
use Rattle.call_registers.specs.Registers.{IsTimely}
use Rattle.service_events.specs.Fits.{Fits}
use Rattle.service_events.specs.Progress.{changes}
use Rattle.service_events.specs.State.{Kept, answers, base, me, unfolded}
use Rattle.service_events.specs.Steps.{Stale, stale_in, step_by, step_event}
use Rattle.service_events.specs.declared.event.Event.TheVariants.{Step as StepEvent}
use Rattle.service_events.proofs.EventLaws.{event_fits}
use Rattle.service_events.proofs.SearchLemmas.{found_all}
use Rattle.world_core.proofs.HandedOn.{step_as_many, step_further, step_steps, step_timely}
use Rattle.world_agreement.specs.Partners.{has_name, service_of}
use Rattle.world_agreement.proofs.TimelyLaws.{joined_timely}
use Rattle.world_events.specs.Events.{Turn, after_events, at_service, if_there, refused, repair_step_served, turn, turned}
use Rattle.world_events.specs.Sound.{AllFew, AreFew, IsSound}
use Rattle.world_events.specs.Worlds.{World}
use Rattle.world_events.specs.declared.event.Event.{Event}
use Rattle.world_events.specs.declared.event.Event.TheVariants.{Step}
use Rattle.world_events.specs.declared.event.WorldStepRefused.TheVariants.{NoService}
use Rattle.world_events.specs.declared.happened.What.TheVariants.{RepairStep}
use Rattle.world_settle.specs.Doing.{Does, IsAtRest}
use Rattle.world_settle.specs.Settles.{Follows, IsStepping, came, entries_of, is_run}
use Rattle.world_settle.specs.declared.tally.Tally.{Tally}
use Rattle.world_settle.proofs.ExchangeLaws.{put_found, with_is_put}

step_turn : (w : World) (name : List ℕ) → turn w (Step name) ≡ at_service name w repair_step_served
unfolding turn
step_turn w name = refl

module _ (s : Kept) where
  named_by : (o : Option Stale) → me (step_by s o).service ≡ me s
  named_by None = refl
  named_by (Some x) = refl

  idle_by : (o : Option Stale) → (step_by s o).answer ≡ Idle → (step_by s o).service ≡ s
  idle_by None e = refl
  idle_by (Some x) e = cc

  step_named : me (step_event s).service ≡ me s
  step_named = named_by (stale_in (answers s) (base s) (unfolded s))

  idle_same : (step_event s).answer ≡ Idle → (step_event s).service ≡ s
  idle_same e = idle_by (stale_in (answers s) (base s) (unfolded s)) e

  abbrev Current : Type 0
  Current = AllCurrent (answers s) (base s) (unfolded s)

  idle_current : Fits s → length (step_event s).service.journal < 2 ^ 64 → (step_event s).answer ≡ Idle → Current
  idle_current f few e =
      let S : Stepped → Type 0 = λ a. StepsTo s.setting (changes s (step_event s).service) (base s) (unfolded s) a (unfolded (step_event s).service) in
      (subst S e (step_steps s f few)).0

abbrev Rests : Kept → Type 0
Rests s = AllCurrent (answers s) (base s) (unfolded s)

steps_on : (name : List ℕ) (n k : ℕ) (w : World) (s : Kept) → service_of name w.services ≡ Some s → Fits s → IsTimely s.registers → AllCurrent (answers s) (base s) (take k (unfolded s))
    → n + k ≡ length (unfolded s) → (events : List Event) → IsStepping name n w events → AllFew w events → IsAtRest name (after_events w events)
steps_on name zero k w s found f timely current sum events none few =
    let all : k ≡ length (unfolded s) = omega (arith, sum) in
    let here : Rests s = subst (AllCurrent (answers s) (base s)) (ap (λ m. take m (unfolded s)) all ∙ take-length (unfolded s)) current in
    let R : List Event → Type 0 = λ es. IsAtRest name (after_events w es) in
    subst R (sym none) (subst (λ o. IfSome o Rests) (sym found) here)
steps_on name (suc n) k w s found f timely current sum [] are few = absurd are
steps_on name (suc n) k w s found f timely current sum (e ∷ events) are few =
    let is : turn w e ≡ turned name w (repair_step_served s) =
    ap (turn w) are.0 ∙ step_turn w name ∙ ap (λ o. if_there o (refused w NoService) (λ x. turned name w (repair_step_served x))) found in
    subst After (sym is)
    (after_step (λ all more few_all. steps_on name n (suc k) (turned name w (repair_step_served s)).world (step_event s).service there (event_fits s StepEvent f (mine all)) (step_timely s f (mine all) timely)
    (step_further s f (mine all) timely k current) (let many = step_as_many s f (mine all) in omega (arith, many, sum)) events more few_all)) few.0 are.1 few.1
  where
    After : Turn → Type 0
    After t = AreFew t.world → Follows {X = Event} (came is_run t.answer) (IsStepping name n t.world events) events → AllFew t.world events → IsAtRest name (after_events t.world events)

    there : service_of name (turned name w (repair_step_served s)).world.services ≡ Some (step_event s).service
    there = ap (service_of name) (with_is_put name (step_event s).service w.services) ∙ put_found name s (step_event s).service (step_named s) w.services found

    mine : AreFew (turned name w (repair_step_served s)).world → length (step_event s).service.journal < 2 ^ 64
    mine all = found_all (λ (x : Kept). length x.journal < 2 ^ 64) (has_name name) (turned name w (repair_step_served s)).world.services (step_event s).service all there

    by_answer : (a : Stepped) → (step_event s).answer ≡ a → AreFew (turned name w (repair_step_served s)).world
        → Follows {X = Event} (is_run (RepairStep a)) (IsStepping name n (turned name w (repair_step_served s)).world events) events
        → AllFew (turned name w (repair_step_served s)).world events
        → (IsStepping name n (turned name w (repair_step_served s)).world events → IsAtRest name (after_events (turned name w (repair_step_served s)).world events))
        → IsAtRest name (after_events (turned name w (repair_step_served s)).world events)
    by_answer Idle is all none few_all on =
        let R : List Event → Type 0 = λ es. IsAtRest name (after_events (turned name w (repair_step_served s)).world es) in
        subst R (sym none) (subst (λ o. IfSome o Rests) (sym there) (subst Rests (sym (idle_same s is)) (idle_current s f (mine all) is)))
    by_answer (Ran id answered) is all more few_all on = on more

    after_step : (AreFew (turned name w (repair_step_served s)).world → IsStepping name n (turned name w (repair_step_served s)).world events
        → AllFew (turned name w (repair_step_served s)).world events → IsAtRest name (after_events (turned name w (repair_step_served s)).world events))
        → After (turned name w (repair_step_served s))
    after_step on all follows few_all = by_answer (step_event s).answer refl all follows few_all (λ more. on all more few_all)

-- so it is with the steps of a service in a sound world
pub steps_rest : (w : World) (name : List ℕ) (events : List Event) → IsSound w → IsStepping name (entries_of name w) w events → AllFew w events → IsAtRest name (after_events w events)
steps_rest w name events sound are few = by_there (service_of name w.services) refl
  where
    by_there : (o : Option Kept) → service_of name w.services ≡ o → IsAtRest name (after_events w events)
    by_there None gone =
        let S : Option Kept → Type 0 = λ o. IsStepping name (option_map_or (λ (s : Kept). length (unfolded s)) o 0) w events in
        let none : events ≡ [] = subst S gone are in
        let R : List Event → Type 0 = λ es. IsAtRest name (after_events w es) in
        subst R (sym none) (subst (λ o. IfSome o Rests) (sym gone) tt)
    by_there (Some s) here =
        let S : Option Kept → Type 0 = λ o. IsStepping name (option_map_or (λ (s : Kept). length (unfolded s)) o 0) w events in
        let fits = found_all Fits (has_name name) w.services s sound.fits here in
        let timely = found_all (λ (x : Kept). IsTimely x.registers) (has_name name) w.services s (joined_timely w.services sound.fits sound.differ sound.joined) here in
        let sum : length (unfolded s) + 0 ≡ length (unfolded s) = omega arith in
        steps_on name (length (unfolded s)) 0 w s here fits timely tt sum events (subst S here are) few

pub does_rest : (w now : World) (name : List ℕ) (t u : Tally) → Does w (IsStepping name (entries_of name w)) t u now → IsSound w → IsAtRest name now
does_rest w now name t u d sound = subst (IsAtRest name) (sym (d.happened).world) (steps_rest w name d.events sound d.are (d.happened).few)
