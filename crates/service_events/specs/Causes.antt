-- Why calls consume the tentative answer: what each register tells of it, and what an event of a live request adds.
use Rattle.std.specs.Prelude.{ℕ, ◌≡◌, ◌+◌, ◌≤◌, Bool, true, false, ◌&&◌, List, ◌++◌, Option, Some, None, IsSomeAnd, Result, OnOk, is_some, map, nat_le, replicate}
use Rattle.repair_messages.specs.declared.messages.AnswerMessage.{AnswerMessage}
use Rattle.call_registers.specs.declared.register.Register.{Register}
use Rattle.call_registers.specs.declared.register.Why.{Why}
use Rattle.call_registers.specs.declared.register.Why.TheVariants.{Changes}
use Rattle.flights.specs.Moves.{calls_in, first_other}
use Rattle.flights.specs.declared.flight.Flight.{Flight}
use Rattle.service_events.specs.Arriving.{live_answer_rows, told}
use Rattle.service_events.specs.Calls.{noted}
use Rattle.service_events.specs.Flying.{flight_run}
use Rattle.service_events.specs.State.{Kept, flight_of}
use Rattle.service_events.specs.declared.answers.Arrived.{Arrived}

-- what each register tells of why, in the order of their numbers
abbrev pub causes_in : List Register → List (Option Why)
causes_in registers = map (λ (r : Register). r.told) registers

abbrev pub causes : Kept → List (Option Why)
causes s = causes_in s.registers

-- the flight makes another call in place of one that it has, for the fourth time
abbrev pub is_fourth_change : Kept → Flight → Bool
is_fourth_change s f = is_some (first_other f.calls (calls_in (flight_run s f))) && nat_le 3 f.changes

-- what calls tell that are named from then on: they aren't sent, so they have neither an answer nor a failure
abbrev pub cause_of_new : Bool → Option Why
cause_of_new true = Some Changes
cause_of_new false = None

-- registers tell what they told before, and so many new ones the same of why; where that is the fourth change, there are new ones
pub record AddsCauses (before : List (Option Why)) (fourth : Bool) (t : Kept) : Type 0 where
  pub count : ℕ
  pub are : causes t ≡ before ++ replicate count (cause_of_new fourth)
  pub some : fourth ≡ true → 1 ≤ count

-- where a call was answered, no register tells anything else
abbrev pub TellsAnswered : {E : Type 0} → ℕ → AnswerMessage → Kept → Result Arrived E → Kept → Type 0
TellsAnswered id a s result t =
    OnOk result (IsSomeAnd (flight_of id s) (λ f. AddsCauses (causes s) (is_fourth_change (noted (live_answer_rows s a) s) f) t))

-- where it failed, that one tells why
abbrev pub TellsFailed : {E : Type 0} → ℕ → ℕ → Why → Kept → Result Arrived E → Kept → Type 0
TellsFailed id number why s result t =
    OnOk result (IsSomeAnd (flight_of id s) (λ f. AddsCauses (causes (told number why s)) (is_fourth_change (told number why s) f) t))
