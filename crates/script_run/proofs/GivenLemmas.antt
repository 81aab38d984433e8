-- What is done of a text that is given with an order.
use Rattle.std.proofs.Common.{◌≡◌, ℕ, List, [], ◌∷◌, Result, Ok, Err, IfOk, OnErr, refl, subst}
use Rattle.journal_rows.specs.declared.orders.Command.{Command}
use Rattle.order_texts.specs.declared.refused.TextFault.{TextFault}
use Rattle.world_agreement.specs.Partners.{service_of}
use Rattle.world_events.specs.Worlds.{World}
use Rattle.world_events.specs.declared.event.Event.{Event}
use Rattle.world_events.specs.declared.event.Event.TheVariants as event
use Rattle.script_run.specs.Giving.{given_events, given_said, text_refused}
use Rattle.script_run.specs.Reporting.{report_of}
use Rattle.script_run.specs.Stops.{Does, DoesFirst}
use Rattle.script_run.specs.Told.{LineAnswer, events_said, saying}
use Rattle.script_run.proofs.Following.{does_none, does_nothing}

module _ (w now : World) (service token who : List ℕ) (read : Result Command TextFault) where
  -- what is read as an order is made
  pub given_acts : {E : Type 0} (command : Command) (result : Result LineAnswer E) → Ok command ≡ read
      → IfOk result (λ said. Does w (λ events. events ≡ event.Order service command token who ∷ []) (saying (events_said w)) said now)
      → IfOk result (λ said. Does w (λ events. events ≡ given_events service token who read) (saying (given_said w service read)) said now)
  given_acts command result is acts =
      let D : Result Command TextFault → Type 0 = λ r. IfOk result (λ said. Does w (λ events. events ≡ given_events service token who r) (saying (given_said w service r)) said now) in
      subst D is acts

  pub given_first : {E : Type 0} (command : Command) (result : Result LineAnswer E) → Ok command ≡ read
      → OnErr result (DoesFirst w (λ events. events ≡ event.Order service command token who ∷ []) now)
      → OnErr result (DoesFirst w (λ events. events ≡ given_events service token who read) now)
  given_first command result is first =
      let D : Result Command TextFault → Type 0 = λ r. OnErr result (DoesFirst w (λ events. events ≡ given_events service token who r) now) in
      subst D is first

module _ (w : World) (service token who : List ℕ) (read : Result Command TextFault) where
  -- of what isn't, nothing is
  pub given_refused : {E : Type 0} (fault : TextFault) (result : Result LineAnswer E) → Err fault ≡ read
      → IfOk result (λ said. said ≡ report_of (text_refused fault) (service_of service w.services))
      → IfOk result (λ said. Does w (λ events. events ≡ given_events service token who read) (saying (given_said w service read)) said w)
  given_refused fault (Ok said) is told =
      let D : Result Command TextFault → Type 0 = λ r. Does w (λ events. events ≡ given_events service token who r) (saying (given_said w service r)) said w in
      subst D is (does_nothing w (saying (given_said w service (Err fault))) said told)
  given_refused fault (Err lacks) is told = tt

  -- nothing is done yet
  pub given_none : DoesFirst w (λ events. events ≡ given_events service token who read) w
  given_none = does_none w w (λ events. events ≡ given_events service token who read) (given_events service token who read) refl refl
