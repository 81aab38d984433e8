-- What comes of a line with a text that is read when the line is done.
use Rattle.std.specs.Prelude.{ℕ, List, [], ◌∷◌, Some, None, Result, Ok, Err, codes}
use Rattle.journal_rows.specs.declared.orders.Command.{Command}
use Rattle.order_texts.specs.declared.refused.TextFault.{TextFault}
use Rattle.order_texts.specs.declared.refused.TextFault.TheVariants.{Program, Rules}
use Rattle.service_events.specs.State.{Kept, me}
use Rattle.world_agreement.specs.Partners.{service_of}
use Rattle.world_events.specs.Worlds.{World}
use Rattle.world_events.specs.declared.event.Event.{Event}
use Rattle.world_events.specs.declared.event.Event.TheVariants as event
use Rattle.script_text.specs.Happenings.{Told, refused_line}
use Rattle.script_run.specs.Reporting.{report_of}
use Rattle.script_run.specs.Told.{LineAnswer, events_said}

-- the word and the number that tell why a text is none
abbrev pub fault_told : TextFault → Told
fault_told (Program at) = (codes "program", Some at)
fault_told (Rules line) = (codes "rules", Some line)

-- `S refused program PLACE`, `S refused rules LINE`
abbrev pub text_refused : TextFault → Kept → List ℕ
text_refused fault s = refused_line (me s) (fault_told fault) None

-- the order that is made of what was read of a text is the line's one event; of a text that is none there is none
abbrev pub given_events : List ℕ → List ℕ → List ℕ → Result Command TextFault → List Event
given_events service token who (Ok command) = event.Order service command token who ∷ []
given_events service token who (Err fault) = []

-- what is said of it
abbrev pub given_said : World → List ℕ → Result Command TextFault → List Event → LineAnswer
given_said w service (Ok command) = events_said w
given_said w service (Err fault) = λ events. report_of (text_refused fault) (service_of service w.services)
