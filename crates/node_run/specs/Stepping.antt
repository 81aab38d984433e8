-- What repair steps come to.
use Rattle.std.specs.Prelude.{◌≡◌, Bool, true, false, length}
use Rattle.call_registers.specs.Registers.{IsTimely}
use Rattle.local_repair.specs.declared.stepped.Stepped.{Stepped}
use Rattle.local_repair.specs.declared.stepped.Stepped.TheVariants.{Idle, Ran}
use Rattle.service_events.specs.Progress.{GoesFurther}
use Rattle.service_events.specs.State.{Kept, unfolded}
use Rattle.node_run.specs.Settled.{GoesOnFrom, IsAtRest}

-- whether an entry ran
abbrev pub has_run : Stepped → Bool
has_run Idle = false
has_run (Ran id answered) = true

-- a repair step was taken, in which an entry ran or none did, since none is stale; a service on time got further by it
pub record HasStepped (s : Kept) (ran : Bool) (t : Kept) : Type 0 where
  pub goes : GoesOnFrom s t
  pub many : length (unfolded t) ≡ length (unfolded s)
  pub further : IsTimely s.registers → GoesFurther s t
  pub idle : ran ≡ false → IsAtRest t

-- where the service was timely, it is timely still and at rest
pub record ComesToRest (s t : Kept) : Type 0 where
  pub goes : GoesOnFrom s t
  pub timely : IsTimely s.registers → IsTimely t.registers
  pub rests : IsTimely s.registers → IsAtRest t
