-- Why a run didn't end well, by why its workers didn't all work, or why it wasn't closed.
use Rattle.node_core.specs.declared.closing.CloseRefused.{CloseRefused}
use Rattle.node_core.specs.declared.closing.CloseRefused.TheVariants as close
use Rattle.node_run.specs.declared.refused.RunRefused.{RunRefused}
use Rattle.node_run.specs.declared.refused.RunRefused.TheVariants as run
use Rattle.node_run.specs.declared.refused.StartRefused.{StartRefused}
use Rattle.node_run.specs.declared.refused.StartRefused.TheVariants.{NoMemory, DoorFault, NotStarted}

abbrev pub widened : StartRefused → RunRefused
widened NoMemory = run.NoMemory
widened DoorFault = run.DoorFault
widened NotStarted = run.NotStarted

abbrev pub unequal : CloseRefused → RunRefused
unequal close.NoMemory = run.NoMemory
unequal (close.Differs r services) = run.Differs r services
unequal (close.Twice r t services) = run.Twice r t services
