-- What a refusal of the whole run tells of the refusal that it stands for.
use Rattle.std.proofs.Common.{◌≡◌}
use Rattle.std.specs.Prelude.{Vec}
use Rattle.std.specs.declared.alloc.Global.{Global}
use Rattle.service_events.specs.State.{Kept}
use Rattle.node_core.specs.declared.closing.CloseRefused.{CloseRefused}
use Rattle.node_core.specs.declared.closing.CloseRefused.TheVariants as close
use Rattle.node_core.specs.declared.receipt.Receipt.{Receipt}
use Rattle.node_run.specs.Refused.{unequal}
use Rattle.node_run.specs.declared.refused.RunRefused.TheVariants as run

pub as_differs : (why : CloseRefused) (r : Receipt) (services : Vec Kept Global) → unequal why ≡ run.Differs r services → why ≡ close.Differs r services
as_differs close.NoMemory r services e = cc
as_differs (close.Differs s given) r services e = cc
as_differs (close.Twice s t given) r services e = cc

pub as_twice : (why : CloseRefused) (r t : Receipt) (services : Vec Kept Global) → unequal why ≡ run.Twice r t services → why ≡ close.Twice r t services
as_twice close.NoMemory r t services e = cc
as_twice (close.Differs s given) r t services e = cc
as_twice (close.Twice s u given) r t services e = cc
