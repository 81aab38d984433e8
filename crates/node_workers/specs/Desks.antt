-- What a worker has at hand.
use Rattle.std.specs.Prelude.{ℕ, ◌≡◌, List}
use Rattle.service_events.specs.Allowed.{IsAllowed}
use Rattle.service_events.specs.Fits.{Fits}
use Rattle.service_events.specs.State.{Kept, me}
pub use Rattle.node_exchanges.specs.Endpoints.{Doors, Endpoint}
use Rattle.node_workers.specs.declared.desk.Desk.{Desk}

-- that of a worker
abbrev pub at_desk : {R Q : Type 0} → Desk R Q → Endpoint
at_desk desk = record {
  me = desk.setup.now.setting.me;
  secret = desk.setup.now.secret;
  console = desk.setup.now.console;
  door = desk.setup.now.door;
  secrets = desk.secrets;
  doors = desk.doors;
}

-- the service has this name, fits its journal, and its rules allowed each repair in that
pub record IsServiceOf (name : List ℕ) (s : Kept) : Type 0 where
  pub is : me s ≡ name
  pub fits : Fits s
  pub allowed : IsAllowed s
