-- A service among its peers.
use Rattle.std.specs.Prelude.{ℕ, ◌≡◌, List, Some}
use Rattle.wire_fields.specs.Named.{value_of}
use Rattle.wire_fields.specs.Secrets.{Secrets}
use Rattle.wire_fields.specs.declared.named.Named.{Named}
use Rattle.node_exchanges.specs.declared.place.Peer.{Peer}
use Rattle.node_exchanges.specs.declared.place.Place.{Place}

-- the name of each peer, and the address at which it listens
abbrev pub Doors : Type 0
Doors = List (Named (List ℕ))

-- A service among its peers: its name, the secret with which it seals, that of its console, its door, and the secret and the door of each
-- of its peers.
pub record Endpoint : Type 0 where
  pub me : List ℕ
  pub secret : List ℕ
  pub console : List ℕ
  pub door : List ℕ
  pub secrets : Secrets
  pub doors : Doors

-- that of a place
abbrev pub at_place : Place → Endpoint
at_place place = record {
  me = place.setup.now.setting.me;
  secret = place.setup.now.secret;
  console = place.setup.now.console;
  door = place.setup.now.door;
  secrets = place.secrets.now;
  doors = place.doors.now;
}

-- the door and the secret of the peer of this name
pub record IsPeer (e : Endpoint) (name : List ℕ) (peer : Peer) : Type 0 where
  pub door : value_of name e.doors ≡ Some peer.door.now
  pub secret : value_of name e.secrets ≡ Some peer.secret.now
