-- Whom a service knows, and services that can be told apart.
use Rattle.std.specs.Prelude.{ℕ, ◌≡◌, Bool, List, All, IsSomeAnd, find, map}
use Rattle.std.specs.List.{IsDistinct}
use Rattle.lang_base.specs.Texts.{same_text}
use Rattle.wire_fields.specs.declared.named.Named.{Named}
use Rattle.world_file.specs.Worlds.{name_of}
use Rattle.world_file.specs.declared.setup.Setup.{Setup}
use Rattle.node_core.specs.declared.nodes.Node.{Node}
use Rattle.node_workers.specs.declared.desk.Desk.{Desk}

-- the names under which something is kept
abbrev pub names_of : List (Named (List ℕ)) → List (List ℕ)
names_of list = map (λ (one : Named (List ℕ)). one.name) list

-- no two of these services have one name
abbrev pub AreApart : List Setup → Type 0
AreApart setups = IsDistinct same_text (map name_of setups)

-- ---- what is known of peers

abbrev pub has_name : List ℕ → Setup → Bool
has_name name setup = same_text setup.setting.me name

abbrev pub door_of : Setup → List ℕ
door_of setup = setup.door

abbrev pub secret_of : Setup → List ℕ
secret_of setup = setup.secret

-- what stands under a name is what the setup of that name has, the first where there are several
abbrev pub IsToldBy : (Setup → List ℕ) → List Setup → Named (List ℕ) → Type 0
IsToldBy what known one = IsSomeAnd (find (has_name one.name) known) (λ (setup : Setup). one.value ≡ what setup)

-- ---- a service's desk

-- how its service is set up
abbrev pub setup_at : {R Q : Type 0} → Desk R Q → Setup
setup_at desk = desk.setup.now

-- its node
abbrev pub node_at : {R Q : Type 0} → Desk R Q → Node R
node_at desk = desk.node.now

-- The peers of its service are those of its setup; and their doors and secrets are those of the setups that are known.
pub record KnowsPeers {R Q : Type 0} (known : List Setup) (desk : Desk R Q) : Type 0 where
  pub doors : names_of desk.doors ≡ (setup_at desk).setting.peers
  pub secrets : names_of desk.secrets ≡ (setup_at desk).setting.peers
  pub told_doors : All (IsToldBy door_of known) desk.doors
  pub told_secrets : All (IsToldBy secret_of known) desk.secrets
