-- What always holds of a service's parts.
use Rattle.std.specs.Prelude.{◌≤◌}
use Rattle.service_events.specs.Ages.{HasAges}
use Rattle.service_events.specs.State.{in_all}
use Rattle.service_events.specs.Fits.{Fits}
use Rattle.service_events.specs.Allowed.{IsAllowed}
use Rattle.service_parts.specs.Parts.{kept}
use Rattle.service_parts.specs.Rooms.{aloft}
use Rattle.service_parts.specs.declared.parts.Parts.{Parts}

-- there is room for the deletion of each call of each flight
abbrev pub HasRoom : Parts → Type 0
HasRoom p = aloft p.flights.list ≤ p.journal.spare

-- they fit the journal, each of whose repairs was allowed; posts are as old as it says; there aren't too many entries and flights, and each
-- flight can be abandoned without memory
pub record IsService (p : Parts) : Type 0 where
  pub fits : Fits (kept p)
  pub allowed : IsAllowed (kept p)
  pub ages : HasAges p.journal.rows p.registers.list p.replies.list
  pub few : in_all (kept p) ≤ 100000
  pub room : HasRoom p
