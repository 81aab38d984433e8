-- What a world is given from outside.
use Rattle.std.specs.Prelude.{ℕ, List, refl}
use Rattle.std.specs.Coded.{Coded, code_by, coded×, coded_ℕ}
use Rattle.service_events.specs.State.{Kept}
use Rattle.world_events.specs.Worlds.{World}
use Rattle.world_events.specs.declared.packet.Packet.{Packet}

-- the moment that its clock tells, the word that was drawn last, and how many exchanges failed
pub record Environment : Type 0 where
  pub moment : ℕ
  pub x : ℕ
  pub losses : ℕ

-- by which a proof tells two of them apart
abbrev pub environment_code : Coded Environment
environment_code =
    code_by (ℕ × (ℕ × ℕ))
    (coded× coded_ℕ (coded× coded_ℕ coded_ℕ))
    (λ e. (e.moment, (e.x, e.losses)))
    (λ p. record { moment = p.0; x = p.1.0; losses = p.1.1 })
    (λ _. refl)

-- at first the clock tells 0, the word before the first is 1, and nothing was lost
abbrev pub fresh_environment : Environment
fresh_environment = record { moment = 0; x = 1; losses = 0 }

-- the world of these services and packets, given this from outside
abbrev pub world_of : List Kept → List Packet → Environment → World
world_of services packets e =
    record { services = services; packets = packets; moment = e.moment; x = e.x; losses = e.losses }
