-- How long what goes over a network may take, in milliseconds.
use Rattle.std.specs.Prelude.{ℕ, ◌-◌, ◌*◌, min}

-- an exchange that sends a request with so many services in its chain: half a second less for each, of which 18 count
abbrev pub exchange_millis : ℕ → ℕ
exchange_millis services = 10000 - 500 * min services 18
