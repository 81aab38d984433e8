-- What a link in memory tells.
use Rattle.std.specs.Prelude.{◌<◌, Some, vec_len, vec_capacity}
use Rattle.io_links.specs.Exchanges.{Exchanges}
use Rattle.io_links.specs.declared.told.Told.{Told}

-- all exchanges that it made, and its count
abbrev pub told : Told → Exchanges
told t = record { made = Some t.made.items; faults = t.faults }

-- one exchange more can be told without memory
abbrev pub HasRoom : Told → Type 0
HasRoom t = vec_len t.made < vec_capacity t.made
