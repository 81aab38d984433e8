-- The secrets of a service's peers.
use Rattle.std.specs.Prelude.{ℕ, List}
use Rattle.wire_fields.specs.declared.named.Named.{Named}

-- the name of each peer, and the secret with which it seals
abbrev pub Secrets : Type 0
Secrets = List (Named (List ℕ))
