-- The parts of a conjunction that holds.
use Rattle.std.proofs.Common.{◌≡◌, Bool, true}
use Rattle.std.specs.Prelude.{◌&&◌}
use Rattle.std.proofs.lemmas.Bool.{and_parts}

pub conjuncts_of_three : (a b c : Bool) → a && b && c ≡ true → (a ≡ true) × (b ≡ true) × (c ≡ true)
conjuncts_of_three a b c h =
    let k = and_parts (a && b) c h in
    let m = and_parts a b k.0 in
    (m.0, m.1, k.1)

pub five : (a b c d e : Bool) → a && b && c && d && e ≡ true → (a ≡ true) × (b ≡ true) × (c ≡ true) × (d ≡ true) × (e ≡ true)
five a b c d e h =
    let k = conjuncts_of_three (a && b && c) d e h in
    let m = conjuncts_of_three a b c k.0 in
    (m.0, m.1, m.2, k.1, k.2)
