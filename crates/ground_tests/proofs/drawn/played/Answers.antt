use Rattle.std.proofs.Common.{ℕ, List, sym, subst}
use Rattle.std.specs.List.{All, Contains}
use Rattle.ground_tests.proofs.drawn.played.Goals as goal

pub turns-requires-clause-known : goal.turns-requires-clause-known
turns-requires-clause-known c =
    let P : List ℕ → Type 0 = λ labels. All (Contains c.args.order.now.labels) labels in
    subst P (sym c.deref.ensures.value) c.requires
