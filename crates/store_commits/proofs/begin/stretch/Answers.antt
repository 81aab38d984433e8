use Rattle.std.proofs.Common.{◌≡◌, ◌+◌, ◌≤◌, [], ◌∙◌, arith}
use Rattle.store_commits.proofs.begin.stretch.Goals as goal

pub returns-clause-at_rest : goal.returns-clause-at_rest
returns-clause-at_rest g c = λ clean. ((c.in_ok-grow.ensures.grown clean).0, (c.in_ok-grow.ensures.grown clean).1 ∙ c.requires.none clean)

pub returns-clause-read : goal.returns-clause-read
returns-clause-read g c = λ clean. c.in_ok-grow.ensures.read clean [] (c.requires.none clean) (omega (arith, c.in_ok-grow.ensures.sizes.0, c.max-by.ensures, c.saturating_sub.ensures))
