use Rattle.std.proofs.Common.{◌≡◌, ◌-◌}
use Rattle.lang_reader.specs.Readers.{most, routes_in}
use Rattle.lang_reader.proofs.Loops.{with_routes}
use Rattle.lang_reader.proofs.program.routes.Given as goal

abbrev pub invariant-loop : goal.invariant-loop
invariant-loop l = with_routes l.routes (routes_in (most - l.counter) l.rest) ≡ routes_in most l.tokens
