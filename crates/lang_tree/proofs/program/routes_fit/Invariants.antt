use Rattle.std.proofs.Common.{◌≡◌, drop}
use Rattle.lang_tree.specs.Depths.{routes_fit}
use Rattle.lang_tree.proofs.program.routes_fit.Given as goal

abbrev pub invariant-loop-route : goal.invariant-loop-route
invariant-loop-route l = routes_fit (drop l.route-index l.routes) ≡ routes_fit l.fn.routes
