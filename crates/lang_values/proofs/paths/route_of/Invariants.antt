use Rattle.std.proofs.Common.{◌≡◌, drop, map}
use Rattle.lang_values.specs.Paths.{route_of}
use Rattle.lang_values.proofs.paths.route_of.Given as goal

abbrev pub invariant-loop-route : goal.invariant-loop-route
invariant-loop-route l = route_of (drop l.route-index l.routes) l.method (map (λ x. x.now) l.segments) ≡ route_of l.routes l.method (map (λ x. x.now) l.segments)
