use Rattle.std.proofs.Common.{◌≡◌, drop}
use Rattle.lang_values.specs.Paths.{route_of, segments_of}
use Rattle.lang_values.proofs.paths.route_at.Given as goal

abbrev pub invariant-loop-route : goal.invariant-loop-route
invariant-loop-route l = route_of (drop l.route-index l.routes) l.method (segments_of l.path) ≡ route_of l.routes l.method (segments_of l.path)
