use Rattle.std.proofs.Common.{◌≡◌, drop}
use Rattle.lang_values.specs.Paths.{route_of, segments_of}
use Rattle.handler_run.proofs.same.handlers_at_once.Given as goal

-- the routes before this place take the request in neither program
abbrev pub invariant-loop-place : goal.invariant-loop-place
invariant-loop-place l =
    (route_of (drop l.place l.routes) l.request.method (segments_of l.request.path) ≡ route_of l.routes l.request.method (segments_of l.request.path))
    × (route_of (drop l.place l.others) l.request.method (segments_of l.request.path) ≡ route_of l.others l.request.method (segments_of l.request.path))
