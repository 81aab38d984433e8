use Rattle.std.proofs.Common.{sym, ap, true, arith}
use Rattle.service_parts.specs.Parts.{kept}
use Rattle.service_parts.specs.Rooms.{aloft}
use Rattle.service_requests.proofs.DeletionLemmas.{abandon_service, flight_abandoned, none_gone, nothing_abandoned}
use Rattle.service_parts.proofs.RoomLemmas.{aloft_removed, aloft_without}
use Rattle.service_parts.proofs.ServiceLaws.{same_service}
use Rattle.service_requests.proofs.abandoning.abandon.Goals as goal

pub delete_calls-requires : goal.delete_calls-requires
delete_calls-requires c =
    let less = aloft_removed c.args.flight c.in-Some.gone c.args.parts.now.flights.list (sym c.in-Some.ensures.found) in
    let is = ap aloft c.remove.ensures.list in
    let room = c.requires.room in
    omega (arith, less, is, room)

pub returns-in-None-clause-does : goal.returns-in-None-clause-does
returns-in-None-clause-does c =
    let s = kept c.args.parts.now in
    let none = sym c.in-None.ensures.found in
    nothing_abandoned s _ c.args.flight (none_gone s c.args.flight c.remove.new.self.list c.remove.ensures.list none) none

pub returns-in-None-clause-service : goal.returns-in-None-clause-service
returns-in-None-clause-service c =
    let p = c.args.parts.now in
    let less = aloft_without c.args.flight p.flights.list in
    let is = ap aloft c.remove.ensures.list in
    let room = c.requires.room in
    same_service p _ (none_gone (kept p) c.args.flight c.remove.new.self.list c.remove.ensures.list (sym c.in-None.ensures.found)) (omega (arith, less, is, room)) c.requires

pub returns-in-Some-clause-does : goal.returns-in-Some-clause-does
returns-in-Some-clause-does c =
    flight_abandoned (kept c.args.parts.now) (kept c.delete_calls.new.parts) c.args.flight c.in-Some.gone c.remove.new.self.list (sym c.in-Some.ensures.found)
    c.remove.ensures.list c.delete_calls.ensures.kept

pub returns-in-Some-clause-service : goal.returns-in-Some-clause-service
returns-in-Some-clause-service c =
    let p = c.args.parts.now in
    abandon_service p c.delete_calls.new.parts c.args.flight true c.requires
    (flight_abandoned (kept p) (kept c.delete_calls.new.parts) c.args.flight c.in-Some.gone c.remove.new.self.list (sym c.in-Some.ensures.found) c.remove.ensures.list c.delete_calls.ensures.kept)
    c.delete_calls.ensures.room
