use Rattle.std.proofs.Common.{◌≡◌, ◌++◌, ap, arith}
use Rattle.call_registers.specs.Overlays.{overlaid}
use Rattle.flights.specs.Numbers.{with_flight}
use Rattle.service_events.specs.State.{Kept, after}
use Rattle.service_events.specs.declared.answers.Arrived.TheVariants.{Call}
use Rattle.service_parts.specs.Rooms.{aloft}
use Rattle.service_parts.proofs.RoomLemmas.{aloft_with, on_ok}
use Rattle.service_requests.proofs.applying.wait.Goals as goal

pub returns-clause-ok : goal.returns-clause-ok
returns-clause-ok c =
    let flight = c.args.flight in
    let draft = c.args.draft in
    let before = c.reserve_flight.new.parts.flights.list in
    let list : c.put.new.self.list ≡ with_flight flight before =
    on_ok c.put.result (c.put.new.self.list ≡ with_flight flight before) (c.put.ensures.ready c.in_ok-reserve_flight.ensures.flight) c.put.ensures.ok in
    let moved : Kept → Kept =
    λ k. record k { flights = with_flight flight k.flights; journal = k.journal ++ draft.rows.items; registers = overlaid draft.changes k.registers } in
    rw (list, c.note_draft.ensures.rows, c.note_draft.ensures.registers) (ap (λ (k : Kept). after (moved k) (Call flight.id c.args.set)) c.in_ok-reserve_flight.ensures.kept)

pub returns-clause-room : goal.returns-clause-room
returns-clause-room c =
    let before = c.reserve_flight.new.parts.flights.list in
    let list : c.put.new.self.list ≡ with_flight c.args.flight before =
    on_ok c.put.result (c.put.new.self.list ≡ with_flight c.args.flight before) (c.put.ensures.ready c.in_ok-reserve_flight.ensures.flight) c.put.ensures.ok in
    let put = aloft_with c.args.flight before in
    let same = ap (λ (k : Kept). aloft k.flights) c.in_ok-reserve_flight.ensures.kept in
    let is = ap aloft list in
    let ok = c.in_ok-reserve_flight.ensures.ok in
    let spare = c.note_draft.ensures.spare in
    omega (arith, ok, spare, put, same, is)
