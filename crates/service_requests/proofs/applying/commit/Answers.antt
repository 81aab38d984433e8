use Rattle.std.proofs.Common.{◌<◌, List, ap, arith, length, subst}
use Rattle.request_log.specs.declared.entry.Entry.{Entry}
use Rattle.service_events.specs.State.{Kept}
use Rattle.service_parts.specs.Rooms.{aloft}
use Rattle.service_parts.proofs.RoomLemmas.{aloft_without}
use Rattle.service_parts.proofs.WholeLemmas.{unfolded_kept}
use Rattle.service_requests.proofs.applying.commit.Goals as goal

pub add_entry-requires-clause-few : goal.add_entry-requires-clause-few
add_entry-requires-clause-few c = subst (λ (es : List Entry). length es < 100000) (unfolded_kept c.args.parts.now) c.requires.can.1

pub returns-clause-room : goal.returns-clause-room
returns-clause-room c =
    let less = aloft_without c.args.flight c.add_entry.new.parts.flights.list in
    let same = ap (λ (k : Kept). aloft k.flights) c.in_ok-add_entry.ensures.ok in
    let is = ap aloft c.land.ensures.flights in
    let rows = c.in_ok-add_entry.ensures.rows in
    let spare = c.note_draft.ensures.spare in
    omega (arith, rows, spare, less, same, is)
