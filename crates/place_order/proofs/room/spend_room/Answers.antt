use Rattle.std.proofs.Common.{◌≡◌, ◌∙◌, sym, ap, Some, None, position, is_some}
use Rattle.lang_base.specs.Equal.{equal}
use Rattle.lang_lists.proofs.RoomLemmas.{some_made}
use Rattle.place_order.specs.Rooms.{call_code}
use Rattle.place_order.proofs.room.spend_room.Goals as goal

pub returns-in-Some-clause-made : goal.returns-in-Some-clause-made
returns-in-Some-clause-made c =
    let found : position (equal call_code c.args.call) c.args.room.now.items ≡ Some c.in-Some.place = ap (position (equal call_code c.args.call)) (sym c.deref.ensures.value) ∙ sym c.room_place.ensures ∙ c.in-Some.is in
    sym (ap is_some found) ∙ some_made call_code c.args.call c.args.room.now.items

pub returns-in-None-clause-made : goal.returns-in-None-clause-made
returns-in-None-clause-made c =
    let nowhere : position (equal call_code c.args.call) c.args.room.now.items ≡ None = ap (position (equal call_code c.args.call)) (sym c.deref.ensures.value) ∙ sym c.room_place.ensures ∙ c.in-None.is in
    sym (ap is_some nowhere) ∙ some_made call_code c.args.call c.args.room.now.items
