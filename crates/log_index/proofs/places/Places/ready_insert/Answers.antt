use Rattle.std.proofs.Common.{◌≡◌, length, ap, ◌∙◌, arith}
use Rattle.lang_lists.specs.Room.{is_made}
use Rattle.lang_lists.proofs.RoomLemmas.{made_last}
use Rattle.place_order.specs.Rooms.{call_code}
use Rattle.log_index.specs.Rows.{call_at}
use Rattle.log_index.proofs.places.Places.ready_insert.Goals as goal

pub returns-clause-ok : goal.returns-clause-ok
returns-clause-ok c =
    let room = c.ready_label.new.order.room in
    let many : length c.reserve.new.self.items ≡ c.len.result = (let same = ap length c.in_ok-reserve.ensures.items in let ok = c.self.inside.labels.ok in omega arith) in
    let made = c.in_ok-reserve.ensures.ok in
    record {
      label = ap (λ n. is_made call_code (call_at c.args.place n) room) many ∙ ap (is_made call_code (call_at c.args.place c.len.result)) c.in_ok-ready_label.ensures.ok
          ∙ made_last call_code c.self.inside.order.room (call_at c.args.place c.len.result);
      spare = omega arith;
    }
