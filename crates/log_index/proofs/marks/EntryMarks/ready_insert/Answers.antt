use Rattle.std.proofs.Common.{length, ap, ◌∙◌, arith}
use Rattle.std.proofs.lemmas.Result.{on_ok_weaker}
use Rattle.lang_lists.specs.Room.{is_made}
use Rattle.lang_lists.proofs.RoomLemmas.{made_last}
use Rattle.dependency_index.specs.Index.{call_code, note_call}
use Rattle.log_index.proofs.MarkLemmas.{few}
use Rattle.log_index.proofs.NotedLemmas.{many}
use Rattle.log_index.proofs.marks.EntryMarks.ready_insert.Goals as goal

pub reserve-requires-clause-few : goal.reserve-requires-clause-few
reserve-requires-clause-few c =
    let h = few (length c.self.inside.places.labels) c.self.inside.marks.items c.self.invariant.0.are in
    let count = c.len.ensures in
    omega arith

pub reserve-requires-clause-within : goal.reserve-requires-clause-within
reserve-requires-clause-within c = let spots = c.self.invariant.1 in let count = c.len.ensures in omega arith

pub returns-clause-ok : goal.returns-clause-ok
returns-clause-ok c =
    let long = c.len.ensures in
    let room = c.in_ok-reserve.ensures.ok in
    let labels = ap length c.in_ok-ready_insert.ensures.labels in
    let count = many c.ready_note_reads.new.self.reads c.ready_insert.new.self.labels in
    on_ok_weaker c.ready_note_reads.result
    (λ e. record {
      label = c.in_ok-ready_insert.ensures.ok;
      note = ap (is_made call_code (note_call c.args.reads.now)) e ∙ made_last call_code c.self.inside.index.room (note_call c.args.reads.now);
      spot = omega arith;
    }) c.ready_note_reads.ensures.ok
