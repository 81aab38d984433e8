use Rattle.std.proofs.Common.{ap, ◌∙◌}
use Rattle.std.proofs.lemmas.Result.{on_ok_weaker}
use Rattle.lang_lists.specs.Room.{is_made}
use Rattle.lang_lists.proofs.RoomLemmas.{made_last}
use Rattle.dependency_index.specs.Index.{call_code, note_call}
use Rattle.log_index.proofs.marks.EntryMarks.ready_set.Goals as goal

pub returns-clause-ok : goal.returns-clause-ok
returns-clause-ok c =
    on_ok_weaker c.ready_note_reads.result
    (λ e. ap (is_made call_code (note_call c.args.reads.now)) e ∙ made_last call_code c.self.inside.index.room (note_call c.args.reads.now)) c.ready_note_reads.ensures.ok
