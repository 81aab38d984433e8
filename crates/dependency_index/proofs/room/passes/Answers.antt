use Rattle.lang_base.proofs.EqualLemmas.{equal_is}
use Rattle.dependency_index.specs.Index.{call_code, note_call}
use Rattle.dependency_index.proofs.room.passes.Goals as goal

pub returns : goal.returns
returns c = equal_is call_code (note_call c.args.reads.now) c.args.call.now c.is_note.result c.is_note.ensures
