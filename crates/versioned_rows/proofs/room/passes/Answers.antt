use Rattle.lang_base.proofs.EqualLemmas.{equal_is}
use Rattle.versioned_rows.specs.Versions.{call_code, write_call}
use Rattle.versioned_rows.proofs.room.passes.Goals as goal

pub returns : goal.returns
returns c = equal_is call_code (write_call c.args.writes.now) c.args.call.now c.is_write.result c.is_write.ensures
