use Rattle.lang_base.proofs.EqualLemmas.{equal_is}
use Rattle.call_registers.specs.Replies.{call_code, add_call}
use Rattle.call_registers.proofs.replies.is_add.Goals as goal

pub returns : goal.returns
returns c = equal_is call_code (add_call c.args.id) c.args.call.now c.passes_add.result c.passes_add.ensures
