use Rattle.std.proofs.Common.{ap, ◌∙◌, is_some}
use Rattle.lang_lists.proofs.RoomLemmas.{some_made}
use Rattle.call_registers.specs.Replies.{call_code, add_call}
use Rattle.call_registers.proofs.replies.has_add.Goals as goal

pub returns : goal.returns
returns c = c.is_some.ensures ∙ ap is_some c.add_place.ensures ∙ some_made call_code (add_call c.args.id) c.args.room.now
