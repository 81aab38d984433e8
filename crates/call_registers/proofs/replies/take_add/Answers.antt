use Rattle.std.proofs.Common.{refl}
use Rattle.lang_lists.proofs.RoomLemmas.{made_there}
use Rattle.call_registers.specs.Replies.{call_code, add_call}
use Rattle.call_registers.proofs.replies.take_add.Goals as goal

pub unwrap-place-requires : goal.unwrap-place-requires
unwrap-place-requires c = rw (c.add_place.ensures, c.deref.ensures.value, made_there call_code (add_call c.args.id) c.args.room.now.items c.requires) refl
