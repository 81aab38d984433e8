use Rattle.std.proofs.Common.{◌∙◌, sym}
use Rattle.std.proofs.lemmas.Result.{on_ok_weaker, on_err_weaker}
use Rattle.lang_lists.proofs.RoomLemmas.{lone_made, lone_spent, spent_untested}
use Rattle.call_registers.specs.Replies.{call_code, add_call}
use Rattle.call_registers.proofs.replies.make_add.Goals as goal

pub returns-clause-made : goal.returns-clause-made
returns-clause-made c =
    on_ok_weaker c.ready_add.result
    (λ e. lone_made call_code (add_call c.args.id) c.clear.new.self.items c.ready_add.new.room.items c.clear.ensures.items e)
    c.ready_add.ensures.ok

pub returns-clause-left : goal.returns-clause-left
returns-clause-left c =
    on_ok_weaker c.ready_add.result
    (λ e. lone_spent call_code (add_call c.args.id) c.clear.new.self.items c.ready_add.new.room.items c.clear.ensures.items e
    ∙ sym (spent_untested call_code (add_call c.args.id) c.args.room.now.items c.deref.result.now c.has_add.result c.has_add.ensures c.deref.ensures.value c.if-has_add.false))
    c.ready_add.ensures.ok

pub returns-clause-err : goal.returns-clause-err
returns-clause-err c =
    on_err_weaker c.ready_add.result
    (λ e. e ∙ c.clear.ensures.items
    ∙ sym (spent_untested call_code (add_call c.args.id) c.args.room.now.items c.deref.result.now c.has_add.result c.has_add.ensures c.deref.ensures.value c.if-has_add.false))
    c.ready_add.ensures.err
