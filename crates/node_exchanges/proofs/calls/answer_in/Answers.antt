use Rattle.std.proofs.Common.{Result, ap, ◌∙◌}
use Rattle.repair_messages.specs.declared.messages.AnswerMessage.{AnswerMessage}
use Rattle.call_registers.specs.declared.register.Why.{Why}
use Rattle.node_exchanges.specs.Calls.{answer_if}
use Rattle.node_exchanges.proofs.calls.answer_in.Goals as goal

pub returns-in-Ok : goal.returns-in-Ok
returns-in-Ok c =
    c.if_answer_to.ensures ∙ ap (λ (r : Result AnswerMessage Why). answer_if c.args.set.now c.args.status r) c.in-Ok.ensures.reply

pub returns-in-Err : goal.returns-in-Err
returns-in-Err c = ap (λ (r : Result AnswerMessage Why). answer_if c.args.set.now c.args.status r) c.in-Err.ensures.reply
