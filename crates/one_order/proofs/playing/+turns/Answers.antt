use Rattle.std.proofs.Common.{◌∙◌}
use Rattle.std.proofs.lemmas.Result.{IfOk-weaker}
use Rattle.dump_audit.specs.Histories.{act_of, histories_of, history_of}
use Rattle.one_order.proofs.Depths.{turn_down}
use Rattle.one_order.proofs.playing.+turns.Goals as goal

pub turn_all-returns : goal.turn_all-returns
turn_all-returns t c =
    IfOk-weaker c.turn_calls.result _ _
    (λ response e. e ∙ turn_down c.args.depth (histories_of c.args.services.now) (history_of c.args.service.now) (act_of c.args.entry.now) c.args.request.now c.args.world.now c.if-depth-eq0.false)
    c.turn_calls.ensures
