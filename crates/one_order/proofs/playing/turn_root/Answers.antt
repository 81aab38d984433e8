use Rattle.std.proofs.Common.{◌∙◌}
use Rattle.std.proofs.lemmas.Result.{IfOk-weaker}
use Rattle.dump_audit.specs.Histories.{act_of, histories_of, history_of}
use Rattle.one_order.proofs.Depths.{root_turn}
use Rattle.one_order.proofs.playing.turn_root.Goals as goal

pub returns : goal.returns
returns c =
    IfOk-weaker c.turn_calls.result _ _
    (λ response e. e ∙ root_turn c.depth_of-depth.result (histories_of c.args.services.now) (history_of c.args.service.now) (act_of c.args.entry.now) c.args.entry.now.request c.args.world.now
    c.depth_of-depth.ensures c.if-entry.false)
    c.turn_calls.ensures
