use Rattle.std.proofs.Common.{◌≡◌, ◌+◌, ◌*◌, drop}
use Rattle.dump_audit.specs.Histories.{act_of, histories_of}
use Rattle.one_order.specs.Logs.{acts_of}
use Rattle.one_world.specs.Checks.{behind_all, behind_calls}
use Rattle.one_world.specs.Trees.{calls_of}
use Rattle.one_order.proofs.checking.+calls.Given as goal

abbrev pub decreases-behind_callee : goal.decreases-behind_callee
decreases-behind_callee l = 3 * l.depth + 1

abbrev pub decreases-behind_all : goal.decreases-behind_all
decreases-behind_all l = 3 * l.depth

abbrev pub decreases-behind_calls : goal.decreases-behind_calls
decreases-behind_calls l = 3 * l.depth + 2

abbrev pub invariant-behind_calls-loop-call : goal.invariant-behind_calls-loop-call
invariant-behind_calls-loop-call l =
    behind_calls (behind_all l.depth (histories_of l.world) l.name) (histories_of l.world) l.name l.service.setting.me
    l.numbers (drop l.call-index l.call-items) (acts_of l.left)
    ≡ behind_calls (behind_all l.depth (histories_of l.world) l.name) (histories_of l.world) l.name l.service.setting.me
    l.entry.numbers (calls_of (act_of l.entry)) (acts_of l.fn.left)
