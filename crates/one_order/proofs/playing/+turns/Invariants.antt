use Rattle.std.proofs.Common.{◌≡◌, ◌+◌, ◌*◌, [], drop}
use Rattle.dump_audit.specs.Histories.{act_of, histories_of, history_of}
use Rattle.one_world.specs.Trees.{calls_of}
use Rattle.one_world.specs.Turns.{turn_all, turn_calls}
use Rattle.one_order.proofs.playing.+turns.Given as goal

abbrev pub decreases-turn_all : goal.decreases-turn_all
decreases-turn_all l = 5 * l.depth

abbrev pub decreases-turn_act : goal.decreases-turn_act
decreases-turn_act l = 5 * l.depth + 1

abbrev pub decreases-turn_callee : goal.decreases-turn_callee
decreases-turn_callee l = 5 * l.depth + 2

abbrev pub decreases-turn_call : goal.decreases-turn_call
decreases-turn_call l = 5 * l.depth + 3

abbrev pub decreases-turn_calls : goal.decreases-turn_calls
decreases-turn_calls l = 5 * l.depth + 4

abbrev pub invariant-turn_calls-loop-call : goal.invariant-turn_calls-loop-call
invariant-turn_calls-loop-call l =
    turn_calls (turn_all l.depth (histories_of l.services)) (histories_of l.services) (history_of l.service) (act_of l.entry) l.request
    l.numbers (drop l.call-index l.call-items) l.given l.world
    ≡ turn_calls (turn_all l.depth (histories_of l.services)) (histories_of l.services) (history_of l.service) (act_of l.entry) l.request
    l.entry.numbers (calls_of (act_of l.entry)) [] l.fn.world
