use Rattle.std.proofs.Common.{◌≡◌, ◌++◌, filter_map, take}
use Rattle.repair_queue.specs.Held.{reply_notice}
use Rattle.repair_queue.proofs.held.push_replies.Given as goal

abbrev pub invariant-loop-reply : goal.invariant-loop-reply
invariant-loop-reply l = l.list ≡ l.initial.list ++ filter_map reply_notice (take l.reply-index l.replies)
