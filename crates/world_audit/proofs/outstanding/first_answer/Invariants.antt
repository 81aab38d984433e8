use Rattle.std.specs.List.{AllWithin}
use Rattle.world_audit.specs.Verdicts.{IsGiven}
use Rattle.world_audit.proofs.outstanding.first_answer.Given as goal

abbrev pub invariant-loop-reply : goal.invariant-loop-reply
invariant-loop-reply l = AllWithin IsGiven l.replies 0 l.reply-index
