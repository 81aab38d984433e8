use Rattle.world_settle.specs.Settles.{IsPosting}
use Rattle.world_settle.proofs.EventLemmas.{Goes}
use Rattle.world_settle.proofs.Parts.{PostsIf, posts_left}
use Rattle.world_settle.proofs.exchanges.post_all.Given as goal

abbrev pub invariant-loop-more : goal.invariant-loop-more
invariant-loop-more l = Goes l.initial.world (IsPosting l.from l.to) l.initial.tally l.tally l.world (PostsIf l.more l.from l.to)

abbrev pub decreases-loop-more : goal.decreases-loop-more
decreases-loop-more l = posts_left l.more l.from l.to l.world
