use Rattle.world_settle.specs.Settles.{EachInOrder, IsPosting, others}
use Rattle.world_settle.proofs.EventLemmas.{Goes}
use Rattle.world_settle.proofs.Parts.{PostsFrom}
use Rattle.world_settle.proofs.shares.post_to_others.Given as goal

abbrev pub invariant-loop-other : goal.invariant-loop-other
invariant-loop-other l =
    Goes l.initial.world (EachInOrder (IsPosting l.name) (others l.name l.names)) l.initial.tally l.tally l.world (PostsFrom l.name l.names l.other-index)
