use Rattle.world_settle.specs.Settles.{EachInOrder, IsShare}
use Rattle.world_settle.proofs.EventLemmas.{Goes}
use Rattle.world_settle.proofs.Parts.{EachFrom}
use Rattle.world_settle.proofs.shares.shares.Given as goal

abbrev pub invariant-loop-name : goal.invariant-loop-name
invariant-loop-name l =
    Goes l.initial.world (EachInOrder (IsShare l.names) l.names) l.initial.tally l.tally l.world (EachFrom (IsShare l.names) l.names l.name-index)
