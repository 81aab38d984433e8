use Rattle.std.proofs.Common.{[], ◌∷◌, inl, inr, refl}
use Rattle.store_lines.specs.declared.piece.Piece.TheVariants.{Safe}
use Rattle.store_commits.proofs.WriteLemmas.{left_unwritten}
use Rattle.store_commits.proofs.write.make_room.Goals as goal

pub returns-then-wanted-saturating_sub-clause-told : goal.returns-then-wanted-saturating_sub-clause-told
returns-then-wanted-saturating_sub-clause-told g c = λ clean pieces read.
    left_unwritten pieces [] (g.D.Disk.seen c.args.store.now.disk) (g.D.Disk.may_leave c.args.store.now.disk) (c.requires.at_rest clean).durable read

pub returns-clause-made : goal.returns-clause-made
returns-clause-made g c = (Safe c.lengthen.new.store.len ∷ [], inr (c.in_ok-now.ensures.longer, refl), λ clean. c.in_ok-now.ensures.written clean)
