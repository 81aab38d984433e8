use Rattle.std.proofs.Common.{length, arith}
use Rattle.log_index.proofs.MarkLemmas.{few}
use Rattle.log_index.proofs.marks.EntryMarks.copied.Goals as goal

pub copied-marks-requires : goal.copied-marks-requires
copied-marks-requires c =
    let h = few (length c.self.inside.places.labels) c.self.inside.marks.items c.self.invariant.0.are in
    omega arith
