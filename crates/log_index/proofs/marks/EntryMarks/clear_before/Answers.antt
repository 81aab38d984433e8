use Rattle.std.proofs.Common.{length, arith}
use Rattle.log_index.proofs.marks.EntryMarks.clear_before.Goals as goal

pub invariant_of-self : goal.invariant_of-self
invariant_of-self c =
    let noted = c.self.invariant.0 in
    let room = c.self.invariant.1 in
    let more = c.drop_below.ensures.spots in (
      record { apart = noted.apart; known = noted.known; are = c.drop_below.ensures.marks (length c.self.inside.places.labels) noted.are },
      omega arith,
    )
