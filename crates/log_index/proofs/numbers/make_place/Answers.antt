use Rattle.std.proofs.Common.{length, ap, arith}
use Rattle.log_index.proofs.numbers.make_place.Goals as goal

pub returns-clause-place : goal.returns-clause-place
returns-clause-place c =
    let long = ap length c.drop_front.ensures.items in
    let fits = c.requires.fits in
    let more = c.drop_front.ensures.capacity in
    omega arith
