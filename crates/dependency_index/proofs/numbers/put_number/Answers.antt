use Rattle.std.proofs.Common.{arith}
use Rattle.dependency_index.proofs.NumberLemmas.{one_longer}
use Rattle.dependency_index.proofs.numbers.put_number.Goals as goal

pub put_reserved-requires-clause-fits : goal.put_reserved-requires-clause-fits
put_reserved-requires-clause-fits c = let long = one_longer c.args.number c.reserve.new.self.items in omega (arith, c.in_ok-reserve.ensures.ok)
