use Rattle.std.proofs.Common.{arith}
use Rattle.call_registers.proofs.ChangeLemmas.{there_within}
use Rattle.call_registers.proofs.register_list.place_of.Goals as goal

pub overflow_sub-result : goal.overflow_sub-result
overflow_sub-result c = (there_within c.args.list.now c.args.number c.requires.numbered c.requires.there).0

pub returns-clause-place : goal.returns-clause-place
returns-clause-place c = omega (arith, (there_within c.args.list.now c.args.number c.requires.numbered c.requires.there).0)

pub returns-clause-within : goal.returns-clause-within
returns-clause-within c =
    let w = there_within c.args.list.now c.args.number c.requires.numbered c.requires.there in
    omega (arith, w.0, w.1)
