use Rattle.std.proofs.Common.{arith}
use Rattle.journal_rows.proofs.ProgramLemmas.{few_in}
use Rattle.journal_rows.proofs.rows.Rows.push.Goals as goal

pub programs_after-programs-requires : goal.programs_after-programs-requires
programs_after-programs-requires c =
    let few = few_in c.self.inside.rows in
    let counts = c.self.invariant.2 in
    omega (arith, few, counts)
