use Rattle.std.proofs.Common.{arith}
use Rattle.journal_rows.proofs.ProgramLemmas.{few_in}
use Rattle.journal_rows.proofs.rows.Rows.programs.Goals as goal

pub returns-clause-few : goal.returns-clause-few
returns-clause-few c =
    let few = few_in c.self.inside.rows in
    let counts = c.self.invariant.2 in
    omega (arith, few, counts)
