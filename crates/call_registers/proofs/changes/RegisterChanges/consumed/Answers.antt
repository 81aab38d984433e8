use Rattle.std.proofs.Common.{◌∙◌, ap, sym}
use Rattle.call_registers.specs.Registers.{consumed_in}
use Rattle.call_registers.proofs.changes.RegisterChanges.consumed.Goals as goal

pub returns-in-None : goal.returns-in-None
returns-in-None c = sym (ap consumed_in c.in-None.ensures)

pub returns-in-Some : goal.returns-in-Some
returns-in-Some c = c.answer_of.ensures ∙ sym (ap consumed_in c.in-Some.ensures)
