use Rattle.std.proofs.Common.{◌∙◌}
use Rattle.local_repair.proofs.HandlerTests.{not_both, not_false}
use Rattle.local_repair.proofs.correcting.is_other.Goals as goal

pub returns-then-not-has_program : goal.returns-then-not-has_program
returns-then-not-has_program c = λ no own. not_both c.has_program.result c.if-not-has_program.true (c.has_program.ensures ∙ own)

pub returns : goal.returns
returns c = λ bare own. c.has_its_handler.ensures.0 (not_false c.has_its_handler.result bare)
