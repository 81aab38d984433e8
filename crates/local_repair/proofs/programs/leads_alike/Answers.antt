use Rattle.local_repair.proofs.programs.leads_alike.Goals as goal

pub returns : goal.returns
returns c = rw (c.program_ran.ensures, c.program_of.ensures, c.get.ensures) at c.same_handler.ensures.same
