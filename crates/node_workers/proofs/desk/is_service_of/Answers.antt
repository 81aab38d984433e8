use Rattle.node_workers.proofs.desk.is_service_of.Goals as goal

pub returns : goal.returns
returns c = λ yes. record { is = c.is_set_up.ensures.0 yes; fits = c.journal-journal.ensures.fits; allowed = c.journal-journal.ensures.allowed }
