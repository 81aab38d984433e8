use Rattle.node_workers.proofs.turns.ask.Goals as goal

pub ask_under_lock-requires : goal.ask_under_lock-requires
ask_under_lock-requires g c = record { may = c.requires.may c.deref_mut.result.now.service }
