use Rattle.node_run.proofs.run.run_nodes.Given as goal

abbrev pub ghosts-run_with-R-Ledger : goal.ghosts-run_with-R-Ledger
ghosts-run_with-R-Ledger g a = record { name = a.rows.name; parts = a.rows.parts }

abbrev pub ghosts-run_with-Q-Ledger : goal.ghosts-run_with-Q-Ledger
ghosts-run_with-Q-Ledger g a = record { name = a.receipts.name; parts = a.receipts.parts }
