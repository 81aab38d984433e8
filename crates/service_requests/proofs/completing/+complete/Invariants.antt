use Rattle.service_requests.proofs.completing.+complete.Given as goal

abbrev pub decreases-complete : goal.decreases-complete
decreases-complete l = l.runs
