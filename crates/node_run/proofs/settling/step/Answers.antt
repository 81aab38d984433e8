use Rattle.node_run.proofs.SettlingLemmas.{has_stepped}
use Rattle.node_run.proofs.settling.step.Goals as goal

pub returns : goal.returns
returns c =
    has_stepped c.args.service.now c.repair_step.new.self c.in_ok-stepped.stepped c.has_run.result c.in_ok-stepped.ensures.steps c.in_ok-stepped.ensures.local
    c.in_ok-stepped.ensures.further c.in_ok-stepped.ensures.silent c.has_run.ensures
