use Rattle.std.proofs.Common.{sym, ◌∙◌}
use Rattle.admin_console.specs.Asking.{asked_in}
use Rattle.node_workers.proofs.OperatorLemmas.{asks_nothing}
use Rattle.node_workers.proofs.ServeLemmas.{not_for_workers}
use Rattle.node_workers.specs.Desks.{at_desk}
use Rattle.node_workers.proofs.serve.serve_console.Goals as goal

pub tell-requires : goal.tell-requires
tell-requires g c = record { here = not_for_workers c.args.asked.word (sym c.is_of_the_run.ensures ∙ c.if-is_of_the_run.false); fresh = c.requires.fresh }

pub returns-then-is_of_the_run-clause-makes : goal.returns-then-is_of_the_run-clause-makes
returns-then-is_of_the_run-clause-makes g c =
    asks_nothing (at_desk c.args.desk.now).me c.args.inputs c.args.asked.who (asked_in c.args.asked) c.args.pass.now.notes c.args.pass.now.receipts.items
