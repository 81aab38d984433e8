use Rattle.order_texts.specs.Texts.{command_given}
use Rattle.script_run.proofs.Following.{on_err}
use Rattle.script_run.proofs.GivenLemmas.{given_none}
use Rattle.script_run.proofs.giving.given.Goals as goal

pub returns-in_err-command-clause-early : goal.returns-in_err-command-clause-early
returns-in_err-command-clause-early c =
    on_err _ (given_none c.args.world.now c.args.service c.args.token c.args.who (command_given c.args.order c.args.text.now))

pub returns-in-Err-clause-early : goal.returns-in-Err-clause-early
returns-in-Err-clause-early c =
    on_err _ (given_none c.args.world.now c.args.service c.args.token c.args.who (command_given c.args.order c.args.text.now))
