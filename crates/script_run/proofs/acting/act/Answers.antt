use Rattle.script_run.proofs.Following.{act_none, on_err}
use Rattle.script_run.proofs.acting.act.Goals as goal

pub returns-in-Blank-clause-early : goal.returns-in-Blank-clause-early
returns-in-Blank-clause-early c = on_err _ (act_none c.args.world.now c.args.line)

pub returns-in-Rows-clause-early : goal.returns-in-Rows-clause-early
returns-in-Rows-clause-early c = on_err _ (act_none c.args.world.now c.args.line)

pub returns-in-Log-clause-early : goal.returns-in-Log-clause-early
returns-in-Log-clause-early c = on_err _ (act_none c.args.world.now c.args.line)

pub returns-in-Notices-clause-early : goal.returns-in-Notices-clause-early
returns-in-Notices-clause-early c = on_err _ (act_none c.args.world.now c.args.line)

pub returns-in-Preview-clause-early : goal.returns-in-Preview-clause-early
returns-in-Preview-clause-early c = on_err _ (act_none c.args.world.now c.args.line)

pub returns-in-Programs-clause-early : goal.returns-in-Programs-clause-early
returns-in-Programs-clause-early c = on_err _ (act_none c.args.world.now c.args.line)

pub returns-in-Changed-clause-early : goal.returns-in-Changed-clause-early
returns-in-Changed-clause-early c = on_err _ (act_none c.args.world.now c.args.line)

pub returns-in-Rehearse-clause-early : goal.returns-in-Rehearse-clause-early
returns-in-Rehearse-clause-early c = on_err _ (act_none c.args.world.now c.args.line)

pub returns-in-Dump-clause-early : goal.returns-in-Dump-clause-early
returns-in-Dump-clause-early c = on_err _ (act_none c.args.world.now c.args.line)

pub returns-in-Audit-clause-early : goal.returns-in-Audit-clause-early
returns-in-Audit-clause-early c = on_err _ (act_none c.args.world.now c.args.line)
