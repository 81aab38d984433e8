use Rattle.script_lines.specs.Lines.{line_at}
use Rattle.script_run.proofs.Following.{on_err, read_none}
use Rattle.script_run.proofs.script.play_line.Goals as goal

pub returns-in_err-line-clause-early : goal.returns-in_err-line-clause-early
returns-in_err-line-clause-early c = on_err _ (read_none c.args.world.now (line_at c.args.bytes.now))
