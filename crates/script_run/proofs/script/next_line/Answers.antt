use Rattle.std.proofs.Common.{◌∙◌, sym}
use Rattle.io_edge.proofs.Pieces.{slice_rest}
use Rattle.script_run.proofs.PlayLaws.{line_found, line_last, some_bytes}
use Rattle.script_run.proofs.script.next_line.Goals as goal

pub returns-in-Some-clause-line : goal.returns-in-Some-clause-line
returns-in-Some-clause-line c = rw slice_rest (line_found c.args.bytes.now c.in-Some.end (sym c.line_end.ensures ∙ c.in-Some.is))

pub returns-in-None-clause-line : goal.returns-in-None-clause-line
returns-in-None-clause-line c =
    line_last c.args.bytes.now (some_bytes c.args.bytes.now (sym c.is_empty.ensures ∙ c.if-is_empty.false)) (sym c.line_end.ensures ∙ c.in-None.is)
