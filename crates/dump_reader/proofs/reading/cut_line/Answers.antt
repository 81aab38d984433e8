use Rattle.std.proofs.Common.{◌∙◌, sym}
use Rattle.dump_reader.proofs.LineLemmas.{line_found, line_last, slice_rest}
use Rattle.dump_reader.proofs.reading.cut_line.Goals as goal

pub returns-in-Some-clause-line : goal.returns-in-Some-clause-line
returns-in-Some-clause-line c = rw slice_rest (line_found c.args.bytes.now c.in-Some.end (sym c.line_end.ensures ∙ c.in-Some.is))

pub returns-in-None-clause-line : goal.returns-in-None-clause-line
returns-in-None-clause-line c = line_last c.args.bytes.now c.requires (sym c.line_end.ensures ∙ c.in-None.is)
