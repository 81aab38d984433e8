-- Refusals of dumps, as lines and numbers.
use Rattle.std.specs.Prelude.{ℕ}
use Rattle.dump_reader.specs.declared.refused.DumpRefused.{DumpRefused}
use Rattle.dump_reader.specs.declared.refused.DumpRefused.TheVariants as refusal

abbrev pub refusal_number : DumpRefused → ℕ
refusal_number refusal.NoMemory = 1
refusal_number (refusal.Text line) = 2
refusal_number (refusal.Shape line) = 3
refusal_number (refusal.Twice line) = 4
refusal_number (refusal.Rows line) = 5
refusal_number (refusal.Program line why) = 6
refusal_number refusal.TooLong = 7

abbrev pub line_refused : DumpRefused → ℕ
line_refused refusal.NoMemory = 0
line_refused (refusal.Text line) = line
line_refused (refusal.Shape line) = line
line_refused (refusal.Twice line) = line
line_refused (refusal.Rows line) = line
line_refused (refusal.Program line why) = line
line_refused refusal.TooLong = 0
