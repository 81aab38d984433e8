-- Why a line is refused, or the whole script, as numbers.
use Rattle.std.specs.Prelude.{ℕ}
use Rattle.script_lines.specs.declared.line.LineFault.{LineFault}
use Rattle.script_lines.specs.declared.line.LineFault.TheVariants.{Text, Word, Shape, Service, Packet, Flight, TooLong}

abbrev pub fault_number : LineFault → ℕ
fault_number Text = 1
fault_number Word = 2
fault_number Shape = 3
fault_number Service = 4
fault_number Packet = 5
fault_number Flight = 6
fault_number TooLong = 7
