-- The programs that orders brought, as a dump writes them.
use Rattle.std.specs.Prelude.{ℕ, List, []}
use Rattle.journal_rows.specs.declared.orders.Command.{Command}
use Rattle.journal_rows.specs.declared.orders.Command.TheVariants.{Correct, Deploy}
use Rattle.journal_rows.specs.declared.row.Row.{Row}
use Rattle.journal_rows.specs.declared.row.Row.TheVariants.{Ordered}
use Rattle.dump_lines.specs.Dumps.{program_line}

-- the line of the program that an order brings, if it brings one
abbrev pub command_line : Command → List ℕ
command_line (Deploy program) = program_line program
command_line (Correct number program) = program_line program
command_line command = []

abbrev pub brought_line : Row → List ℕ
brought_line (Ordered o) = command_line o.command
brought_line row = []
