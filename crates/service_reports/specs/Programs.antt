-- The programs of a service, and its rules, as a text.
use Rattle.std.specs.Prelude.{ℕ, ◌++◌, Bool, true, false, List, [], codes, decimal, nat_eq}
use Rattle.std.specs.List.{flat_map}
use Rattle.lang_grammar.specs.Printing.{text_of}
use Rattle.authorise_rules.specs.Given.{GivenRules}
use Rattle.service_events.specs.State.{Kept}
use Rattle.preview_core.specs.HandedOn.{ProgramInUse, programs_in_use}
use Rattle.report_text.specs.Reports.{body_behind}

-- `program K entries E flights F`
abbrev pub counts_text : ProgramInUse → List ℕ
counts_text p =
    codes "program " ++ (decimal p.program.number ++ (codes " entries " ++ (decimal p.entries ++ (codes " flights " ++ decimal p.flights))))

-- ` newest`, behind the counts of the newest one
abbrev pub newest_behind : Bool → List ℕ
newest_behind true = codes " newest"
newest_behind false = []

-- `program K entries E flights F newest TEXT`, where this number is the newest one's
abbrev pub program_line : ℕ → ProgramInUse → List ℕ
program_line newest p =
    counts_text p ++ (newest_behind (nat_eq p.program.number newest) ++ (body_behind (text_of p.program.program) ++ codes "\n"))

-- `rules TEXT`
abbrev pub rules_line : GivenRules → List ℕ
rules_line g = codes "rules" ++ (body_behind g.text ++ codes "\n")

-- a line for each program in use, by their numbers, and one for the rules
abbrev pub programs_of_service : Kept → List ℕ
programs_of_service s = flat_map (program_line s.newest.number) (programs_in_use s) ++ rules_line s.rules
