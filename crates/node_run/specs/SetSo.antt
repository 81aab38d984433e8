-- Services that are set up as they should be.
use Rattle.std.specs.Prelude.{◌≡◌, ◌≤◌, List, length, map}
use Rattle.lang_core.specs.declared.setting.Setting.{Setting}
use Rattle.lang_grammar.specs.Grammar.{program_tokens}
use Rattle.lang_tree.specs.declared.program.Route.{Route}
use Rattle.authorise_rules.specs.Given.{GivenRules}
use Rattle.service_events.specs.State.{Kept}
use Rattle.world_file.specs.declared.setup.Setup.{Setup}

-- a program has no more words than a text of one has bytes
abbrev pub IsShort : List Route → Type 0
IsShort program = length (program_tokens program) ≤ 65536

-- its setting, and the rules that it began with
abbrev pub set_of : Kept → Setting × GivenRules
set_of s = (s.setting, s.began)

abbrev pub set_by : Setup → Setting × GivenRules
set_by setup = (setup.setting, setup.rules)

-- the services are those of the setups, in order: each has the setting of its own, and began with the rules of its own
abbrev pub AreSetSo : List Setup → List Kept → Type 0
AreSetSo setups services = map set_of services ≡ map set_by setups
