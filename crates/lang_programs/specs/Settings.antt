-- The setting of a service, with a program.
use Rattle.std.specs.Prelude.{List}
use Rattle.lang_core.specs.declared.setting.Setting.{Setting}
use Rattle.lang_tree.specs.declared.program.Route.{Route}

-- this program in place of the setting's own
abbrev pub with_program : List Route → Setting → Setting
with_program p s = record s { program = p }
