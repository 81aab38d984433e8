-- The program under which an entry runs, and the one under which its record was made.
use Rattle.std.specs.Prelude.{◌≡◌, true}
use Rattle.lang_core.specs.declared.setting.Setting.{Setting}
use Rattle.request_log.specs.HandedOn.{with_program}
use Rattle.execution.specs.HandedOn.{handler_of}
use Rattle.request_log.specs.Entries.{is_alive}
use Rattle.request_log.specs.declared.entry.Entry.{Entry}

-- the service's setting with the entry's program in it, under which the entry runs
abbrev pub setting_of : Setting → Entry → Setting
setting_of setting e = with_program e.under.now.program setting

-- the service's setting with the program in it under which the entry's record was made
abbrev pub setting_ran : Setting → Entry → Setting
setting_ran setting e = with_program e.under.ran.program setting

-- an alive entry's request leads to the same handler in its program and in that of its record
abbrev pub HasItsHandler : Entry → Type 0
HasItsHandler e = is_alive e ≡ true → handler_of e.under.ran.program e.request ≡ handler_of e.under.now.program e.request
