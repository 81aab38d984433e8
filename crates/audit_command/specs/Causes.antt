-- Why there is no dump.
use Rattle.std.specs.Prelude.{Option, Some, None}
use Rattle.dump_reader.specs.declared.refused.DumpRefused.{DumpRefused}
use Rattle.audit_command.specs.declared.loading.NoDump.{NoDump}
use Rattle.audit_command.specs.declared.loading.NoDump.TheVariants.{NoMemory, Failed, Refused}

-- the dump's refusal, where that is why
abbrev pub refusal_of : NoDump → Option DumpRefused
refusal_of NoMemory = None
refusal_of Failed = None
refusal_of (Refused why) = Some why
