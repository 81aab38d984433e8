-- What the code holds of services, without its references.
use Rattle.std.specs.Prelude.{Bool, List, Result, Ok, Err, map}
use Rattle.lang_core.specs.Names.{is_name}
use Rattle.serde_json.specs.View.{view}
use Rattle.serde_json.specs.declared.value.Value.{Value}
use Rattle.world_file.specs.Fields.{Fields, Read, fields_in}
use Rattle.world_file.specs.Standard.{good, standard}
use Rattle.world_file.specs.Worlds.{Member}
use Rattle.world_file.specs.declared.field.FieldFault.{FieldFault}
use Rattle.world_file.specs.declared.fields.Spelled.{Spelled}
use Rattle.world_file.specs.declared.members.Member.{Member as Held}
use Rattle.world_file.specs.declared.standard.Standard.{Standard}

abbrev pub fields_of : Spelled → Fields
fields_of s = record { name = s.name; program = s.program.now; rules = s.rules.now; secret = s.secret.now; console = s.console.now; door = s.door.now; workers = s.workers; weight = s.weight; keep = s.keep }

-- what was read, without its references
abbrev pub seen : Result Spelled FieldFault → Read Fields
seen (Ok s) = Ok (fields_of s)
seen (Err fault) = Err fault

-- what the fields of a service say, by its value
abbrev pub read_in : Value → Read Fields
read_in service = fields_in (view service)

-- a service that was read, without its references
abbrev pub member_seen : Held → Member
member_seen m = record { fields = fields_of m.spelled; program = m.program; rules = m.rules }

-- services that were read, without their references
abbrev pub members_seen : List Held → List Member
members_seen members = map member_seen members

-- what a world file would say of a service that comes with the program
abbrev pub standard_of : Standard → Fields
standard_of s = standard s.name.now s.program.now s.door.now

-- read as that of a file is
abbrev pub standard_read : Standard → Read Fields
standard_read s = good (standard_of s)

abbrev pub has_name : Standard → Bool
has_name s = is_name s.name.now
