-- Which bytes spell which world, and which refusal stands where they spell none.
use Rattle.std.specs.Prelude.{◌≡◌, ℕ, Bool, true, false, List, [], ◌∷◌, ◌++◌, All, length, map, Option, Some, None, Result, Ok, Err, if◌then◌else◌, nat_lt}
use Rattle.std.specs.List.{IsDistinct, list_any}
use Rattle.std.specs.Str.{is_utf8}
use Rattle.lang_base.specs.Texts.{same_text}
use Rattle.lang_tree.specs.declared.program.Route.{Route}
use Rattle.lang_base.specs.Memory.{Unless}
use Rattle.handler_lang.specs.Reading.{read_of}
use Rattle.handler_lang.specs.declared.refused.ProgramRefused.{ProgramRefused}
use Rattle.authorise_rules.specs.Given.{GivenRules, given_of}
use Rattle.authorise_rules.specs.declared.refused.RulesRefused.{RulesRefused}
use Rattle.serde_json.specs.Data.{Data, Items, no_items, item}
use Rattle.serde_json.specs.Find.{get, as_array}
use Rattle.serde_json.specs.Read.{read}
use Rattle.world_file.specs.Fields.{Fields, Read, fields_in, field_word}
use Rattle.world_file.specs.Peers.{others, not_among_others}
use Rattle.world_file.specs.declared.field.Field.TheVariants as field
use Rattle.world_file.specs.declared.field.FieldFault.{FieldFault}
use Rattle.world_file.specs.declared.field.FieldFault.TheVariants as fault
use Rattle.world_file.specs.declared.setup.Setup.{Setup}
use Rattle.world_file.specs.declared.refused.WorldRefused.{WorldRefused}
use Rattle.world_file.specs.declared.refused.WorldRefused.TheVariants.{NoMemory, NotJson, Missing, BadField, Twice, TooMany, Program, Rules}

-- what was read, or the refusal
abbrev pub Outcome : Type 0 → Type 0
Outcome X = Result X WorldRefused

abbrev pub refusal_of : FieldFault → WorldRefused
refusal_of (fault.Missing field) = Missing field
refusal_of (fault.Bad field) = BadField field

-- ---- the services, one after another

-- a service of a world: what its fields say, the routes of its program, and its rules
pub record Member : Type 0 where
  pub fields : Fields
  pub program : List Route
  pub rules : GivenRules

abbrev pub member_name : Member → List ℕ
member_name m = m.fields.name

-- whether an earlier service has this name
abbrev pub is_taken : List Member → List ℕ → Bool
is_taken earlier name = list_any (λ m. same_text (member_name m) name) earlier

-- the service, where its rules are such
abbrev pub with_rules : Fields → List Route → Result GivenRules RulesRefused → Outcome Member
with_rules fields routes (Ok rules) = Ok (record { fields = fields; program = routes; rules = rules })
with_rules fields routes (Err refused) = Err (Rules fields.name refused)

-- the service, where its program is one, and then its rules are
abbrev pub with_program : Fields → Result (List Route) ProgramRefused → Outcome Member
with_program fields (Ok routes) = with_rules fields routes (given_of fields.rules)
with_program fields (Err refused) = Err (Program fields.name refused)

-- all fields are tested first, then the name among those of earlier services, then the program, then the rules
abbrev pub member_of : List Member → Read Fields → Outcome Member
member_of earlier (Ok fields) =
    if is_taken earlier fields.name then Err (Twice fields.name) else with_program fields (read_of fields.program)
member_of earlier (Err fault) = Err (refusal_of fault)

-- goes on with one service more
abbrev pub with_member : List Member → Outcome Member → (List Member → Outcome (List Member)) → Outcome (List Member)
with_member earlier (Ok m) next = next (earlier ++ m ∷ [])
with_member earlier (Err refused) next = Err refused

-- some services, and those that are read behind them; the first that is refused is the refusal
abbrev pub members_behind : List Member → List (Read Fields) → Outcome (List Member)
members_behind earlier [] = Ok earlier
members_behind earlier (read ∷ more) = with_member earlier (member_of earlier read) (λ now. members_behind now more)

-- ---- the world that they make

-- a service among those of these names: the others are its peers
abbrev pub setup_of : List (List ℕ) → Member → Setup
setup_of names m = record {
  setting = record {
    me = member_name m;
    peers = others (member_name m) names;
    program = m.program;
    weight = m.fields.weight;
    alone = not_among_others (member_name m) names;
  };
  rules = m.rules;
  secret = m.fields.secret;
  console = m.fields.console;
  door = m.fields.door;
  workers = m.fields.workers;
  keep = m.fields.keep;
}

abbrev pub world_with : List Member → List Setup
world_with members = map (setup_of (map member_name members)) members

abbrev pub joined : Outcome (List Member) → Outcome (List Setup)
joined (Ok members) = Ok (world_with members)
joined (Err refused) = Err refused

-- ---- a file

-- the fields of each service of a list
abbrev pub reads_of : Items → List (Read Fields)
reads_of no_items = []
reads_of (item service more) = fields_in service ∷ reads_of more

-- their number is tested before any field
abbrev pub world_of_reads : List (Read Fields) → Outcome (List Setup)
world_of_reads reads = if nat_lt 16 (length reads) then Err TooMany else joined (members_behind [] reads)

-- there is at least one service
abbrev pub world_of_items : Items → Outcome (List Setup)
world_of_items no_items = Err (BadField field.Services)
world_of_items (item service more) = world_of_reads (reads_of (item service more))

abbrev pub world_of_list : Option Items → Outcome (List Setup)
world_of_list None = Err (BadField field.Services)
world_of_list (Some services) = world_of_items services

abbrev pub world_of_services : Option Data → Outcome (List Setup)
world_of_services None = Err (Missing field.Services)
world_of_services (Some services) = world_of_list (as_array services)

abbrev pub world_of_json : Option Data → Outcome (List Setup)
world_of_json None = Err NotJson
world_of_json (Some value) = world_of_services (get (field_word field.Services) value)

-- the world that the bytes of a file spell
abbrev pub world_of : List ℕ → Outcome (List Setup)
world_of bytes = if is_utf8 bytes then world_of_json (read bytes) else Err NotJson

-- ---- what holds of each world

abbrev pub name_of : Setup → List ℕ
name_of setup = setup.setting.me

-- the peers of each service are the others
abbrev pub IsAmong : List (List ℕ) → Setup → Type 0
IsAmong names setup = setup.setting.peers ≡ others (name_of setup) names

-- no two services have one name, and the peers of each are the others, in their order
pub record KnowEachOther (world : List Setup) : Type 0 where
  pub apart : IsDistinct same_text (map name_of world)
  pub peers : All (IsAmong (map name_of world)) world

abbrev pub is_memory : WorldRefused → Bool
is_memory NoMemory = true
is_memory refused = false

-- a call refuses so, unless memory is wanting
abbrev pub Refuses : {X : Type 0} → WorldRefused → Outcome X → Type 0
Refuses why outcome = Unless (is_memory why) (outcome ≡ Err why) (Unit {0})
