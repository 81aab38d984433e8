-- The fields of a service in a world file, and what each must be.
use Rattle.std.specs.Prelude.{ℕ, Bool, ◌&&◌, ◌||◌, not, List, length, Option, Some, None, option_and_then, Result, Ok, Err, if◌then◌else◌, nat_le, codes}
use Rattle.std.specs.List.{list_all}
use Rattle.lang_base.specs.Texts.{same_text}
use Rattle.lang_base.specs.Characters.{is_visible}
use Rattle.lang_core.specs.Names.{is_name}
use Rattle.serde_json.specs.Data.{Data}
use Rattle.serde_json.specs.Find.{get, as_str, as_number, as_u64}
use Rattle.world_file.specs.declared.field.Field.{Field}
use Rattle.world_file.specs.declared.field.Field.TheVariants as field
use Rattle.world_file.specs.declared.field.FieldFault.{FieldFault}
use Rattle.world_file.specs.declared.field.FieldFault.TheVariants.{Missing, Bad}

-- a field's name in the file
abbrev pub field_word : Field → List ℕ
field_word field.Services = codes "services"
field_word field.Name = codes "name"
field_word field.Program = codes "program"
field_word field.Rules = codes "rules"
field_word field.Secret = codes "secret"
field_word field.Console = codes "console"
field_word field.Door = codes "door"
field_word field.Workers = codes "workers"
field_word field.Weight = codes "weight"
field_word field.Keep = codes "keep"

-- what was read, or what is wrong with a field
abbrev pub Read : Type 0 → Type 0
Read X = Result X FieldFault

-- goes on with what was read
abbrev pub and_then : {X Y : Type 0} → Read X → (X → Read Y) → Read Y
and_then (Ok x) next = next x
and_then (Err fault) next = Err fault

-- a value that has to be there
abbrev pub there : {X : Type 0} → FieldFault → Option X → Read X
there fault None = Err fault
there fault (Some x) = Ok x

-- a value that has to pass a test
abbrev pub passing : {X : Type 0} → (X → Bool) → Field → X → Read X
passing good field x = if good x then Ok x else Err (Bad field)

-- the value of a field that has to be given
abbrev pub wanted : Field → Data → Read Data
wanted field service = there (Missing field) (get (field_word field) service)

-- a field that is a text
abbrev pub text_in : Field → Data → Read (List ℕ)
text_in field service = and_then (wanted field service) (λ value. there (Bad field) (as_str value))

-- the value as a whole number from 0
abbrev pub whole_number : Data → Option ℕ
whole_number value = option_and_then as_u64 (as_number value)

-- from the least to the most
abbrev pub is_between : ℕ → ℕ → ℕ → Bool
is_between least most n = nat_le least n && nat_le n most

-- a number within bounds
abbrev pub number_between : ℕ → ℕ → Field → Data → Read ℕ
number_between least most field value = and_then (there (Bad field) (whole_number value)) (passing (is_between least most) field)

-- ---- the fields

-- the words that have a meaning of their own in rules
abbrev pub is_word_of_rules : List ℕ → Bool
is_word_of_rules text = same_text text (codes "console") || same_text text (codes "any")

abbrev pub is_service_name : List ℕ → Bool
is_service_name text = is_name text && not (is_word_of_rules text)

-- a text of rules: at most 65,536 bytes
abbrev pub is_rules_text : List ℕ → Bool
is_rules_text text = is_between 0 65536 (length text)

abbrev pub is_secret : List ℕ → Bool
is_secret text = is_between 1 256 (length text)

-- an address: 1 to 64 visible characters
abbrev pub is_door : List ℕ → Bool
is_door text = is_between 1 64 (length text) && list_all is_visible text

abbrev pub name_in : Data → Read (List ℕ)
name_in service = and_then (text_in field.Name service) (passing is_service_name field.Name)

abbrev pub rules_in : Data → Read (List ℕ)
rules_in service = and_then (text_in field.Rules service) (passing is_rules_text field.Rules)

abbrev pub secret_in : Field → Data → Read (List ℕ)
secret_in field service = and_then (text_in field service) (passing is_secret field)

abbrev pub door_in : Data → Read (List ℕ)
door_in service = and_then (text_in field.Door service) (passing is_door field.Door)

abbrev pub workers_in : Data → Read ℕ
workers_in service = and_then (wanted field.Workers service) (number_between 1 8 field.Workers)

-- the weight, where it is given
abbrev pub weight_of : Option Data → Read ℕ
weight_of None = Ok 1000000000
weight_of (Some value) = number_between 1000 1000000000 field.Weight value

abbrev pub weight_in : Data → Read ℕ
weight_in service = weight_of (get (field_word field.Weight) service)

-- how many entries the service never folds by itself, where it is given; else it folds none
abbrev pub keep_of : Option Data → Read (Option ℕ)
keep_of None = Ok None
keep_of (Some value) = and_then (number_between 1000 90000 field.Keep value) (λ keep. Ok (Some keep))

abbrev pub keep_in : Data → Read (Option ℕ)
keep_in service = keep_of (get (field_word field.Keep) service)

-- ---- all of them

-- what a service's fields say
pub record Fields : Type 0 where
  pub name : List ℕ
  pub program : List ℕ
  pub rules : List ℕ
  pub secret : List ℕ
  pub console : List ℕ
  pub door : List ℕ
  pub workers : ℕ
  pub weight : ℕ
  pub keep : Option ℕ

-- the fields behind the name, in their order
unfoldable pub rest_in : Data → List ℕ → Read Fields
rest_in service name =
    and_then (text_in field.Program service) (λ program.
    and_then (rules_in service) (λ rules.
    and_then (secret_in field.Secret service) (λ secret.
    and_then (secret_in field.Console service) (λ console.
    and_then (door_in service) (λ door.
    and_then (workers_in service) (λ workers.
    and_then (weight_in service) (λ weight.
    and_then (keep_in service) (λ keep.
    Ok (record { name = name; program = program; rules = rules; secret = secret; console = console; door = door; workers = workers; weight = weight; keep = keep })))))))))

-- all fields in their order; the first that is missing or bad is the fault
abbrev pub fields_in : Data → Read Fields
fields_in service = and_then (name_in service) (rest_in service)
