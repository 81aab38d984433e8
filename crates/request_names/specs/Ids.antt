-- Names of requests and calls: the name of a service, a slash and a number from 1.
use Rattle.std.specs.Prelude.{ℕ, List, ◌++◌, Option, Some, None, Result, Ok, Err, if◌then◌else◌, nat_eq, nat_lt, ◌==◌, length, codes, decimal}
use Rattle.std.specs.List.{position_or_len, before_first, after_first}
use Rattle.std.specs.Result.{result_ok}
use Rattle.request_names.specs.Names.{refusal}
use Rattle.request_names.specs.Numbers.{number_of}
use Rattle.request_names.specs.declared.names.NameRefused.{NameRefused}
use Rattle.request_names.specs.declared.names.NameRefused.TheVariants.{Empty, NoSlash, BadNumber}

-- what stands before the first slash and what behind it, if there is one
abbrev pub parts_of : List ℕ → Option (List ℕ × List ℕ)
parts_of text =
    if nat_lt (position_or_len (λ b. b == 47) text) (length text)
    then Some (before_first (λ b. b == 47) text, after_first (λ b. b == 47) text) else None

-- a number from 1
abbrev pub from_one : Option ℕ → Result ℕ NameRefused
from_one None = Err BadNumber
from_one (Some n) = if nat_eq n 0 then Err BadNumber else Ok n

-- a name and a number, or what is wrong with the name, or else with the number
abbrev pub pair_of : List ℕ → Option NameRefused → Result ℕ NameRefused → Result (List ℕ × ℕ) NameRefused
pair_of name (Some why) number = Err why
pair_of name None (Ok n) = Ok (name, n)
pair_of name None (Err why) = Err why

abbrev pub parts_at : Option (List ℕ × List ℕ) → Result (List ℕ × ℕ) NameRefused
parts_at None = Err NoSlash
parts_at (Some parts) = pair_of parts.0 (refusal parts.0) (from_one (number_of parts.1))

-- the service and the number that a text names, or why it names none
abbrev pub id_at : List ℕ → Result (List ℕ × ℕ) NameRefused
id_at text = if nat_eq (length text) 0 then Err Empty else parts_at (parts_of text)

-- the same, where nothing is said of why
abbrev pub id_of : List ℕ → Option (List ℕ × ℕ)
id_of text = result_ok (id_at text)

-- how the two are written
abbrev pub id_text : List ℕ → ℕ → List ℕ
id_text name n = name ++ (codes "/" ++ decimal n)
