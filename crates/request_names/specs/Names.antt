-- Why a text is no name of a service.
use Rattle.std.specs.Prelude.{ℕ, not, List, Option, Some, if◌then◌else◌, nat_eq, nat_lt, length}
use Rattle.std.specs.Option.{option_map}
use Rattle.std.specs.List.{position}
use Rattle.lang_core.specs.Names.{is_name_byte}
use Rattle.request_names.specs.declared.names.NameRefused.{NameRefused}
use Rattle.request_names.specs.declared.names.NameRefused.TheVariants.{Empty, TooLong, BadByte}

-- the place of the first byte that no name has
abbrev pub bad_byte : List ℕ → Option ℕ
bad_byte text = position (λ b. not (is_name_byte b)) text

-- what keeps a text from being a name, if anything does
abbrev pub refusal : List ℕ → Option NameRefused
refusal text =
    if nat_eq (length text) 0 then Some Empty
    else (if nat_lt 32 (length text) then Some TooLong
    else option_map BadByte (bad_byte text))
