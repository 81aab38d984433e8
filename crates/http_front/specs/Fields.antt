-- The fields of a head, as a map keeps them.
use Rattle.std.specs.Prelude.{ℕ, ◌≤◌, List, [], map, length}
use Rattle.httparse.specs.Grammar.{Field}
use Rattle.httparse.specs.Spans.{name_and_value}
use Rattle.http_header.specs.Token.{IsToken, lowercase}
use Rattle.http_header.specs.FieldValue.{FieldValue, IsFieldValue, plain_value}
use Rattle.http_header.specs.HeaderMap.{Entries, append_all, value_count}

-- a name in lower case, and the value without the white space around it
abbrev pub entry_of : List ℕ × List ℕ → List ℕ × FieldValue
entry_of field = (lowercase field.0, plain_value field.1)

-- the map of some names and values, in their order
abbrev pub map_of : List (List ℕ × List ℕ) → Entries FieldValue
map_of fields = append_all [] (map entry_of fields)

-- the map of a head's fields
abbrev pub head_of : List Field → Entries FieldValue
head_of fields = map_of (map name_and_value fields)

-- ---- what a map takes

-- the name is a token, and the value has no control byte but the tab
abbrev pub FitsMap : List ℕ × List ℕ → Type 0
FitsMap field = IsToken field.0 × IsFieldValue field.1

-- so many names at most, and as many values
abbrev pub HoldsUpTo : ℕ → Entries FieldValue → Type 0
HoldsUpTo n head = (length head ≤ n) × (value_count head ≤ n)
