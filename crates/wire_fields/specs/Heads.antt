-- Heads, made field by field.
use Rattle.std.specs.Prelude.{ℕ, List, fold}
use Rattle.http_header.specs.FieldValue.{FieldValue, plain_value}
use Rattle.http_header.specs.HeaderMap.{Entries, append}
use Rattle.http_header.specs.Token.{lowercase}
use Rattle.http_front.specs.Table.{spelling}
use Rattle.http_front.specs.declared.header.AireHeader.{AireHeader}

-- a header field and its text
abbrev pub Field : Type 0
Field = AireHeader × List ℕ

-- a head with one field more
abbrev pub with_field : Entries FieldValue → Field → Entries FieldValue
with_field head field = append head (lowercase (spelling field.0)) (plain_value field.1)

-- with these more, in their order
abbrev pub with_fields : Entries FieldValue → List Field → Entries FieldValue
with_fields head fields = fold with_field head fields
