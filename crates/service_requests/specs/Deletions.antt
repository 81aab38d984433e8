-- Rows of deleted calls.
use Rattle.std.specs.Prelude.{◌≡◌, None}
use Rattle.journal_rows.specs.declared.row.Row.{Row}
use Rattle.journal_rows.specs.declared.row.Row.TheVariants.{Sent}

-- the row says that a call is to have no effect
abbrev pub IsDeletion : Row → Type 0
IsDeletion (Sent s) = s.desired ≡ None
IsDeletion row = ⊥
