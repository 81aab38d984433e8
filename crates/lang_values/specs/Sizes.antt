-- The bytes of recorded reads.
use Rattle.std.specs.Prelude.{ℕ, ◌+◌, List, Option, Some, None, length, sum_by}
use Rattle.lang_core.specs.Rows.{cell_size}
use Rattle.lang_core.specs.declared.trace.Read.{Read}
use Rattle.lang_core.specs.declared.trace.Read.TheVariants.{Key, Scan}

abbrev pub text_size : Option (List ℕ) → ℕ
text_size None = 0
text_size (Some t) = length t

-- the bytes of a recorded read: of a key and its text, or of the keys and texts that a scan found
abbrev pub read_size : Read → ℕ
read_size (Key t k found) = length k + text_size found
read_size (Scan t prefix found) = sum_by cell_size found
