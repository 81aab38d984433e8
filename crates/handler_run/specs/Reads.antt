-- Rows that give what a run read.
use Rattle.std.specs.Prelude.{◌≡◌, List, All}
use Rattle.lang_core.specs.Rows.{get, scan}
use Rattle.lang_core.specs.declared.cells.Cell.{Cell}
use Rattle.lang_core.specs.declared.trace.Read.{Read}
use Rattle.lang_core.specs.declared.trace.Read.TheVariants.{Key, Scan}

-- the rows give what was read
abbrev pub Gives : List Cell → Read → Type 0
Gives rows (Key t k found) = get rows t k ≡ found
Gives rows (Scan t prefix found) = scan rows t prefix ≡ found

-- the rows give each of these reads
abbrev pub GivesAll : List Cell → List Read → Type 0
GivesAll rows reads = All (Gives rows) reads
