-- The programs that entries are given when one is put in place of another.
use Rattle.std.specs.Prelude.{ℕ, List, [], ◌∷◌, Option, Some, None, if◌then◌else◌}
use Rattle.lang_programs.specs.Numbered.{Numbered}
use Rattle.request_log.specs.declared.entry.Entry.{Entry}
use Rattle.request_log.specs.Entries.{has_program, with_correction}

-- the program where the entry has that of the number
abbrev pub given_for : ℕ → Numbered → Entry → Option Numbered
given_for number program e = if has_program number e then Some program else None

-- the entry with the program that it is given, if it is given one
abbrev pub given : Option Numbered → Entry → Entry
given None e = e
given (Some program) e = with_correction program e

-- the first of these entries with what each of them is given; the others stay
abbrev pub all_given : List (Option Numbered) → List Entry → List Entry
all_given [] es = es
all_given (g ∷ gs) [] = []
all_given (g ∷ gs) (e ∷ es) = given g e ∷ all_given gs es
