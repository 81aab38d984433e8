-- Which words of a command fit.
use Rattle.std.specs.Prelude.{ℕ, ◌+◌, Bool, not, ◌||◌, List, [], ◌∷◌, Option, Some, None, if◌then◌else◌, codes, nat_eq}
use Rattle.std.specs.List.{starts_with}
use Rattle.lang_base.specs.Texts.{same_text}

-- a word that names a file, or the input: one that begins with `-` is `-` alone
abbrev pub is_file_word : List ℕ → Bool
is_file_word word = not (starts_with nat_eq word (codes "-")) || same_text word (codes "-")

-- The index of the first word that doesn't fit, or the number of words where one is missing. They are counted from this number on,
-- and there is a test for each word.
abbrev pub misfit_from : ℕ → List (List ℕ → Bool) → List (List ℕ) → Option ℕ
misfit_from i [] [] = None
misfit_from i [] (word ∷ words) = Some i
misfit_from i (fits ∷ more) [] = Some i
misfit_from i (fits ∷ more) (word ∷ words) = if fits word then misfit_from (i + 1) more words else Some i
