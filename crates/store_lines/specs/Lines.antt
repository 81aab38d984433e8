-- What the bytes of a store stand for. A line is bytes other than 0 and 10, at least one, and then a 10. The first 0 ends the text; behind it the file is
-- zeros.
use Rattle.std.specs.Prelude.{◌≡◌, ◌≢◌, ℕ, ◌==◌, ◌≤◌, List, [], ◌∷◌, ◌++◌, length, take, if◌then◌else◌}

-- the line, where it is not empty, and then these; an empty line ends the text
abbrev pub ended : List ℕ → List (List ℕ) → List (List ℕ)
ended [] rest = []
ended (b ∷ bs) rest = (b ∷ bs) ∷ rest

-- the whole lines of these bytes, of which the first has begun with `line`
abbrev pub lines_from : List ℕ → List ℕ → List (List ℕ)
lines_from line [] = []
lines_from line (b ∷ bs) = if b == 0 then [] else (if b == 10 then ended line (lines_from [] bs) else lines_from (line ++ b ∷ []) bs)

-- the lines of a file, whatever a crash made of it
abbrev pub recovered : List ℕ → List (List ℕ)
recovered bytes = lines_from [] bytes

-- lines as they are written
abbrev pub encode : List (List ℕ) → List ℕ
encode [] = []
encode (x ∷ xs) = x ++ 10 ∷ encode xs

-- no byte of it is this one
abbrev pub Lacks : ℕ → List ℕ → Type 0
Lacks b [] = Unit {0}
Lacks b (c ∷ cs) = (c ≢ b) × Lacks b cs

-- no byte of it is 0 or 10
abbrev pub IsText : List ℕ → Type 0
IsText [] = Unit {0}
IsText (b ∷ bs) = (b ≢ 0) × (b ≢ 10) × IsText bs

-- what can be a line
abbrev pub IsLine : List ℕ → Type 0
IsLine [] = ⊥
IsLine (b ∷ bs) = IsText (b ∷ bs)

abbrev pub AreLines : List (List ℕ) → Type 0
AreLines [] = Unit {0}
AreLines (x ∷ xs) = IsLine x × AreLines xs

-- the lines from before, and the first few of the new ones
abbrev pub IsBetween : List (List ℕ) → List (List ℕ) → List (List ℕ) → Type 0
IsBetween old new found = (k : ℕ) × (k ≤ length new) × (found ≡ old ++ take k new)
