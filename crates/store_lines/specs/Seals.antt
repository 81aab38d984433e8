-- Lines with their numbers and digests. Behind the text of a line stands its digest under its number, in small letters; a mark has a word in place of a text, and
-- its digest in capitals. So no end of a line that isn't a mark looks like one, whatever its text is.
use Rattle.std.specs.Prelude.{ℕ, ◌+◌, ◌-◌, ◌<◌, ◌^◌, ◌/◌, ◌%◌, Bool, List, [], ◌∷◌, ◌++◌, codes, decimal, drop, if◌then◌else◌, length, nat_le, take}
use Rattle.sqlite_disk.specs.Digest.{digest}
use Rattle.store_lines.specs.declared.piece.Piece.{Piece}
use Rattle.store_lines.specs.declared.piece.Piece.TheVariants.{Text, Safe, Stopped}

-- one of sixteen letters from this one on
abbrev pub letter : ℕ → ℕ → ℕ
letter first n = first + n % 16

-- a number of 64 bits as sixteen letters, its lowest four bits first
abbrev pub letters : ℕ → ℕ → List ℕ
letters first n =
    letter first n
    ∷ letter first (n / 16)
    ∷ letter first (n / 256)
    ∷ letter first (n / 4096)
    ∷ letter first (n / 65536)
    ∷ letter first (n / 1048576)
    ∷ letter first (n / 16777216)
    ∷ letter first (n / 268435456)
    ∷ letter first (n / 4294967296)
    ∷ letter first (n / 68719476736)
    ∷ letter first (n / 1099511627776)
    ∷ letter first (n / 17592186044416)
    ∷ letter first (n / 281474976710656)
    ∷ letter first (n / 4503599627370496)
    ∷ letter first (n / 72057594037927936)
    ∷ letter first (n / 1152921504606846976)
    ∷ []

-- `NUMBER TEXT DIGEST`, the digest from this letter on
abbrev pub numbered : ℕ → ℕ → List ℕ → List ℕ
numbered first at text = decimal at ++ (codes " " ++ (text ++ (codes " " ++ letters first (digest at text))))

-- the line of a text at its number
abbrev pub sealed : ℕ → List ℕ → List ℕ
sealed at text = numbered 97 at text

-- a mark at its number
abbrev pub marked : ℕ → List ℕ → List ℕ
marked at word = numbered 65 at word

-- what is said by a mark before which all lines were safe when it was written, and the file was so long
abbrev pub safe_words : ℕ → List ℕ
safe_words len = codes "safe " ++ decimal len

-- and by one behind which nothing was written any more
abbrev pub stopped_words : ℕ → List ℕ
stopped_words len = codes "stopped " ++ decimal len

-- what stands between the number and the digest of a piece
abbrev pub words : Piece → List ℕ
words (Text text) = text
words (Safe len) = safe_words len
words (Stopped len) = stopped_words len

-- the line of a piece at its number
abbrev pub spelled : ℕ → Piece → List ℕ
spelled at (Text text) = sealed at text
spelled at (Safe len) = marked at (safe_words len)
spelled at (Stopped len) = marked at (stopped_words len)

-- the length that a mark tells is a number of 64 bits
abbrev pub IsPiece : Piece → Type 0
IsPiece (Text text) = Unit {0}
IsPiece (Safe len) = len < 2 ^ 64
IsPiece (Stopped len) = len < 2 ^ 64

abbrev pub ArePieces : List Piece → Type 0
ArePieces [] = Unit {0}
ArePieces (p ∷ ps) = IsPiece p × ArePieces ps

-- what isn't a text
abbrev pub IsMark : Piece → Type 0
IsMark (Text text) = ⊥
IsMark (Safe len) = Unit {0}
IsMark (Stopped len) = Unit {0}

abbrev pub AreTexts : List Piece → Type 0
AreTexts [] = Unit {0}
AreTexts (p ∷ ps) = (IsMark p → ⊥) × AreTexts ps

-- the lines of pieces, of which the first has this number
abbrev pub spelled_from : ℕ → List Piece → List (List ℕ)
spelled_from at [] = []
spelled_from at (p ∷ ps) = spelled at p ∷ spelled_from (at + 1) ps

abbrev pub text_before : Piece → List (List ℕ) → List (List ℕ)
text_before (Text text) rest = text ∷ rest
text_before mark rest = rest

-- the texts of pieces, in order; marks have none
abbrev pub texts : List Piece → List (List ℕ)
texts [] = []
texts (p ∷ ps) = text_before p (texts ps)

-- ---- the texts of lines

-- the last byte of a line; 0 of none
abbrev pub last_byte : List ℕ → ℕ
last_byte [] = 0
last_byte (b ∷ []) = b
last_byte (b ∷ c ∷ bs) = last_byte (c ∷ bs)

-- a line that isn't a mark ends with a small letter
abbrev pub has_text : List ℕ → Bool
has_text line = nat_le 97 (last_byte line)

-- what stands between its number and its digest
abbrev pub stripped : ℕ → List ℕ → List ℕ
stripped at line = take (length line - 17 - (length (decimal at) + 1)) (drop (length (decimal at) + 1) line)

-- the texts of lines of which the first has this number, in order; marks have none
abbrev pub texts_from : ℕ → List (List ℕ) → List (List ℕ)
texts_from at [] = []
texts_from at (line ∷ lines) = if has_text line then stripped at line ∷ texts_from (at + 1) lines else texts_from (at + 1) lines
