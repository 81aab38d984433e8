-- When a store stands ready, and what is written to it.
use Rattle.std.specs.Prelude.{◌≡◌, ◌<◌, ◌≤◌, ◌⊎◌, ℕ, ◌+◌, Bool, IsTrue, List, [], ◌∷◌, ◌++◌, length, map, take}
use Rattle.store_lines.specs.Lines.{recovered}
use Rattle.store_lines.specs.Readings.{IsReadAs}
use Rattle.store_lines.specs.Seals.{spelled_from, texts, texts_from}
use Rattle.store_lines.specs.declared.piece.Piece.{Piece}
use Rattle.store_lines.specs.declared.piece.Piece.TheVariants.{Text, Safe}
use Rattle.store_disk.specs.State.{IsAtRest}
use Rattle.store_disk.specs.declared.store.Store.{Store}

-- the store may be used, all of it is on the disk, and it has so many lines
pub record IsReady {D : Type 0} (is_usable is_clean : D → Bool) (seen : D → List ℕ) (may_leave : D → List ℕ → Type 0) (store : Store D) (lines : ℕ) : Type 0 where
  pub usable : IsTrue (is_usable store.disk)
  pub at_rest : IsTrue (is_clean store.disk) → IsAtRest seen may_leave store
  pub count : IsTrue (is_clean store.disk) → lines ≡ length (recovered (seen store.disk))

-- the texts of a file's lines
abbrev pub texts_in : List ℕ → List (List ℕ)
texts_in bytes = texts_from 0 (recovered bytes)

-- the same, and so many of its texts are records; the first two are none: what the store is, and with what it began
pub record Stands {D : Type 0} (is_usable is_clean : D → Bool) (seen : D → List ℕ) (may_leave : D → List ℕ → Type 0) (store : Store D) (lines durable : ℕ) : Type 0 where
  pub ready : IsReady is_usable is_clean seen may_leave store lines
  pub records : IsTrue (is_clean store.disk) → durable + 2 ≡ length (texts_in (seen store.disk))

-- where a file was made longer, a mark alone tells so first, which still stands in what was safe before
abbrev pub IsRoomMark : (before now : ℕ) → List Piece → Type 0
IsRoomMark before now marks = ((now ≡ before) × (marks ≡ [])) ⊎ ((before < now) × (marks ≡ Safe now ∷ []))

-- a mark in a file of this length that all before it is safe, and texts
abbrev pub behind_mark : ℕ → List (List ℕ) → List Piece
behind_mark len texts = Safe len ∷ map Text texts

-- one file has these pieces behind so many lines of the other, and whatever a start reads from that, it reads them behind it from this one
pub record Appended (lines : ℕ) (old new : List ℕ) (more : List Piece) : Type 0 where
  pub found : recovered new ≡ recovered old ++ spelled_from lines more
  pub read : (pieces : List Piece) → IsReadAs pieces old → IsReadAs (pieces ++ more) new

-- texts were written behind a mark, into a file that was so long before and is so long now
abbrev pub AreWritten : (lines before now : ℕ) (old new : List ℕ) (texts : List (List ℕ)) → Type 0
AreWritten lines before now old new texts = (marks : List Piece) × IsRoomMark before now marks × Appended lines old new (marks ++ behind_mark now texts)

-- the first few of these texts
abbrev pub AreFirst : List (List ℕ) → List (List ℕ) → Type 0
AreFirst new found = (k : ℕ) × (k ≤ length new) × (found ≡ take k new)

-- from whatever a crash leaves, a start reads these pieces, and behind them the first few of these texts and perhaps marks
abbrev pub IsLeftWithTexts : List Piece → List (List ℕ) → (List ℕ → Type 0) → Type 0
IsLeftWithTexts pieces new outcomes = (c : List ℕ) → outcomes c → (more : List Piece) × IsReadAs (pieces ++ more) c × AreFirst new (texts more)

-- the lines of the first few of these pieces
abbrev pub IsFewLines : List Piece → List (List ℕ) → Type 0
IsFewLines pieces found = (k : ℕ) × (k ≤ length pieces) × (found ≡ spelled_from 0 (take k pieces))
