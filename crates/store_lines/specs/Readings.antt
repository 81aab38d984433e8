-- What the bytes of a store say.
use Rattle.std.specs.Prelude.{◌≡◌, ◌<◌, ◌≤◌, ◌+◌, ◌-◌, ◌^◌, ◌⊎◌, ℕ, zero, suc, Bool, true, false, List, [], ◌∷◌, ◌++◌, drop, length, fold, slice_get, Some, take, ◌&&◌, ◌||◌, ◌==◌}
use Rattle.std.specs.List.{list_all}
use Rattle.store_lines.specs.Lines.{recovered, encode}
use Rattle.store_lines.specs.Seals.{sealed, spelled, spelled_from, ArePieces, AreTexts, IsMark, IsPiece}
use Rattle.store_lines.specs.declared.piece.Piece.{Piece}
use Rattle.store_lines.specs.declared.piece.Piece.TheVariants.{Text, Safe, Stopped}

-- how many bytes the whole lines take, and what stands behind them
abbrev pub used : List ℕ → ℕ
used bytes = length (encode (recovered bytes))

abbrev pub rest : List ℕ → List ℕ
rest bytes = drop (used bytes) bytes

-- so many bytes of the file were on the disk, as zeros or as lines, by what its last mark says; a file is made so long at first. What stands further behind
-- may be anything, since a crash came while the file was made longer
abbrev pub trusted_step : ℕ → Piece → ℕ
trusted_step len (Text text) = len
trusted_step len (Safe now) = now
trusted_step len (Stopped now) = now

abbrev pub trusted : List Piece → ℕ
trusted pieces = fold trusted_step 1048576 pieces

-- this is the line of a mark, before which more lines than these were safe
pub record IsMarkAbove (lines : ℕ) (line : List ℕ) : Type 0 where
  pub number : ℕ
  pub mark : Piece
  pub is_mark : IsMark mark
  pub is_piece : IsPiece mark
  pub small : number < 2 ^ 64
  pub more : lines < number
  pub is : line ≡ spelled number mark

-- they begin with such a line
pub record BeginsAbove (lines : ℕ) (bytes : List ℕ) : Type 0 where
  pub line : List ℕ
  pub behind : List ℕ
  pub is : bytes ≡ line ++ 10 ∷ behind
  pub above : IsMarkAbove lines line

-- such a mark begins at one of the first so many of them
pub record IsAhead (lines within : ℕ) (bytes : List ℕ) : Type 0 where
  pub at : ℕ
  pub begins : at < within
  pub above : BeginsAbove lines (drop at bytes)

-- they begin with the end of a line, and go on
abbrev pub is_broken : List ℕ → Bool
is_broken (b ∷ c ∷ bs) = b == 10
is_broken bytes = false

-- of lines that take so many bytes one was lost that had been safe: a mark behind them says so, or the next line has become an empty one, or the file is
-- shorter than it was
abbrev pub Misses : ℕ → ℕ → ℕ → List ℕ → Type 0
Misses lines trusted used bytes = IsAhead lines (trusted - used) (drop used bytes) ⊎ ((is_broken (drop used bytes) ≡ true) ⊎ (length bytes < trusted))

-- the file says that more than these pieces were safe
abbrev pub TellsMore : List Piece → List ℕ → Type 0
TellsMore pieces bytes = Misses (length pieces) (trusted pieces) (used bytes) bytes

-- the lines are those of these pieces, and nothing tells of more
pub record IsReadAs (pieces : List Piece) (bytes : List ℕ) : Type 0 where
  pub lines : recovered bytes ≡ spelled_from 0 pieces
  pub told : TellsMore pieces bytes → ⊥

-- pieces that are written together behind others, in a file that is so long: a mark stands in front of texts alone, and tells no greater length
abbrev pub MayLead : ℕ → Piece → Type 0
MayLead len (Text text) = Unit {0}
MayLead len (Safe told) = told ≤ len
MayLead len (Stopped told) = told ≤ len

abbrev pub IsBatch : ℕ → List Piece → Type 0
IsBatch len [] = Unit {0}
IsBatch len (p ∷ ps) = MayLead len p × AreTexts ps

-- each of these bytes is 0 or the one at its place in these others, and behind those all are 0
abbrev pub is_torn_of : List ℕ → List ℕ → Bool
is_torn_of [] bytes = list_all (λ b. b == 0) bytes
is_torn_of (w ∷ ws) [] = true
is_torn_of (w ∷ ws) (b ∷ bs) = (b == 0 || b == w) && is_torn_of ws bs

-- ---- what a file is, where this is the text of its first line

-- it is empty, or has zeros and some bytes of the first line alone
pub record IsNew (first bytes : List ℕ) : Type 0 where
  pub none : recovered bytes ≡ []
  pub torn : is_torn_of (sealed 0 first ++ 10 ∷ []) bytes ≡ true

-- it has no whole line, and isn't new
pub record IsNoStore (first bytes : List ℕ) : Type 0 where
  pub none : recovered bytes ≡ []
  pub other : is_torn_of (sealed 0 first ++ 10 ∷ []) bytes ≡ false

-- it has the first line, and no other
pub record IsBegun (first bytes : List ℕ) : Type 0 where
  pub read : IsReadAs (Text first ∷ []) bytes

-- its lines say this, behind the first, and nothing tells of more
pub record Says (first bytes : List ℕ) (began : List ℕ) (pieces : List Piece) : Type 0 where
  pub read : IsReadAs (Text first ∷ Text began ∷ pieces) bytes
  pub are : ArePieces pieces

-- what may stand at a line of this number: the first line is known, and the next is a text
abbrev pub MayStand : List ℕ → ℕ → Piece → Type 0
MayStand first zero p = p ≡ Text first
MayStand first (suc zero) p = IsMark p → ⊥
MayStand first (suc (suc at)) p = Unit {0}

abbrev pub AllStand : List ℕ → ℕ → List Piece → Type 0
AllStand first at [] = Unit {0}
AllStand first at (p ∷ ps) = MayStand first at p × AllStand first (at + 1) ps

-- the line of this number is the first that says nothing
pub record IsIllAt (first bytes : List ℕ) (at : ℕ) : Type 0 where
  pub before : List Piece
  pub are : ArePieces before
  pub stand : AllStand first 0 before
  pub lines : take at (recovered bytes) ≡ spelled_from 0 before
  pub count : length before ≡ at
  pub line : List ℕ
  pub there : slice_get (recovered bytes) at ≡ Some line
  pub none : (p : Piece) → IsPiece p → MayStand first at p → spelled at p ≡ line → ⊥

-- all of its lines say something, and what stands behind them tells of more
pub record IsCutAt (first bytes : List ℕ) (at : ℕ) : Type 0 where
  pub pieces : List Piece
  pub are : ArePieces pieces
  pub stand : AllStand first 0 pieces
  pub lines : recovered bytes ≡ spelled_from 0 pieces
  pub count : length pieces ≡ at
  pub told : TellsMore pieces bytes
