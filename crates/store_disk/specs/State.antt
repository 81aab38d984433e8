-- How a store's file stands.
use Rattle.std.specs.Prelude.{◌≡◌, ℕ, ◌+◌, ◌-◌, ◌<◌, ◌≤◌, ◌^◌, List, [], ◌∷◌, ◌++◌, Option, Some, None, Result, Err, drop, length, replicate, take}
use Rattle.std.specs.declared.io.Error.{Error}
use Rattle.sqlite_disk.specs.Disk.{MoreFaults, Only}
use Rattle.sqlite_disk.specs.declared.Disk.{Ghosts}
use Rattle.store_lines.specs.Lines.{recovered, encode, AreLines, IsLine}
use Rattle.store_lines.specs.Readings.{IsBatch, IsReadAs}
use Rattle.store_lines.specs.Seals.{ArePieces, spelled_from}
use Rattle.store_lines.specs.declared.piece.Piece.{Piece}
use Rattle.store_disk.specs.declared.fault.Fault.{Fault}
use Rattle.store_disk.specs.declared.fault.Fault.TheVariants.{Io}
use Rattle.store_disk.specs.declared.reader.Reader.{Reader}
use Rattle.store_disk.specs.declared.store.Store.{Store}

-- a call of the file is told to have failed only where the count of such calls rose
abbrev pub RoseIfIo : {T : Type 0} → Result T Fault → ℕ → ℕ → Type 0
RoseIfIo result old new = (e : Error) → result ≡ Err (Io e) → MoreFaults old new

-- ---- a file that is read

-- where the next line begins
abbrev pub place : {D : Type 0} {g : Ghosts D} → Reader D g → ℕ
place reader = reader.at + reader.start

abbrev pub disk_of : {D : Type 0} {g : Ghosts D} → Reader D g → D
disk_of reader = reader.disk

-- how far its file was read
abbrev pub read_to : {D : Type 0} {g : Ghosts D} → Reader D g → ℕ
read_to reader = reader.at + length reader.piece.items

-- it knows how long the file is, and has a piece of it
pub record IsReading {D : Type 0} {g : Ghosts D} (seen : D → List ℕ) (reader : Reader D g) : Type 0 where
  pub len : reader.len ≡ length (seen reader.disk)
  pub piece : drop reader.at (seen reader.disk) ≡ reader.piece.items ++ drop (read_to reader) (seen reader.disk)

-- so many bytes of a file are these lines
pub record HasRead (file : List ℕ) (upto : ℕ) (all : List (List ℕ)) : Type 0 where
  pub front : file ≡ encode all ++ drop upto file
  pub place : upto ≡ length (encode all)
  pub are : AreLines all

-- from one place of a file to another there is this line; None: there is no whole line behind the first
abbrev pub IsNext : List ℕ → ℕ → ℕ → Option (List ℕ) → Type 0
IsNext file from to None = (recovered (drop from file) ≡ []) × (to ≡ from)
IsNext file from to (Some line) = IsLine line × (drop from file ≡ line ++ 10 ∷ drop to file) × (to ≡ from + length line + 1)

-- so many bytes of the file are all of its whole lines, and all of it is on the disk
pub record IsFound {D : Type 0} (seen : D → List ℕ) (may_leave : D → List ℕ → Type 0) (disk : D) (used long : ℕ) : Type 0 where
  pub len : long ≡ length (seen disk)
  pub read : HasRead (seen disk) used (recovered (seen disk))
  pub rest : recovered (drop used (seen disk)) ≡ []
  pub durable : Only (seen disk) (may_leave disk)

-- ---- a file that is written to

-- the file is its lines and then zeros, one at least, and all of it is on the disk
pub record IsAtRest {D : Type 0} (seen : D → List ℕ) (may_leave : D → List ℕ → Type 0) (store : Store D) : Type 0 where
  pub file : seen store.disk ≡ encode (recovered (seen store.disk)) ++ replicate (store.len - store.used) 0
  pub used : store.used ≡ length (encode (recovered (seen store.disk)))
  pub room : store.used < store.len
  pub lines : AreLines (recovered (seen store.disk))
  pub durable : Only (seen store.disk) (may_leave store.disk)

-- these lines are those of pieces behind others, in a file of this length
pub record IsNextBatch (len : ℕ) (pieces more : List Piece) (written : List (List ℕ)) : Type 0 where
  pub lines : written ≡ spelled_from (length pieces) more
  pub batch : IsBatch len more
  pub are : ArePieces more
  pub small : length pieces < 2 ^ 64

-- a start reads these pieces from whatever a crash leaves
abbrev pub IsLeftAs : List Piece → (List ℕ → Type 0) → Type 0
IsLeftAs pieces outcomes = (c : List ℕ) → outcomes c → IsReadAs pieces c

-- or these, and the first few of those that were written behind them
abbrev pub IsLeftWith : List Piece → List Piece → (List ℕ → Type 0) → Type 0
IsLeftWith pieces more outcomes = (c : List ℕ) → outcomes c → (k : ℕ) × (k ≤ length more) × IsReadAs (pieces ++ take k more) c
