-- How a command ends: what it writes last, and with which status.
use Rattle.std.specs.Prelude.{◌≡◌, ◌⊎◌, ℕ, List, [], ◌++◌, codes, decimal}
use Rattle.io_edge.specs.Edge.{IsFront, WriteFails, Writes, Wrote, WroteShort}

-- ---- what is written

abbrev pub usage_line : ℕ → List ℕ
usage_line i = codes "usage: word " ++ (decimal i ++ codes "\n")

abbrev pub unread_line : List ℕ
unread_line = codes "read fault\n"

abbrev pub lacking_line : List ℕ
lacking_line = codes "no memory\n"

-- all of a text was written, and then a last line, or a front of that where a write failed
pub record EndsWith (before now : Writes) (text line : List ℕ) : Type 0 where
  pub front : List ℕ
  pub of_line : IsFront front line
  pub wrote : Wrote before now (text ++ front)
  pub whole : (front ≡ line) ⊎ WriteFails before now

-- ---- the status

-- 0 where all of a text is written, and 5 where a write failed
abbrev pub StatusOf : Writes → Writes → List ℕ → ℕ → Type 0
StatusOf before now text status =
    ((status ≡ 0) × Wrote before now text) ⊎ ((status ≡ 5) × (WroteShort before now text × WriteFails before now))

-- 6: memory is wanting, and nothing but that is written
pub record LacksMemory (before now : Writes) (status : ℕ) : Type 0 where
  pub answered : status ≡ 6
  pub ends : EndsWith before now [] lacking_line

-- it ends with this status and this last line alone, or for want of memory
abbrev pub Closes : Writes → Writes → ℕ → List ℕ → ℕ → Type 0
Closes before now good line status =
    ((status ≡ good) × EndsWith before now [] line) ⊎ LacksMemory before now status
