-- The ends of the parts of a run.
use Rattle.std.specs.Prelude.{◌≡◌, ◌⊎◌, ℕ, ◌≤◌, true, false, List, [], length, codes}
use Rattle.io_edge.specs.Edge.{IsAtEnd, Reads, Writes}
use Rattle.io_edge.specs.Files.{Loads}
use Rattle.command_ends.specs.Ends.{EndsWith, unread_line}
use Rattle.world_file.specs.Numbers.{refusal_text}
use Rattle.world_file.specs.declared.setup.Setup.{Setup}
use Rattle.aire_top.specs.declared.loading.NoWorld.{NoWorld}
use Rattle.aire_top.specs.declared.loading.NoWorld.TheVariants.{NoMemory, Failed, TooLong, Refused}
use Rattle.aire_top.specs.Endings.{Answer, Asked, LacksMemory, Outside, ScriptEnds, ScriptFails, Untouched, nothing, world_line}
use Rattle.aire_top.specs.Top.{Is, fresh, is_input, script_path, script_told}

-- it ends with this answer and this last line, or for want of memory
abbrev pub Closes : Writes → Writes → Answer → List ℕ → Answer → Type 0
Closes before now good line a = ((a ≡ good) × EndsWith before now [] line) ⊎ LacksMemory before now a

-- why there is no world, as it is told
abbrev pub ClosesWorldless : NoWorld → Writes → Writes → Answer → Type 0
ClosesWorldless NoMemory before now a = LacksMemory before now a
ClosesWorldless Failed before now a = Closes before now (nothing 4) unread_line a
ClosesWorldless TooLong before now a = Closes before now (nothing 3) (world_line (codes "8")) a
ClosesWorldless (Refused why) before now a = Closes before now (nothing 3) (world_line (refusal_text why)) a

-- This is the script of a word, where the outside tells it. Only its path was asked for. An input is read to its end,
-- if it isn't longer than a script may be, and left as it is beside a file.
pub record IsGot (word : List ℕ) (loads loads_now : Loads) (reads reads_now : Reads) (script : List ℕ) : Type 0 where
  pub of_word : Is (script_told loads.files reads.left word) script
  pub asked : Asked loads loads_now (script_path word)
  pub beside : is_input word ≡ false → Untouched reads reads_now
  pub read : is_input word ≡ true → length script ≤ 16777216 → IsAtEnd reads_now

-- the script of a word can't be loaded or read
pub record IsNotGot (word : List ℕ) (loads loads_now : Loads) (reads reads_now : Reads) : Type 0 where
  pub asked : Asked loads loads_now (script_path word)
  pub fault : ScriptFails word loads loads_now reads reads_now

-- the script of a word was run in a new world of these services
pub record IsRun (setups : List Setup) (word : List ℕ) (before now : Outside) (a : Answer) : Type 0 where
  pub script : List ℕ
  pub got : IsGot word before.loads now.loads before.reads now.reads script
  pub ended : ScriptEnds (fresh setups) script before.writes now.writes a

-- how that ends, where it may not be read
abbrev pub RunsIn : List Setup → List ℕ → Outside → Outside → Answer → Type 0
RunsIn setups word before now a =
    IsRun setups word before now a
    ⊎ ((IsNotGot word before.loads now.loads before.reads now.reads × Closes before.writes now.writes (nothing 4) unread_line a)
    ⊎ LacksMemory before.writes now.writes a)
