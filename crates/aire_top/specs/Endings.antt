-- How a run of the program ends.
use Rattle.std.specs.Prelude.{◌≡◌, ◌⊎◌, ℕ, ◌≤◌, Bool, true, false, List, [], ◌++◌, length, Option, Some, None, Ok, Err, codes, decimal}
use Rattle.io_edge.specs.Edge.{IsAtEnd, IsFront, ReadFails, Reads, WriteFails, Writes, Wrote}
use Rattle.io_edge.specs.Files.{LoadFails, Loads}
use Rattle.command_ends.specs.Ends.{EndsWith, lacking_line, unread_line, usage_line}
use Rattle.journal_rows.specs.declared.verdict.Verdict.{Verdict}
use Rattle.service_events.specs.State.{Kept}
use Rattle.world_events.specs.Worlds.{World}
use Rattle.world_file.specs.declared.setup.Setup.{Setup}
use Rattle.script_run.specs.Audits.{verdict}
use Rattle.script_run.specs.Plays.{IsRunOf, Played}
use Rattle.script_run.specs.Stops.{AreTold, StopsInLine}
use Rattle.aire_top.specs.Top.{Is, Words, fresh, is_input, script_path, script_told, world_path, world_told}

-- ---- what a run is told by

-- what files, input and output tell, before a run or after it
pub record Outside : Type 0 where
  pub loads : Loads
  pub reads : Reads
  pub writes : Writes

abbrev pub outside : Loads → Reads → Writes → Outside
outside loads reads writes = record { loads = loads; reads = reads; writes = writes }

-- what a run answers
pub record Answer : Type 0 where
  pub status : ℕ
  pub services : List Kept
  pub verdict : Option Verdict

abbrev pub answer : ℕ → List Kept → Option Verdict → Answer
answer status services told = record { status = status; services = services; verdict = told }

-- no services, and no verdict
abbrev pub nothing : ℕ → Answer
nothing status = answer status [] None

-- the services of this world, and the verdict over them
abbrev pub standing : ℕ → World → Answer
standing status world = answer status world.services (Some (verdict world.services))

-- the one where a world stands, and else the other
abbrev pub answer_in : ℕ → Option World → Answer
answer_in status None = nothing status
answer_in status (Some world) = standing status world

-- ---- what is written last

abbrev pub refused_line : ℕ → ℕ → List ℕ
refused_line line number = codes "script refused line " ++ (decimal line ++ (codes " number " ++ (decimal number ++ codes "\n")))

abbrev pub world_line : List ℕ → List ℕ
world_line what = codes "world refused " ++ (what ++ codes "\n")

-- ---- a script that is run in a world

-- 0: all lines are done, and all that they print is written
pub record AllDone (start : World) (script : List ℕ) (before now : Writes) (a : Answer) : Type 0 where
  pub p : Played
  pub run : IsRunOf start script p
  pub not_refused : p.refused ≡ None
  pub answered : a ≡ standing 0 p.world
  pub wrote : Wrote before now (p.said).text
  pub told : AreTold start script p.events

-- 3: a line is refused; those before it are done, all that they print is written, and then the refusal
pub record LineRefused (start : World) (script : List ℕ) (before now : Writes) (a : Answer) : Type 0 where
  pub p : Played
  pub run : IsRunOf start script p
  pub line : ℕ
  pub number : ℕ
  pub at_line : p.refused ≡ Some (line, number)
  pub answered : a ≡ standing 3 p.world
  pub ends : EndsWith before now (p.said).text (refused_line line number)
  pub told : AreTold start script p.events

-- 5: a write failed in a line; those before it are done and written, and nothing is done behind it
pub record CutShort (start : World) (script : List ℕ) (before now : Writes) (a : Answer) : Type 0 where
  pub world : World
  pub answered : a ≡ standing 5 world
  pub in_line : StopsInLine start script world before now
  pub fault : WriteFails before now
  pub told : AreTold start script in_line.whole.events

-- 6: memory is wanting; some of what the script prints is written, from its beginning, and then that
pub record LacksInScript (start : World) (script : List ℕ) (before now : Writes) (a : Answer) : Type 0 where
  pub p : Played
  pub run : IsRunOf start script p
  pub answered : a ≡ nothing 6
  pub front : List ℕ
  pub of_script : IsFront front (p.said).text
  pub ends : EndsWith before now front lacking_line

-- a script ends in one of these four ways
abbrev pub ScriptEnds : World → List ℕ → Writes → Writes → Answer → Type 0
ScriptEnds start script before now a =
    AllDone start script before now a
    ⊎ (LineRefused start script before now a
    ⊎ (CutShort start script before now a
    ⊎ LacksInScript start script before now a))

-- ---- a run of the program

-- these paths were asked for, in this order, and no other
abbrev pub Asked : Loads → Loads → List (List ℕ) → Type 0
Asked before now paths = now.asked ≡ before.asked ++ paths

-- the input is as it was
abbrev pub Untouched : Reads → Reads → Type 0
Untouched before now = now ≡ before

-- the first where the script is the input, and the second where it is a file
abbrev pub ByScript : Bool → Type 0 → Type 0 → Type 0
ByScript true input file = input
ByScript false input file = file

-- a load of the script's file failed, and the input is as it was; or a read of the input did, where that is the script
abbrev pub ScriptFails : List ℕ → Loads → Loads → Reads → Reads → Type 0
ScriptFails word loads loads_now reads reads_now =
    ByScript (is_input word) (ReadFails reads reads_now) (LoadFails loads loads_now × Untouched reads reads_now)

-- 0, 3, 5 and 6: The script of the second word was run in a new world of the first. Where the outside tells its bytes,
-- these are the world and the script of these words; else they are some. The world was loaded before the script. An
-- input is read to its end, if it isn't longer than a script may be, and is as it was beside a file.
pub record HasRun (words : Words) (before now : Outside) (a : Answer) : Type 0 where
  pub fit : words.misfit ≡ None
  pub setups : List Setup
  pub world : Is (world_told before.loads.files words.world) (Ok setups)
  pub script : List ℕ
  pub of_word : Is (script_told before.loads.files before.reads.left words.script) script
  pub asked : Asked before.loads now.loads (world_path words.world ++ script_path words.script)
  pub beside : is_input words.script ≡ false → Untouched before.reads now.reads
  pub read : is_input words.script ≡ true → length script ≤ 16777216 → IsAtEnd now.reads
  pub ended : ScriptEnds (fresh setups) script before.writes now.writes a

-- 2: the words don't fit; nothing was asked for or read
pub record IsMisused (words : Words) (before now : Outside) (a : Answer) : Type 0 where
  pub place : ℕ
  pub at_word : words.misfit ≡ Some place
  pub answered : a ≡ nothing 2
  pub ends : EndsWith before.writes now.writes [] (usage_line place)
  pub asked : Asked before.loads now.loads []
  pub input : Untouched before.reads now.reads

-- 3: the world is refused; it alone was asked for, and nothing was read
pub record HasNoWorld (words : Words) (before now : Outside) (a : Answer) : Type 0 where
  pub fit : words.misfit ≡ None
  pub what : List ℕ
  pub refused : Is (world_told before.loads.files words.world) (Err what)
  pub answered : a ≡ nothing 3
  pub ends : EndsWith before.writes now.writes [] (world_line what)
  pub asked : Asked before.loads now.loads (world_path words.world)
  pub input : Untouched before.reads now.reads

-- the load of the world failed; it alone was asked for, and nothing was read
pub record WorldUnread (words : Words) (before now : Outside) : Type 0 where
  pub asked : Asked before.loads now.loads (world_path words.world)
  pub input : Untouched before.reads now.reads
  pub fault : LoadFails before.loads now.loads

-- the world stands, and the load of the script failed, or a read of the input where that is the script
pub record ScriptUnread (words : Words) (before now : Outside) : Type 0 where
  pub setups : List Setup
  pub world : Is (world_told before.loads.files words.world) (Ok setups)
  pub asked : Asked before.loads now.loads (world_path words.world ++ script_path words.script)
  pub fault : ScriptFails words.script before.loads now.loads before.reads now.reads

-- 4: a file or the input can't be read
pub record IsUnread (words : Words) (before now : Outside) (a : Answer) : Type 0 where
  pub fit : words.misfit ≡ None
  pub answered : a ≡ nothing 4
  pub ends : EndsWith before.writes now.writes [] unread_line
  pub cause : WorldUnread words before now ⊎ ScriptUnread words before now

-- 6: memory is wanting before the script is run
pub record LacksMemory (before now : Writes) (a : Answer) : Type 0 where
  pub answered : a ≡ nothing 6
  pub ends : EndsWith before now [] lacking_line

-- a run ends in one of these five ways
abbrev pub RunEnds : Words → Outside → Outside → Answer → Type 0
RunEnds words before now a =
    HasRun words before now a
    ⊎ (IsMisused words before now a
    ⊎ (HasNoWorld words before now a
    ⊎ (IsUnread words before now a
    ⊎ LacksMemory before.writes now.writes a)))

-- The words fit, world and script are there, no line of the script is refused, and no count rose.
pub record IsGoodRun (words : Words) (before now : Outside) : Type 0 where
  pub fit : words.misfit ≡ None
  pub setups : List Setup
  pub world : world_told before.loads.files words.world ≡ Some (Some (Ok setups))
  pub script : List ℕ
  pub of_word : script_told before.loads.files before.reads.left words.script ≡ Some (Some script)
  pub p : Played
  pub run : IsRunOf (fresh setups) script p
  pub lines : p.refused ≡ None
  pub loads : ¬ (LoadFails before.loads now.loads)
  pub reads : ¬ (ReadFails before.reads now.reads)
  pub writes : ¬ (WriteFails before.writes now.writes)
