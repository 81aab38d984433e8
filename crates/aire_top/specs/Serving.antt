-- How `serve WORLD` ends, from its words on.
use Rattle.std.specs.Prelude.{◌≡◌, ◌⊎◌, ℕ, Bool, List, [], ◌∷◌, Option, Some, None, Ok, codes}
use Rattle.lang_base.specs.Texts.{same_text}
use Rattle.io_edge.specs.Edge.{Rose, WriteFails}
use Rattle.io_edge.specs.Files.{LoadFails}
use Rattle.command_ends.specs.Ends.{EndsWith, unread_line}
use Rattle.command_ends.specs.Words.{is_file_word, misfit_from}
use Rattle.world_file.specs.declared.setup.Setup.{Setup}
use Rattle.aire_top.specs.Ended.{Ending, Faults, plain}
use Rattle.aire_top.specs.Endings.{Answer, Asked, HasNoWorld, IsMisused, LacksMemory, Outside, Untouched, WorldUnread, nothing}
use Rattle.aire_top.specs.Serves.{ServeEnds}
use Rattle.aire_top.specs.Top.{Is, Words, world_path, world_told, world_word}

-- ---- the words

-- the command and a world
abbrev pub serve_row : List (List ℕ → Bool)
serve_row = (λ word. same_text word (codes "serve")) ∷ is_file_word ∷ []

-- the index of the first word that doesn't fit, or the number of words where one is missing
abbrev pub serve_misfit : List (List ℕ) → Option ℕ
serve_misfit words = misfit_from 0 serve_row words

-- as loading a world is told of them
abbrev pub serve_words : List (List ℕ) → Words
serve_words words = record { misfit = serve_misfit words; world = world_word words; script = [] }

-- ---- how it ends

-- The services of the world that the word names were served. It alone was loaded, and the input is as it was.
pub record WorldServed (words : List (List ℕ)) (earlier later : Faults) (before now : Outside) (e : Ending) : Type 0 where
  pub fit : serve_misfit words ≡ None
  pub setups : List Setup
  pub world : Is (world_told before.loads.files (world_word words)) (Ok setups)
  pub asked : Asked before.loads now.loads (world_path (world_word words))
  pub input : Untouched before.reads now.reads
  pub ended : ServeEnds setups earlier later before.writes now.writes e

-- 4: the world can't be loaded
pub record HasUnreadWorld (words : Words) (before now : Outside) (a : Answer) : Type 0 where
  pub fit : words.misfit ≡ None
  pub answered : a ≡ nothing 4
  pub ends : EndsWith before.writes now.writes [] unread_line
  pub cause : WorldUnread words before now

-- there is no world to be served: the words don't fit, the world is refused or can't be loaded, or memory is wanting
abbrev pub LoadEnds : Words → Outside → Outside → Answer → Type 0
LoadEnds words before now a =
    IsMisused words before now a
    ⊎ (HasNoWorld words before now a
    ⊎ (HasUnreadWorld words before now a
    ⊎ LacksMemory before.writes now.writes a))

abbrev pub NotServed : List (List ℕ) → Outside → Outside → Ending → Type 0
NotServed words before now e = (a : Answer) × (e ≡ plain a) × LoadEnds (serve_words words) before now a

abbrev pub ServingEnds : List (List ℕ) → Faults → Faults → Outside → Outside → Ending → Type 0
ServingEnds words earlier later before now e = WorldServed words earlier later before now e ⊎ NotServed words before now e

-- The words fit, the world is there and isn't refused, and no count rose.
pub record IsGoodServe (words : List (List ℕ)) (earlier later : Faults) (before now : Outside) : Type 0 where
  pub fit : serve_misfit words ≡ None
  pub setups : List Setup
  pub world : world_told before.loads.files (world_word words) ≡ Some (Some (Ok setups))
  pub loads : ¬ (LoadFails before.loads now.loads)
  pub doors : ¬ (Rose earlier.doors later.doors)
  pub starts : ¬ (Rose earlier.starts later.starts)
  pub writes : ¬ (WriteFails before.writes now.writes)
