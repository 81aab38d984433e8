-- How a run of a script that is made of a number ends: by which words, with which status, and what is written.
use Rattle.std.specs.Prelude.{◌≡◌, ◌⊎◌, ℕ, Bool, ◌&&◌, List, [], ◌∷◌, ◌++◌, length, Option, Some, None, option_and_then, if◌then◌else◌, is_some, codes, decimal, nat_le}
use Rattle.std.specs.List.{sum_by}
use Rattle.lang_base.specs.Texts.{same_text}
use Rattle.io_edge.specs.Edge.{WriteFails, Writes}
use Rattle.request_names.specs.Numbers.{number_of}
use Rattle.command_ends.specs.Ends.{EndsWith, StatusOf, usage_line}
use Rattle.command_ends.specs.Words.{misfit_from}
use Rattle.service_events.specs.State.{Kept}
use Rattle.world_events.specs.Worlds.{World}
use Rattle.script_make.specs.Making.{made_script}
use Rattle.script_run.specs.Counting.{capped, counted}
use Rattle.script_run.specs.Plays.{IsRunOf, Played, audit_text}
use Rattle.script_run.specs.declared.counts.Counts.{Counts}
use Rattle.world_file.specs.Standard.{built_in}
use Rattle.world_file.specs.declared.setup.Setup.{Setup}
use Rattle.aire_top.specs.Endings.{Answer, LacksMemory, Outside, Untouched, nothing, refused_line, standing}
use Rattle.aire_top.specs.Top.{fresh}

-- ---- the words

-- how many requests a word asks for: from 1 to 50,000
abbrev pub within : ℕ → Option ℕ
within n = if nat_le 1 n && nat_le n 50000 then Some n else None

abbrev pub count_of : List ℕ → Option ℕ
count_of word = option_and_then within (number_of word)

-- the words: the command, the seed, and how many requests
abbrev pub count_row : List (List ℕ → Bool)
count_row = (λ word. is_some (count_of word)) ∷ []

abbrev pub make_row : List (List ℕ → Bool)
make_row = (λ word. same_text word (codes "make")) ∷ (λ word. is_some (number_of word)) ∷ count_row

-- the index of the first word that doesn't fit, or the number of words where one is missing
abbrev pub make_misfit : List (List ℕ) → Option ℕ
make_misfit words = misfit_from 0 make_row words

-- this word alone asks for so many requests
abbrev pub HasCount : List (List ℕ) → ℕ → Type 0
HasCount (word ∷ []) n = count_of word ≡ Some n
HasCount words n = ⊥

-- the words behind the command ask for so many requests of this seed
abbrev pub HasSeed : List (List ℕ) → ℕ → ℕ → Type 0
HasSeed (command ∷ (word ∷ more)) seed n = (number_of word ≡ Some seed) × HasCount more n
HasSeed words seed n = ⊥

-- these words fit, and ask for that
abbrev pub AskFor : List (List ℕ) → ℕ → ℕ → Type 0
AskFor words seed n = (make_misfit words ≡ None) × HasSeed words seed n

-- ---- what is written

-- how many entries services have
abbrev pub entries_of : List Kept → ℕ
entries_of services = sum_by (λ (s : Kept). length s.entries) services

-- what was made
abbrev pub counted_text : ℕ → ℕ → ℕ → List ℕ
counted_text n entries cancelled = codes "made " ++ (decimal n ++ (codes " entries " ++ (decimal entries ++ (codes " cancelled " ++ decimal cancelled))))

-- what its settling came to
abbrev pub settled_text : Counts → List ℕ
settled_text counts = codes " settled " ++ (decimal counts.rounds ++ (codes " " ++ (decimal counts.runs ++ (codes " " ++ (decimal counts.posts ++ codes " ")))))

abbrev pub numbers_text : ℕ → ℕ → Counts → List ℕ
numbers_text n entries counts = counted_text n entries counts.cancelled ++ settled_text counts

-- `made N entries E cancelled C settled R X P VERDICT`, where entries are counted as far as 64 bits do
abbrev pub made_line : ℕ → Counts → List Kept → List ℕ
made_line n counts services = numbers_text n (capped (entries_of services)) counts ++ audit_text services

-- what a played script counts
abbrev pub counts_of : Played → Counts
counts_of p = counted (p.said).counts

-- ---- how it ends

abbrev pub Prints : Writes → Writes → List ℕ → World → Answer → Type 0
Prints before now line world a = (status : ℕ) × (a ≡ standing status world) × StatusOf before now line status

-- 0 and 5: each line of a script of so many requests was done, and what it came to is printed in one line; nothing else is written
pub record HasMade (start : World) (script : List ℕ) (n : ℕ) (before now : Writes) (a : Answer) : Type 0 where
  pub p : Played
  pub run : IsRunOf start script p
  pub not_refused : p.refused ≡ None
  pub prints : Prints before now (made_line n (counts_of p) (p.world).services) p.world a

-- a line of it is refused, and those before it are done; no script that is made ends so
pub record MadeRefused (start : World) (script : List ℕ) (before now : Writes) (a : Answer) : Type 0 where
  pub p : Played
  pub run : IsRunOf start script p
  pub line : ℕ
  pub number : ℕ
  pub at_line : p.refused ≡ Some (line, number)
  pub answered : a ≡ standing 3 p.world
  pub ends : EndsWith before now [] (refused_line line number)

-- any script that is run without its output, and told of as one of so many requests
abbrev pub ScriptTold : World → List ℕ → ℕ → Writes → Writes → Answer → Type 0
ScriptTold start script n before now a =
    HasMade start script n before now a ⊎ (MadeRefused start script before now a ⊎ LacksMemory before now a)

-- this is a new world of the services that come with the program under `@posts`
abbrev pub IsPostsWorld : World → Type 0
IsPostsWorld world = (setups : List Setup) × (built_in (codes "@posts") ≡ Some setups) × (world ≡ fresh setups)

-- the script that this seed makes of so many requests is run in such a world, to its end
abbrev pub SeedEnds : ℕ → ℕ → Writes → Writes → Answer → Type 0
SeedEnds seed n before now a =
    ((world : World) × IsPostsWorld world × HasMade world (made_script seed n) n before now a) ⊎ LacksMemory before now a

-- 2: the words don't fit
pub record IsMisusedMake (words : List (List ℕ)) (before now : Writes) (a : Answer) : Type 0 where
  pub place : ℕ
  pub at_word : make_misfit words ≡ Some place
  pub answered : a ≡ nothing 2
  pub ends : EndsWith before now [] (usage_line place)

-- the words ask for a script, which is made and run; or they don't fit
abbrev pub WordsEnd : List (List ℕ) → Writes → Writes → Answer → Type 0
WordsEnd words before now a =
    ((seed : ℕ) × (n : ℕ) × AskFor words seed n × SeedEnds seed n before now a)
    ⊎ (IsMisusedMake words before now a ⊎ LacksMemory before now a)

-- no file was asked for, and the input is as it was
pub record MakeEnds (words : List (List ℕ)) (before now : Outside) (a : Answer) : Type 0 where
  pub ended : WordsEnd words before.writes now.writes a
  pub files : now.loads ≡ before.loads
  pub input : Untouched before.reads now.reads

-- The words fit, and the output's count didn't rise.
pub record IsGoodMake (words : List (List ℕ)) (before now : Outside) : Type 0 where
  pub fit : make_misfit words ≡ None
  pub writes : ¬ (WriteFails before.writes now.writes)
