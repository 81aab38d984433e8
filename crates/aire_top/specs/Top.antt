-- What the command words mean and name.
use Rattle.std.specs.Prelude.{ℕ, Bool, List, [], ◌∷◌, length, Option, Some, None, option_map, Result, Ok, Err, if◌then◌else◌, nat_lt, codes}
use Rattle.lang_base.specs.Texts.{same_text}
use Rattle.command_ends.specs.Words.{is_file_word, misfit_from}
pub use Rattle.audit_command.specs.Audits.{Is}
pub use Rattle.aire_top.specs.Fresh.{fresh, fresh_service}
use Rattle.world_file.specs.declared.setup.Setup.{Setup}
use Rattle.world_file.specs.declared.refused.WorldRefused.{WorldRefused}
use Rattle.world_file.specs.Standard.{built_in}
use Rattle.world_file.specs.Numbers.{refusal_text}
use Rattle.world_file.specs.Worlds.{world_of}

-- the word that means the input where a script is named
abbrev pub is_input : List ℕ → Bool
is_input word = same_text word (codes "-")

-- the only row of words: the command, a world and a script
abbrev pub row : List (List ℕ → Bool)
row = (λ word. same_text word (codes "run")) ∷ is_file_word ∷ is_file_word ∷ []

-- the index of the first word that doesn't fit, or the number of words where one is missing
abbrev pub misfit : List (List ℕ) → Option ℕ
misfit words = misfit_from 0 row words

abbrev pub world_word : List (List ℕ) → List ℕ
world_word [] = []
world_word (command ∷ []) = []
world_word (command ∷ world ∷ more) = world

abbrev pub script_word : List (List ℕ) → List ℕ
script_word [] = []
script_word (command ∷ []) = []
script_word (command ∷ world ∷ []) = []
script_word (command ∷ world ∷ script ∷ more) = script

-- the words as a run is told of them: the first that doesn't fit, and those for the world and the script
pub record Words : Type 0 where
  pub misfit : Option ℕ
  pub world : List ℕ
  pub script : List ℕ

abbrev pub words_of : List (List ℕ) → Words
words_of words = record { misfit = misfit words; world = world_word words; script = script_word words }

-- words that fit
abbrev pub fitting : List ℕ → List ℕ → Words
fitting world script = record { misfit = None; world = world; script = script }

-- ---- what the words name

-- What the outside tells of something that is loaded: None where it doesn't tell, Some None where there is none.
abbrev pub Loaded : Type 0 → Type 0
Loaded X = Option (Option X)

abbrev pub file_told : Option (List ℕ → Option (List ℕ)) → List ℕ → Loaded (List ℕ)
file_told files path = option_map (λ at. at path) files

-- a world, or the number of its refusal and what that is about
abbrev pub WorldOrRefusal : Type 0
WorldOrRefusal = Result (List Setup) (List ℕ)

abbrev pub world_from : Result (List Setup) WorldRefused → WorldOrRefusal
world_from (Ok setups) = Ok setups
world_from (Err why) = Err (refusal_text why)

-- the world of a file of at most 4,194,304 bytes; a longer one is refused with number 8
abbrev pub world_within : List ℕ → WorldOrRefusal
world_within bytes = if nat_lt 4194304 (length bytes) then Err (codes "8") else world_from (world_of bytes)

-- the world that a file holds
abbrev pub file_world : Option (List ℕ → Option (List ℕ)) → List ℕ → Loaded WorldOrRefusal
file_world files path = option_map (option_map world_within) (file_told files path)

abbrev pub world_or : Option (List Setup) → Loaded WorldOrRefusal → Loaded WorldOrRefusal
world_or (Some setups) file = Some (Some (Ok setups))
world_or None file = file

-- the world of a word: one that comes with the program, or that of the file of this path
abbrev pub world_told : Option (List ℕ → Option (List ℕ)) → List ℕ → Loaded WorldOrRefusal
world_told files word = world_or (built_in word) (file_world files word)

-- the script of a word: the input, or the file of this path
abbrev pub script_told : Option (List ℕ → Option (List ℕ)) → Option (List ℕ) → List ℕ → Loaded (List ℕ)
script_told files input word = if is_input word then option_map Some input else file_told files word

-- ---- what is asked for

abbrev pub path_unless : Option (List Setup) → List ℕ → List (List ℕ)
path_unless (Some setups) word = []
path_unless None word = word ∷ []

-- the path of a world's file: the word, unless a world of that name comes with the program
abbrev pub world_path : List ℕ → List (List ℕ)
world_path word = path_unless (built_in word) word

-- the path of a script's file: the word, unless that means the input
abbrev pub script_path : List ℕ → List (List ℕ)
script_path word = if is_input word then [] else word ∷ []
