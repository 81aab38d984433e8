-- How an audit of a dump ends: by which words, on which dump, with which status, and what is written.
use Rattle.std.specs.Prelude.{◌≡◌, ◌⊎◌, ℕ, Bool, false, not, ◌&&◌, List, [], ◌∷◌, ◌++◌, Option, Some, None, option_map, Result, Ok, Err, codes, decimal, nat_eq, nat_le}
use Rattle.std.specs.Option.{ForSome}
use Rattle.lang_base.specs.Texts.{same_text}
use Rattle.io_edge.specs.Edge.{WriteFails, Writes}
use Rattle.io_edge.specs.Files.{LoadFails, Loads}
use Rattle.command_ends.specs.Ends.{EndsWith, LacksMemory, StatusOf, unread_line, usage_line}
use Rattle.command_ends.specs.Words.{is_file_word, misfit_from}
use Rattle.request_names.specs.Numbers.{number_of}
use Rattle.dump_tables.specs.declared.dump.DumpService.{DumpService}
use Rattle.dump_reader.specs.Reading.{read_of}
use Rattle.dump_reader.specs.Refusals.{line_refused, refusal_number}
use Rattle.dump_reader.specs.declared.refused.DumpRefused.{DumpRefused}
use Rattle.dump_audit.specs.Judging.{judged}
use Rattle.dump_audit.specs.declared.judged.Fault.{Fault}
use Rattle.dump_audit.specs.declared.judged.Fault.TheVariants as fault
use Rattle.dump_audit.specs.declared.judged.Judged.{Judged}
use Rattle.dump_audit.specs.declared.judged.Judged.TheVariants.{Legal, Differs}

-- ---- the words

-- from 1 to 64 workers
abbrev pub is_count : Option ℕ → Bool
is_count None = false
is_count (Some n) = not (nat_eq n 0) && nat_le n 64

-- the words: the command, a dump, and how many workers
abbrev pub row : List (List ℕ → Bool)
row = (λ word. same_text word (codes "audit")) ∷ is_file_word ∷ (λ word. is_count (number_of word)) ∷ []

-- the index of the first word that doesn't fit, or the number of words where one is missing
abbrev pub misfit : List (List ℕ) → Option ℕ
misfit words = misfit_from 0 row words

abbrev pub dump_word : List (List ℕ) → List ℕ
dump_word [] = []
dump_word (command ∷ []) = []
dump_word (command ∷ dump ∷ more) = dump

-- ---- what is read

-- what the outside tells is this, where it tells
abbrev pub Is : {X : Type 0} → Option (Option X) → X → Type 0
Is told x = ForSome told (λ there. there ≡ Some x)

-- what the file of a path says as a dump, or why it is refused; None where the outside tells no bytes, Some None where there
-- is no such file
abbrev pub dump_told : Option (List ℕ → Option (List ℕ)) → List ℕ → Option (Option (Result (List DumpService) DumpRefused))
dump_told files path = option_map (λ at. option_map read_of (at path)) files

-- ---- what is written

abbrev pub fault_word : Fault → List ℕ
fault_word fault.Calls = codes "calls"
fault_word fault.Reply = codes "reply"
fault_word fault.Rows = codes "rows"
fault_word fault.Answer = codes "answer"
fault_word fault.Stray = codes "stray"

-- `legal`, or `differs S/ID WHAT`
abbrev pub judged_line : Judged → List ℕ
judged_line Legal = codes "legal\n"
judged_line (Differs service id what) = codes "differs " ++ (service ++ (codes "/" ++ (decimal id ++ (codes " " ++ (fault_word what ++ codes "\n")))))

abbrev pub refused_line : DumpRefused → List ℕ
refused_line why = codes "dump refused line " ++ (decimal (line_refused why) ++ (codes " number " ++ (decimal (refusal_number why) ++ codes "\n")))

-- ---- an audit

-- this file alone was asked for
abbrev pub Asked : Loads → Loads → List ℕ → Type 0
Asked before now path = now.asked ≡ before.asked ++ path ∷ []

-- 0 and 5: the dump is read, and what it is found to be is printed. Where the outside tells bytes, it is that of the file.
pub record HasJudged (words : List (List ℕ)) (files files_now : Loads) (out out_now : Writes) (status : ℕ) : Type 0 where
  pub fit : misfit words ≡ None
  pub services : List DumpService
  pub dump : Is (dump_told files.files (dump_word words)) (Ok services)
  pub asked : Asked files files_now (dump_word words)
  pub prints : StatusOf out out_now (judged_line (judged services)) status

-- 3: the dump is refused
pub record HasNoDump (words : List (List ℕ)) (files files_now : Loads) (out out_now : Writes) (status : ℕ) : Type 0 where
  pub fit : misfit words ≡ None
  pub why : DumpRefused
  pub refused : Is (dump_told files.files (dump_word words)) (Err why)
  pub asked : Asked files files_now (dump_word words)
  pub answered : status ≡ 3
  pub ends : EndsWith out out_now [] (refused_line why)

-- 4: the file can't be loaded
pub record IsUnread (words : List (List ℕ)) (files files_now : Loads) (out out_now : Writes) (status : ℕ) : Type 0 where
  pub fit : misfit words ≡ None
  pub fault : LoadFails files files_now
  pub asked : Asked files files_now (dump_word words)
  pub answered : status ≡ 4
  pub ends : EndsWith out out_now [] unread_line

-- 2: the words don't fit; nothing was asked for
pub record IsMisused (words : List (List ℕ)) (files files_now : Loads) (out out_now : Writes) (status : ℕ) : Type 0 where
  pub place : ℕ
  pub at_word : misfit words ≡ Some place
  pub asked : files_now.asked ≡ files.asked
  pub answered : status ≡ 2
  pub ends : EndsWith out out_now [] (usage_line place)

-- an audit ends in one of these four ways, or memory is wanting: 6
abbrev pub AuditEnds : List (List ℕ) → Loads → Loads → Writes → Writes → ℕ → Type 0
AuditEnds words files files_now out out_now status =
    HasJudged words files files_now out out_now status
    ⊎ (HasNoDump words files files_now out out_now status
    ⊎ (IsUnread words files files_now out out_now status
    ⊎ (IsMisused words files files_now out out_now status ⊎ LacksMemory out out_now status)))

-- the words fit, the dump is there and can be read, and no count rose
pub record IsGood (words : List (List ℕ)) (files files_now : Loads) (out out_now : Writes) : Type 0 where
  pub fit : misfit words ≡ None
  pub services : List DumpService
  pub dump : dump_told files.files (dump_word words) ≡ Some (Some (Ok services))
  pub loads : ¬ (LoadFails files files_now)
  pub writes : ¬ (WriteFails out out_now)
