-- How a search for one order of a dump's roots ends: by which words, on which dump, with which status, and what is written.
use Rattle.std.specs.Prelude.{◌≡◌, ◌⊎◌, ℕ, Bool, List, [], ◌∷◌, ◌++◌, Option, Some, None, Ok, Err, codes, decimal, length}
use Rattle.std.specs.List.{flat_map}
use Rattle.lang_base.specs.Texts.{same_text}
use Rattle.lang_core.specs.declared.ids.RequestId.{RequestId}
use Rattle.io_edge.specs.Edge.{WriteFails, Writes}
use Rattle.io_edge.specs.Files.{LoadFails, Loads}
use Rattle.execution.specs.Together.{IsLegalTogether}
use Rattle.command_ends.specs.Ends.{EndsWith, LacksMemory, StatusOf, unread_line, usage_line}
use Rattle.command_ends.specs.Words.{is_file_word, misfit_from}
use Rattle.dump_tables.specs.declared.dump.DumpService.{DumpService}
use Rattle.dump_reader.specs.declared.refused.DumpRefused.{DumpRefused}
use Rattle.dump_audit.specs.Histories.{histories_of}
use Rattle.dump_audit.specs.Judging.{judged}
use Rattle.dump_audit.specs.declared.judged.Judged.TheVariants.{Legal}
use Rattle.audit_command.specs.Audits.{Asked, Is, dump_told, dump_word, judged_line, refused_line}
use Rattle.one_order.specs.Certificates.{AreFirst}
use Rattle.one_order.specs.Cycles.{ShowsCycle}
use Rattle.one_world.specs.Certificates.{Passes}
use Rattle.one_world.specs.OneWorld.{RunsAsOne}
use Rattle.one_world.specs.Searches.{logs_of}

-- ---- the words

-- the words: the command, and a dump
abbrev pub row : List (List ℕ → Bool)
row = (λ word. same_text word (codes "order")) ∷ is_file_word ∷ []

-- the index of the first word that doesn't fit, or the number of words where one is missing
abbrev pub misfit : List (List ℕ) → Option ℕ
misfit words = misfit_from 0 row words

-- ---- what is written

abbrev pub id_line : RequestId → List ℕ
id_line i = i.service ++ (codes "/" ++ (decimal i.number ++ codes "\n"))

-- `order N`, and the N roots, one on a line
abbrev pub order_lines : List RequestId → List ℕ
order_lines order = codes "order " ++ (decimal (length order) ++ (codes "\n" ++ flat_map id_line order))

-- `cycle S/I T/J`
abbrev pub cycle_line : RequestId → RequestId → List ℕ
cycle_line first second =
    codes "cycle " ++ (first.service ++ (codes "/" ++ (decimal first.number ++ (codes " " ++ (second.service ++ (codes "/" ++ (decimal second.number ++ codes "\n")))))))

-- the roots in an order in which the world ran as one program, or could have: always the first by service that comes next in all logs
pub record TellsOrder (services : List DumpService) (text : List ℕ) : Type 0 where
  pub legal : IsLegalTogether (histories_of services)
  pub order : List RequestId
  pub passes : Passes (histories_of services) order
  pub first : AreFirst (histories_of services) (logs_of (histories_of services)) order
  pub runs : RunsAsOne (histories_of services) order
  pub is : text ≡ order_lines order

-- two entries where there is no such order, which show it
pub record TellsCycle (services : List DumpService) (text : List ℕ) : Type 0 where
  pub legal : IsLegalTogether (histories_of services)
  pub never : (order : List RequestId) → ¬ (Passes (histories_of services) order)
  pub first : RequestId
  pub second : RequestId
  pub back : List RequestId
  pub shown : ShowsCycle (histories_of services) first second back
  pub is : text ≡ cycle_line first second

-- what an audit tells of a dump that isn't legal
pub record TellsFault (services : List DumpService) (text : List ℕ) : Type 0 where
  pub ill : ¬ (judged services ≡ Legal)
  pub is : text ≡ judged_line (judged services)

abbrev pub Tells : List DumpService → List ℕ → Type 0
Tells services text = TellsOrder services text ⊎ (TellsCycle services text ⊎ TellsFault services text)

-- ---- the command

-- 0 and 5: the dump is read, and it is told whether its roots have one order
pub record HasTold (words : List (List ℕ)) (files files_now : Loads) (out out_now : Writes) (status : ℕ) : Type 0 where
  pub fit : misfit words ≡ None
  pub services : List DumpService
  pub dump : Is (dump_told files.files (dump_word words)) (Ok services)
  pub asked : Asked files files_now (dump_word words)
  pub text : List ℕ
  pub tells : Tells services text
  pub prints : StatusOf out out_now text status

-- 3: the dump is refused
pub record HasNoDump (words : List (List ℕ)) (files files_now : Loads) (out out_now : Writes) (status : ℕ) : Type 0 where
  pub fit : misfit words ≡ None
  pub why : DumpRefused
  pub refused : Is (dump_told files.files (dump_word words)) (Err why)
  pub asked : Asked files files_now (dump_word words)
  pub answered : status ≡ 3
  pub ends : EndsWith out out_now [] (refused_line why)

-- 4: the file can't be loaded
pub record IsUnread (words : List (List ℕ)) (files files_now : Loads) (out out_now : Writes) (status : ℕ) : Type 0 where
  pub fit : misfit words ≡ None
  pub fault : LoadFails files files_now
  pub asked : Asked files files_now (dump_word words)
  pub answered : status ≡ 4
  pub ends : EndsWith out out_now [] unread_line

-- 2: the words don't fit; nothing was asked for
pub record IsMisused (words : List (List ℕ)) (files files_now : Loads) (out out_now : Writes) (status : ℕ) : Type 0 where
  pub place : ℕ
  pub at_word : misfit words ≡ Some place
  pub asked : files_now.asked ≡ files.asked
  pub answered : status ≡ 2
  pub ends : EndsWith out out_now [] (usage_line place)

-- it ends in one of these four ways, or memory is wanting: 6
abbrev pub OrderEnds : List (List ℕ) → Loads → Loads → Writes → Writes → ℕ → Type 0
OrderEnds words files files_now out out_now status =
    HasTold words files files_now out out_now status
    ⊎ (HasNoDump words files files_now out out_now status
    ⊎ (IsUnread words files files_now out out_now status
    ⊎ (IsMisused words files files_now out out_now status ⊎ LacksMemory out out_now status)))

-- the words fit, the dump is there and can be read, and no count rose
pub record IsGoodOrder (words : List (List ℕ)) (files files_now : Loads) (out out_now : Writes) : Type 0 where
  pub fit : misfit words ≡ None
  pub services : List DumpService
  pub dump : dump_told files.files (dump_word words) ≡ Some (Some (Ok services))
  pub loads : ¬ (LoadFails files files_now)
  pub writes : ¬ (WriteFails out out_now)
