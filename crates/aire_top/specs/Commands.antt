-- How the program ends, by the command that its first word asks for.
use Rattle.std.specs.Prelude.{◌≡◌, ◌⊎◌, ℕ, Bool, false, List, [], ◌∷◌, codes, if◌then◌else◌}
use Rattle.lang_base.specs.Texts.{same_text}
use Rattle.audit_command.specs.Audits.{AuditEnds, IsGood}
use Rattle.order_command.specs.Orders.{IsGoodOrder, OrderEnds}
use Rattle.aire_top.specs.Ended.{Ending, Faults, plain}
use Rattle.aire_top.specs.Endings.{Answer, IsGoodRun, Outside, RunEnds, Untouched, nothing}
use Rattle.aire_top.specs.Making.{IsGoodMake, MakeEnds}
use Rattle.aire_top.specs.Serving.{IsGoodServe, ServingEnds}
use Rattle.aire_top.specs.Top.{words_of}
use Rattle.aire_top.specs.declared.words.Command.{Command}
use Rattle.aire_top.specs.declared.words.Command.TheVariants.{Run, Make, Audit, Order, Serve}

-- a word that names no other command is one of a run, or doesn't fit
abbrev pub command_named : List ℕ → Command
command_named word =
    if same_text word (codes "audit") then Audit
    else (if same_text word (codes "order") then Order
    else (if same_text word (codes "serve") then Serve else (if same_text word (codes "make") then Make else Run)))

abbrev pub command_of : List (List ℕ) → Command
command_of [] = Run
command_of (word ∷ words) = command_named word

-- a dump is judged: there are no services and no verdict, and the input is as it was
pub record HasAudited (words : List (List ℕ)) (before now : Outside) (a : Answer) : Type 0 where
  pub status : ℕ
  pub answered : a ≡ nothing status
  pub ends : AuditEnds words before.loads now.loads before.writes now.writes status
  pub input : Untouched before.reads now.reads

-- an order of a dump's roots is looked for: likewise
pub record HasOrdered (words : List (List ℕ)) (before now : Outside) (a : Answer) : Type 0 where
  pub status : ℕ
  pub answered : a ≡ nothing status
  pub ends : OrderEnds words before.loads now.loads before.writes now.writes status
  pub input : Untouched before.reads now.reads

-- ---- how they end

-- what each command answers that serves nobody
abbrev pub AnswersBy : Command → List (List ℕ) → Outside → Outside → Answer → Type 0
AnswersBy Run words before now a = RunEnds (words_of words) before now a
AnswersBy Make words before now a = MakeEnds words before now a
AnswersBy Audit words before now a = HasAudited words before now a
AnswersBy Order words before now a = HasOrdered words before now a
AnswersBy Serve words before now a = ⊥

-- it answers that, without receipts, and nobody asked to stop
abbrev pub EndsPlainly : Command → List (List ℕ) → Outside → Outside → Ending → Type 0
EndsPlainly command words before now e = (a : Answer) × (e ≡ plain a) × AnswersBy command words before now a

-- each command
abbrev pub EndsBy : Command → List (List ℕ) → Faults → Faults → Outside → Outside → Ending → Type 0
EndsBy Run words earlier later before now e = EndsPlainly Run words before now e
EndsBy Make words earlier later before now e = EndsPlainly Make words before now e
EndsBy Audit words earlier later before now e = EndsPlainly Audit words before now e
EndsBy Order words earlier later before now e = EndsPlainly Order words before now e
EndsBy Serve words earlier later before now e = ServingEnds words earlier later before now e

abbrev pub Ends : List (List ℕ) → Faults → Faults → Outside → Outside → Ending → Type 0
Ends words earlier later before now e = EndsBy (command_of words) words earlier later before now e

-- ---- when they end well

-- the words fit, all that they name is there and can be read, nothing of it is refused, and no count rose
abbrev pub IsGoodPlain : Command → List (List ℕ) → Outside → Outside → Type 0
IsGoodPlain Run words before now = IsGoodRun (words_of words) before now
IsGoodPlain Make words before now = IsGoodMake words before now
IsGoodPlain Audit words before now = IsGood words before.loads now.loads before.writes now.writes
IsGoodPlain Order words before now = IsGoodOrder words before.loads now.loads before.writes now.writes
IsGoodPlain Serve words before now = ⊥

abbrev pub IsGoodBy : Command → List (List ℕ) → Faults → Faults → Outside → Outside → Type 0
IsGoodBy Run words earlier later before now = IsGoodPlain Run words before now
IsGoodBy Make words earlier later before now = IsGoodPlain Make words before now
IsGoodBy Audit words earlier later before now = IsGoodPlain Audit words before now
IsGoodBy Order words earlier later before now = IsGoodPlain Order words before now
IsGoodBy Serve words earlier later before now = IsGoodServe words earlier later before now

abbrev pub IsGoodCommand : List (List ℕ) → Faults → Faults → Outside → Outside → Type 0
IsGoodCommand words earlier later before now = IsGoodBy (command_of words) words earlier later before now

-- all is done, or memory is wanting
abbrev pub IsDone : ℕ → Type 0
IsDone status = (status ≡ 0) ⊎ (status ≡ 6)

-- or, where services were served, a receipt isn't that of the journal
abbrev pub IsDoneBy : Command → ℕ → Type 0
IsDoneBy Run status = IsDone status
IsDoneBy Make status = IsDone status
IsDoneBy Audit status = IsDone status
IsDoneBy Order status = IsDone status
IsDoneBy Serve status = IsDone status ⊎ (status ≡ 9)

abbrev pub IsDoneAs : List (List ℕ) → ℕ → Type 0
IsDoneAs words status = IsDoneBy (command_of words) status

-- ---- without threads

-- the first word asks for a script that is made
abbrev pub is_make : List (List ℕ) → Bool
is_make [] = false
is_make (word ∷ words) = same_text word (codes "make")

-- of the commands that start no thread, the one that the first word asks for; where it asks for none of them, the words don't fit
abbrev pub offline_command : List (List ℕ) → Command
offline_command words = if is_make words then Make else Run

abbrev pub EndsOffline : List (List ℕ) → Outside → Outside → Ending → Type 0
EndsOffline words before now e = EndsPlainly (offline_command words) words before now e

abbrev pub IsGoodOffline : List (List ℕ) → Outside → Outside → Type 0
IsGoodOffline words before now = IsGoodPlain (offline_command words) words before now
