-- What follows for a command.
use Rattle.std.proofs.Common.{◌≡◌, ◌∙◌, ℕ, Bool, true, false, cond, List, [], ◌∷◌, Option, Some, None, IfSome, ap, codes, inl, inr, refl, subst, sym}
use Rattle.lang_base.specs.Texts.{same_text}
use Rattle.journal_rows.specs.declared.verdict.Verdict.{Verdict}
use Rattle.service_events.specs.State.{Kept}
use Rattle.node_run.specs.HandedOn.{IsWhole, Receipt}
use Rattle.audit_command.proofs.Ends.{ends_well as audit_well}
use Rattle.order_command.proofs.Ends.{ends_well as order_well}
use Rattle.aire_top.specs.Commands.{AnswersBy, Ends, EndsBy, EndsOffline, EndsPlainly, HasAudited, HasOrdered, IsDone, IsDoneAs, IsDoneBy, IsGoodBy, IsGoodCommand, IsGoodOffline, IsGoodPlain, command_of, is_make, offline_command}
use Rattle.aire_top.specs.Ended.{Ending, Faults, Whose, ending, last_of}
use Rattle.aire_top.specs.Endings.{Answer, Outside}
use Rattle.aire_top.specs.Top.{words_of}
use Rattle.aire_top.specs.declared.words.Command.{Command}
use Rattle.aire_top.specs.declared.words.Command.TheVariants.{Run, Make, Audit, Order, Serve}
use Rattle.aire_top.proofs.MadeWell.{made_well}
use Rattle.aire_top.proofs.Runs.{ends_well, some_none}
use Rattle.aire_top.proofs.ServingLaws.{serving_well, serving_whole}

-- ---- commands that serve nobody

-- it answers as the command does that its words ask for
pub answers_as : (asked command : Command) → asked ≡ command → (words : List (List ℕ)) (before now : Outside) (a : Answer) → AnswersBy command words before now a → AnswersBy asked words before now a
answers_as asked command is words before now a answers = subst (λ (c : Command). AnswersBy c words before now a) (sym is) answers

audited_well : (words : List (List ℕ)) (before now : Outside) (a : Answer) → IsGoodPlain Audit words before now → HasAudited words before now a → IsDone a.status
audited_well words before now a good has = elim (audit_well words before.loads now.loads before.writes now.writes has.status good has.ends) as (λ _. IsDone a.status) [
  | inl well ↦ inl (ap (λ (x : Answer). x.status) has.answered ∙ well)
  | inr lacks ↦ inr (ap (λ (x : Answer). x.status) has.answered ∙ lacks)
]

ordered_well : (words : List (List ℕ)) (before now : Outside) (a : Answer) → IsGoodPlain Order words before now → HasOrdered words before now a → IsDone a.status
ordered_well words before now a good has = elim (order_well words before.loads now.loads before.writes now.writes has.status good has.ends) as (λ _. IsDone a.status) [
  | inl well ↦ inl (ap (λ (x : Answer). x.status) has.answered ∙ well)
  | inr lacks ↦ inr (ap (λ (x : Answer). x.status) has.answered ∙ lacks)
]

answers_well : (command : Command) (words : List (List ℕ)) (before now : Outside) (a : Answer) → IsGoodPlain command words before now → AnswersBy command words before now a → IsDone a.status
answers_well Run words before now a good answers = ends_well (words_of words) before now a good answers
answers_well Make words before now a good answers = made_well words before now a good answers
answers_well Audit words before now a good answers = audited_well words before now a good answers
answers_well Order words before now a good answers = ordered_well words before now a good answers
answers_well Serve words before now a good answers = absurd good

pub plain_well : (command : Command) (words : List (List ℕ)) (before now : Outside) (e : Ending) → IsGoodPlain command words before now → EndsPlainly command words before now e → IsDone e.status
plain_well command words before now e good ends = subst IsDone (sym (ap (λ (x : Ending). x.status) ends.1)) (answers_well command words before now ends.0 good ends.2)

-- ---- each command

-- it ends as the command does that its words ask for
pub ends_as : (asked command : Command) → asked ≡ command → (words : List (List ℕ)) (earlier later : Faults) (before now : Outside) (e : Ending) → EndsBy command words earlier later before now e → EndsBy asked words earlier later before now e
ends_as asked command is words earlier later before now e ends = subst (λ (c : Command). EndsBy c words earlier later before now e) (sym is) ends

well_by : (command : Command) (words : List (List ℕ)) (earlier later : Faults) (before now : Outside) (e : Ending) → IsGoodBy command words earlier later before now → EndsBy command words earlier later before now e → IsDoneBy command e.status
well_by Run words earlier later before now e good ends = plain_well Run words before now e good ends
well_by Make words earlier later before now e good ends = plain_well Make words before now e good ends
well_by Audit words earlier later before now e good ends = plain_well Audit words before now e good ends
well_by Order words earlier later before now e good ends = plain_well Order words before now e good ends
well_by Serve words earlier later before now e good ends = serving_well words earlier later before now e good ends

-- a good command ends well
pub command_well : (words : List (List ℕ)) (earlier later : Faults) (before now : Outside) (e : Ending) → IsGoodCommand words earlier later before now → Ends words earlier later before now e → IsDoneAs words e.status
command_well words earlier later before now e good ends = well_by (command_of words) words earlier later before now e good ends

plain_whole : (command : Command) (words : List (List ℕ)) (before now : Outside) (e : Ending) → EndsPlainly command words before now e → (w : Whose) → e.last ≡ Some w → IsWhole e.services e.receipts
plain_whole command words before now e ends w is = absurd (some_none e.last w (ap (λ (x : Ending). x.last) ends.1) is)

whole_by : (command : Command) (words : List (List ℕ)) (earlier later : Faults) (before now : Outside) (e : Ending) → EndsBy command words earlier later before now e → (w : Whose) → e.last ≡ Some w → IsWhole e.services e.receipts
whole_by Run words earlier later before now e ends w is = plain_whole Run words before now e ends w is
whole_by Make words earlier later before now e ends w is = plain_whole Make words before now e ends w is
whole_by Audit words earlier later before now e ends w is = plain_whole Audit words before now e ends w is
whole_by Order words earlier later before now e ends w is = plain_whole Order words before now e ends w is
whole_by Serve words earlier later before now e ends w is = serving_whole words earlier later before now e ends w is

-- where an operator asked to stop, receipts and live answers are one to one
pub command_whole : {X : Type 0} (words : List (List ℕ)) (earlier later : Faults) (before now : Outside) (status : ℕ) (services : List Kept) (verdict : Option Verdict) (receipts : List Receipt) (last : Option X) (f : X → Whose)
    → Ends words earlier later before now (ending status services verdict receipts (last_of last f)) → IfSome last (λ _. IsWhole services receipts)
command_whole words earlier later before now status services verdict receipts None f ends = tt
command_whole words earlier later before now status services verdict receipts (Some last) f ends =
    whole_by (command_of words) words earlier later before now (ending status services verdict receipts (Some (f last))) ends (f last) refl

-- ---- without threads

pub offline_well : (words : List (List ℕ)) (before now : Outside) (e : Ending) → IsGoodOffline words before now → EndsOffline words before now e → IsDone e.status
offline_well words before now e good ends = plain_well (offline_command words) words before now e good ends

make_by : (b : Bool) → b ≡ true → cond b Make Run ≡ Make
make_by b is = rw is refl

run_by : (b : Bool) → b ≡ false → cond b Make Run ≡ Run
run_by b is = rw is refl

pub offline_make : (words : List (List ℕ)) → is_make words ≡ true → offline_command words ≡ Make
offline_make words is = make_by (is_make words) is

pub offline_run : (words : List (List ℕ)) → is_make words ≡ false → offline_command words ≡ Run
offline_run words is = run_by (is_make words) is

abbrev chosen : Bool → Bool → Bool → Bool → Command
chosen audits orders serves makes = cond audits Audit (cond orders Order (cond serves Serve (cond makes Make Run)))

unless_other : (audits orders serves makes : Bool) → (chosen audits orders serves makes ≡ Audit → ⊥) → (chosen audits orders serves makes ≡ Order → ⊥)
    → (chosen audits orders serves makes ≡ Serve → ⊥) → chosen audits orders serves makes ≡ cond makes Make Run
unless_other true orders serves makes no_audit no_order no_serve = absurd (no_audit refl)
unless_other false true serves makes no_audit no_order no_serve = absurd (no_order refl)
unless_other false false true makes no_audit no_order no_serve = absurd (no_serve refl)
unless_other false false false makes no_audit no_order no_serve = refl

without_other : (words : List (List ℕ)) → (command_of words ≡ Audit → ⊥) → (command_of words ≡ Order → ⊥) → (command_of words ≡ Serve → ⊥) → command_of words ≡ offline_command words
without_other [] no_audit no_order no_serve = refl
without_other (word ∷ words) no_audit no_order no_serve =
    unless_other (same_text word (codes "audit")) (same_text word (codes "order")) (same_text word (codes "serve")) (same_text word (codes "make")) no_audit no_order no_serve

-- words that ask for a command without threads ask `offline` for the same
pub without_threads : (words : List (List ℕ)) (command : Command) → command_of words ≡ command → (command ≡ Audit → ⊥) → (command ≡ Order → ⊥) → (command ≡ Serve → ⊥) → command_of words ≡ offline_command words
without_threads words command is no_audit no_order no_serve =
    without_other words (λ audits. no_audit (sym is ∙ audits)) (λ orders. no_order (sym is ∙ orders)) (λ serves. no_serve (sym is ∙ serves))

-- what `offline` ends with is how the program ends
pub ends_run : (words : List (List ℕ)) → command_of words ≡ Run → (earlier later : Faults) (before now : Outside) (e : Ending) → EndsOffline words before now e → Ends words earlier later before now e
ends_run words is earlier later before now e ends =
    let same : offline_command words ≡ Run = sym (without_threads words Run is (λ x. cc) (λ x. cc) (λ x. cc)) ∙ is in
    let P : Command → Type 0 = λ c. EndsPlainly c words before now e in
    ends_as (command_of words) Run is words earlier later before now e (subst P same ends)

pub ends_make : (words : List (List ℕ)) → command_of words ≡ Make → (earlier later : Faults) (before now : Outside) (e : Ending) → EndsOffline words before now e → Ends words earlier later before now e
ends_make words is earlier later before now e ends =
    let same : offline_command words ≡ Make = sym (without_threads words Make is (λ x. cc) (λ x. cc) (λ x. cc)) ∙ is in
    let P : Command → Type 0 = λ c. EndsPlainly c words before now e in
    ends_as (command_of words) Make is words earlier later before now e (subst P same ends)
