-- What rules are asked of a repair, and what comes of their answer. The question of a repair is the same whether the requests that it
-- speaks of are found among what a service keeps or in its journal.
use Rattle.std.specs.Prelude.{ℕ, Bool, true, false, List, Option, Some, None, option_map, is_some}
use Rattle.lang_core.specs.declared.request.Request.{Request}
use Rattle.repair_messages.specs.Kinds.{replaces_if}
use Rattle.repair_messages.specs.declared.kinds.Kind.{Kind}
use Rattle.repair_messages.specs.declared.kinds.Kind.TheVariants.{Create, Replace, Delete, ReplaceResponse, Retry, Fold, Deploy, Correct, Rules}
use Rattle.authorise_rules.specs.Deciding.{Question}
use Rattle.authorise_rules.specs.declared.asked.Decision.{Decision}
use Rattle.authorise_rules.specs.declared.asked.Decision.TheVariants.{Allow, Deny}
use Rattle.journal_rows.specs.declared.orders.Command.{Command}
use Rattle.journal_rows.specs.declared.orders.Command.TheVariants.{Cancel, Restore, Replace as ReplaceBy, Create as CreateBy, Retry as RetryPost, Fold as FoldUpTo, Deploy as DeployProgram, Correct as CorrectProgram, Rules as GiveRules}

-- ---- questions

-- of a repair of this kind, from this sender, for this user, by the old and the new request, where they exist
abbrev pub question_about : Kind → Option (List ℕ) → List ℕ → Option Request → Option Request → Question
question_about kind from who old new =
    record {
      kind = kind;
      from = from;
      who = who;
      original = option_map (λ (q : Request). q.who) old;
      old_path = option_map (λ (q : Request). q.path) old;
      new_path = option_map (λ (q : Request). q.path) new;
    }

-- of a version of a caller's call, by the request of the call's entry, where it has one, and the version's own
abbrev pub version_question : List ℕ → List ℕ → Option Request → Option Request → Question
version_question caller who known desired = question_about (replaces_if (is_some known) desired) (Some caller) who known desired

-- of an answer to a call that asks this; its original user is the callee itself
abbrev pub answer_question : List ℕ → List ℕ → Option Request → Question
answer_question callee who desired = record (question_about ReplaceResponse (Some callee) who desired None) { original = Some callee }

-- cancelling asks as a deletion does, restoring as a creation
abbrev pub command_kind : Command → Kind
command_kind (Cancel id) = Delete
command_kind (Restore id) = Create
command_kind (ReplaceBy id method path body) = Replace
command_kind (CreateBy before after q) = Create
command_kind (RetryPost name) = Retry
command_kind (FoldUpTo id) = Fold
command_kind (DeployProgram p) = Deploy
command_kind (CorrectProgram k p) = Correct
command_kind (GiveRules g) = Rules

-- of an operator's command, by the request that it finds and the one that it puts there
abbrev pub command_question : Command → List ℕ → Option Request → Option Request → Question
command_question command who found put = question_about (command_kind command) None who found put

-- ---- decisions

abbrev pub is_denied : Decision → Bool
is_denied (Allow rule) = false
is_denied (Deny rule) = true

-- the number of the rule that decided; 0 where none matched
abbrev pub rule_of : Decision → ℕ
rule_of (Allow rule) = rule
rule_of (Deny rule) = rule
