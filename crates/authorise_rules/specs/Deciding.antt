-- What rules decide of a repair.
use Rattle.std.specs.Prelude.{◌≡◌, ◌⊎◌, ℕ, ◌+◌, Bool, true, false, ◌&&◌, List, [], ◌∷◌, ◌++◌, length, Option, Some, None, codes, if◌then◌else◌}
use Rattle.std.specs.List.{list_all, list_any}
use Rattle.std.specs.Option.{option_copied, option_to_list}
use Rattle.lang_base.specs.Texts.{begins_with, same_text}
use Rattle.repair_messages.specs.declared.kinds.Kind.{Kind}
use Rattle.repair_messages.specs.declared.kinds.Kind.TheVariants.{Create, Replace, Delete, ReplaceResponse, Retry, Fold, Deploy, Correct, Rules}
use Rattle.authorise_rules.specs.declared.asked.Asked.{Asked}
use Rattle.authorise_rules.specs.declared.asked.Decision.{Decision}
use Rattle.authorise_rules.specs.declared.asked.Decision.TheVariants as decided
use Rattle.authorise_rules.specs.declared.rule.Kinds.{Kinds}
use Rattle.authorise_rules.specs.declared.rule.Kinds.TheVariants as kinds
use Rattle.authorise_rules.specs.declared.rule.Rule.{Rule}
use Rattle.authorise_rules.specs.declared.rule.Senders.{Senders}
use Rattle.authorise_rules.specs.declared.rule.Senders.TheVariants as senders
use Rattle.authorise_rules.specs.declared.rule.Users.{Users}
use Rattle.authorise_rules.specs.declared.rule.Users.TheVariants as users
use Rattle.authorise_rules.specs.declared.rule.Verb.{Verb}
use Rattle.authorise_rules.specs.declared.rule.Verb.TheVariants.{Allow, Deny}

-- ---- the question

-- a repair, as rules are asked of it: from no service is from the console
pub record Question : Type 0 where
  pub kind : Kind
  pub from : Option (List ℕ)
  pub who : List ℕ
  pub original : Option (List ℕ)
  pub old_path : Option (List ℕ)
  pub new_path : Option (List ℕ)

abbrev pub question : Asked → Question
question a = record {
  kind = a.kind;
  from = option_copied a.from;
  who = a.who.now;
  original = option_copied a.original;
  old_path = option_copied a.old_path;
  new_path = option_copied a.new_path;
}

-- ---- where a rule's parts hold

abbrev pub same_kind : Kind → Kind → Bool
same_kind Create Create = true
same_kind Replace Replace = true
same_kind Delete Delete = true
same_kind ReplaceResponse ReplaceResponse = true
same_kind Retry Retry = true
same_kind Fold Fold = true
same_kind Deploy Deploy = true
same_kind Correct Correct = true
same_kind Rules Rules = true
same_kind _ _ = false

-- the kind is this, or any
abbrev pub kind_holds : Kinds → Kind → Bool
kind_holds kinds.Any kind = true
kind_holds (kinds.Only only) kind = same_kind only kind

-- the sender is this, or any
abbrev pub sender_holds : Senders → Option (List ℕ) → Bool
sender_holds senders.Any from = true
sender_holds senders.Console None = true
sender_holds senders.Console (Some service) = false
sender_holds (senders.Only name) None = false
sender_holds (senders.Only name) (Some service) = same_text name service

-- the user is any, the original one, or this; where there is no original user, none is the same
abbrev pub user_holds : Users → List ℕ → Option (List ℕ) → Bool
user_holds users.Any who original = true
user_holds users.Same who None = false
user_holds users.Same who (Some original) = same_text who original
user_holds (users.Only user) who original = same_text who user

-- the paths of the old request and of the new one, where they exist, and the root where neither does
abbrev pub paths_of : Option (List ℕ) → Option (List ℕ) → List (List ℕ)
paths_of None None = codes "/" ∷ []
paths_of old new = option_to_list old ++ option_to_list new

-- to allow, every path begins with the prefix; to deny, at least one does
abbrev pub prefix_holds : Verb → List ℕ → List (List ℕ) → Bool
prefix_holds Allow prefix paths = list_all (begins_with prefix) paths
prefix_holds Deny prefix paths = list_any (begins_with prefix) paths

abbrev pub paths_begin : Verb → List ℕ → Option (List ℕ) → Option (List ℕ) → Bool
paths_begin verb prefix old new = prefix_holds verb prefix (paths_of old new)

-- each part of the rule holds
abbrev pub matches : Rule → Question → Bool
matches r q =
    kind_holds r.kind q.kind && sender_holds r.from q.from && user_holds r.who q.who q.original
    && paths_begin r.verb r.prefix q.old_path q.new_path

-- ---- the decision

-- what a rule of this number decides
abbrev pub verdict : Verb → ℕ → Decision
verdict Allow n = decided.Allow n
verdict Deny n = decided.Deny n

-- what these rules decide, of which the first has this number
abbrev pub decision_from : ℕ → List Rule → Question → Decision
decision_from n [] q = decided.Deny 0
decision_from n (rule ∷ rules) q = if matches rule q then verdict rule.verb n else decision_from (n + 1) rules q

abbrev pub decision : List Rule → Question → Decision
decision rules q = decision_from 1 rules q

-- a rule that matches, and before it none that does; its number is counted from 1
pub record IsFirstToMatch (rules : List Rule) (q : Question) (decision : Decision) : Type 0 where
  pub front : List Rule
  pub rule : Rule
  pub back : List Rule
  pub is : rules ≡ front ++ (rule ∷ back)
  pub none : list_any (λ r. matches r q) front ≡ false
  pub matches : matches rule q ≡ true
  pub decides : decision ≡ verdict rule.verb (length front + 1)

-- the first rule that matches decides, and where none matches it is denied by no rule
abbrev pub Decides : List Rule → Question → Decision → Type 0
Decides rules q decision =
    IsFirstToMatch rules q decision ⊎ ((list_any (λ r. matches r q) rules ≡ false) × (decision ≡ decided.Deny 0))
