-- Which rules a text is read as, or which refusal stands at which line.
use Rattle.std.specs.Prelude.{◌≡◌, ℕ, ◌+◌, Bool, true, false, List, [], ◌∷◌, ◌++◌, length, drop, Option, Some, None, Result, Ok, Err, codes, nat_eq, nat_lt, if◌then◌else◌}
use Rattle.std.specs.List.{starts_with}
use Rattle.lang_base.specs.Memory.{Unless, lacks}
use Rattle.lang_base.specs.Texts.{same_text}
use Rattle.lang_tree.specs.Forms.{is_path}
use Rattle.lang_core.specs.Names.{is_name, is_who}
use Rattle.repair_messages.specs.declared.kinds.Kind.TheVariants.{Create, Replace, Delete, ReplaceResponse, Retry, Fold, Deploy, Correct, Rules}
use Rattle.authorise_rules.specs.Spelled.{is_passed_over, lines_of, words_of}
use Rattle.authorise_rules.specs.declared.refused.RulesRefused.{RulesRefused}
use Rattle.authorise_rules.specs.declared.refused.RulesRefused.TheVariants as refusal
use Rattle.authorise_rules.specs.declared.rule.Kinds.{Kinds}
use Rattle.authorise_rules.specs.declared.rule.Kinds.TheVariants as kinds
use Rattle.authorise_rules.specs.declared.rule.Rule.{Rule}
use Rattle.authorise_rules.specs.declared.rule.Senders.{Senders}
use Rattle.authorise_rules.specs.declared.rule.Senders.TheVariants as senders
use Rattle.authorise_rules.specs.declared.rule.Users.{Users}
use Rattle.authorise_rules.specs.declared.rule.Users.TheVariants as users
use Rattle.authorise_rules.specs.declared.rule.Verb.{Verb}
use Rattle.authorise_rules.specs.declared.rule.Verb.TheVariants.{Allow, Deny}

-- ---- words

abbrev pub verb_named : List ℕ → Option Verb
verb_named word =
    if same_text word (codes "allow") then Some Allow else (if same_text word (codes "deny") then Some Deny else None)

abbrev pub kinds_named : List ℕ → Option Kinds
kinds_named word =
    if same_text word (codes "any") then Some kinds.Any
    else (if same_text word (codes "create") then Some (kinds.Only Create)
    else (if same_text word (codes "replace") then Some (kinds.Only Replace)
    else (if same_text word (codes "delete") then Some (kinds.Only Delete)
    else (if same_text word (codes "replace_response") then Some (kinds.Only ReplaceResponse)
    else (if same_text word (codes "retry") then Some (kinds.Only Retry)
    else (if same_text word (codes "fold") then Some (kinds.Only Fold)
    else (if same_text word (codes "deploy") then Some (kinds.Only Deploy)
    else (if same_text word (codes "correct") then Some (kinds.Only Correct)
    else (if same_text word (codes "rules") then Some (kinds.Only Rules)
    else None)))))))))

abbrev pub senders_named : List ℕ → Option Senders
senders_named word =
    if same_text word (codes "any") then Some senders.Any
    else (if same_text word (codes "console") then Some senders.Console
    else (if is_name word then Some (senders.Only word) else None))

-- what stands behind `is:`, if the word begins so
abbrev pub behind_is : List ℕ → Option (List ℕ)
behind_is word = if starts_with nat_eq word (codes "is:") then Some (drop 3 word) else None

abbrev pub user_named : Option (List ℕ) → Option Users
user_named None = None
user_named (Some user) = if is_who user then Some (users.Only user) else None

abbrev pub users_named : List ℕ → Option Users
users_named word =
    if same_text word (codes "any") then Some users.Any
    else (if same_text word (codes "same") then Some users.Same
    else user_named (behind_is word))

abbrev pub path_named : List ℕ → Option (List ℕ)
path_named word = if is_path word then Some word else None

-- ---- lines

-- goes on with what is there, else this is the refusal
abbrev pub wanted : {X Y : Type 0} → RulesRefused → Option X → (X → Result Y RulesRefused) → Result Y RulesRefused
wanted why None next = Err why
wanted why (Some part) next = next part

-- the last three parts of a rule
abbrev pub Fields : Type 0
Fields = Senders × Users × List ℕ

abbrev pub all_three : Option Senders → Option Users → Option (List ℕ) → Option Fields
all_three (Some from) (Some who) (Some prefix) = Some (from, who, prefix)
all_three from who prefix = None

abbrev pub fields_of : List (List ℕ) → Option Fields
fields_of (from ∷ who ∷ prefix ∷ []) = all_three (senders_named from) (users_named who) (path_named prefix)
fields_of words = None

-- a rule behind its verb and its kind
abbrev pub rule_behind : ℕ → Verb → Kinds → List (List ℕ) → Result Rule RulesRefused
rule_behind n verb kind words =
    wanted (refusal.BadField n) (fields_of words) (λ f. Ok (record { verb = verb; kind = kind; from = f.0; who = f.1; prefix = f.2 }))

-- a rule behind its verb
abbrev pub rule_after : ℕ → Verb → List (List ℕ) → Result Rule RulesRefused
rule_after n verb [] = Err (refusal.BadField n)
rule_after n verb (word ∷ words) = wanted (refusal.BadKind n) (kinds_named word) (λ kind. rule_behind n verb kind words)

-- the rule of a line's words, where the line has this number
abbrev pub rule_at : ℕ → List (List ℕ) → Result Rule RulesRefused
rule_at n [] = Err (refusal.BadVerb n)
rule_at n (word ∷ words) = wanted (refusal.BadVerb n) (verb_named word) (λ verb. rule_after n verb words)

-- ---- texts

-- goes on with what was read
abbrev pub and_then : {X Y : Type 0} → Result X RulesRefused → (X → Result Y RulesRefused) → Result Y RulesRefused
and_then (Err why) next = Err why
and_then (Ok x) next = next x

-- a rule more, where there is room for it
abbrev pub with_rule : List Rule → ℕ → Rule → Result (List Rule) RulesRefused
with_rule rules n rule = if nat_lt (length rules) 256 then Ok (rules ++ rule ∷ []) else Err (refusal.TooMany n)

-- the rules up to and including this line
abbrev pub with_line : List Rule → ℕ → List ℕ → Result (List Rule) RulesRefused
with_line rules n line =
    if is_passed_over line then Ok rules else and_then (rule_at n (words_of line)) (with_rule rules n)

-- the rules up to and including these lines, of which the first has this number
abbrev pub with_lines : List Rule → ℕ → List (List ℕ) → Result (List Rule) RulesRefused
with_lines rules n [] = Ok rules
with_lines rules n (line ∷ lines) = and_then (with_line rules n line) (λ more. with_lines more (n + 1) lines)

-- the rules that a text spells, or why it spells none and at which line, counted from 1
abbrev pub read_of : List ℕ → Result (List Rule) RulesRefused
read_of text = with_lines [] 1 (lines_of text)

-- ---- answers

abbrev pub is_memory : RulesRefused → Bool
is_memory refusal.NoMemory = true
is_memory refused = false

-- what a function answered is this, unless memory is wanting
abbrev pub Answers : {X : Type 0} → Result X RulesRefused → Result X RulesRefused → Type 0
Answers answer read = Unless (lacks is_memory answer) (read ≡ answer) (Unit {0})

-- what a list became that a rule may have been put into
abbrev pub put_by : {U : Type 0} → Result U RulesRefused → List Rule → Result (List Rule) RulesRefused
put_by (Ok u) rules = Ok rules
put_by (Err why) rules = Err why

-- the numbers of refusals
abbrev pub refusal_number : RulesRefused → ℕ
refusal_number refusal.NoMemory = 0
refusal_number (refusal.BadVerb line) = 1
refusal_number (refusal.BadKind line) = 2
refusal_number (refusal.BadField line) = 3
refusal_number (refusal.TooMany line) = 4
