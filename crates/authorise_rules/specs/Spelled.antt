-- Which text spells which rules.
use Rattle.std.specs.Prelude.{◌≡◌, ℕ, Bool, true, not, List, [], ◌∷◌, ◌++◌, ◌==◌, codes, map}
use Rattle.std.specs.List.{filter, flat_map, join_with_byte, slice_split}
use Rattle.repair_messages.specs.Kinds.{kind_word}
use Rattle.authorise_rules.specs.declared.rule.Kinds.{Kinds}
use Rattle.authorise_rules.specs.declared.rule.Kinds.TheVariants as kinds
use Rattle.authorise_rules.specs.declared.rule.Rule.{Rule}
use Rattle.authorise_rules.specs.declared.rule.Senders.{Senders}
use Rattle.authorise_rules.specs.declared.rule.Senders.TheVariants as senders
use Rattle.authorise_rules.specs.declared.rule.Users.{Users}
use Rattle.authorise_rules.specs.declared.rule.Users.TheVariants as users
use Rattle.authorise_rules.specs.declared.rule.Verb.{Verb}
use Rattle.authorise_rules.specs.declared.rule.Verb.TheVariants.{Allow, Deny}

-- ---- the words of a rule

abbrev pub verb_word : Verb → List ℕ
verb_word Allow = codes "allow"
verb_word Deny = codes "deny"

abbrev pub kinds_word : Kinds → List ℕ
kinds_word kinds.Any = codes "any"
kinds_word (kinds.Only kind) = kind_word kind

abbrev pub senders_word : Senders → List ℕ
senders_word senders.Any = codes "any"
senders_word senders.Console = codes "console"
senders_word (senders.Only name) = name

abbrev pub users_word : Users → List ℕ
users_word users.Any = codes "any"
users_word users.Same = codes "same"
users_word (users.Only user) = codes "is:" ++ user

-- VERB KIND FROM WHO PREFIX
abbrev pub rule_words : Rule → List (List ℕ)
rule_words r = verb_word r.verb ∷ kinds_word r.kind ∷ senders_word r.from ∷ users_word r.who ∷ r.prefix ∷ []

-- ---- lines and their words

-- the lines of a text, cut at each line feed
abbrev pub lines_of : List ℕ → List (List ℕ)
lines_of text = slice_split (λ b. b == 10) text

-- the words of a line, cut at each space
abbrev pub words_of : List ℕ → List (List ℕ)
words_of line = slice_split (λ b. b == 32) line

-- an empty line or a comment
abbrev pub is_passed_over : List ℕ → Bool
is_passed_over [] = true
is_passed_over (b ∷ bytes) = b == 35

-- the lines that aren't passed over, as words
abbrev pub worded : List (List ℕ) → List (List (List ℕ))
worded lines = map words_of (filter (λ line. not (is_passed_over line)) lines)

-- these lines are the rules' words, a line for each
abbrev pub LinesSpell : List (List ℕ) → List Rule → Type 0
LinesSpell lines rules = worded lines ≡ map rule_words rules

-- the text's lines are the rules' words, a line for each
abbrev pub Spells : List ℕ → List Rule → Type 0
Spells text rules = LinesSpell (lines_of text) rules

-- ---- what is printed of rules

-- a rule's words with one space between two
abbrev pub rule_line : Rule → List ℕ
rule_line r = join_with_byte 32 (rule_words r)

-- a line for each rule
abbrev pub text_of : List Rule → List ℕ
text_of rules = flat_map (λ r. rule_line r ++ codes "\n") rules
