-- Where a text is refused as rules, and why: at the first line that is neither passed over nor the words of a rule, or
-- that is the 257th rule.
use Rattle.std.specs.Prelude.{◌≡◌, ℕ, ◌+◌, false, IsTrue, List, [], ◌∷◌, ◌++◌, length}
use Rattle.authorise_rules.specs.Forms.{is_rule, rules_fit}
use Rattle.authorise_rules.specs.Spelled.{LinesSpell, is_passed_over, kinds_word, lines_of, rule_words, verb_word, words_of}
use Rattle.authorise_rules.specs.declared.refused.RulesRefused.{RulesRefused}
use Rattle.authorise_rules.specs.declared.refused.RulesRefused.TheVariants as refusal
use Rattle.authorise_rules.specs.declared.rule.Kinds.{Kinds}
use Rattle.authorise_rules.specs.declared.rule.Rule.{Rule}
use Rattle.authorise_rules.specs.declared.rule.Verb.{Verb}

-- the first word is a verb
abbrev pub HasVerb : List (List ℕ) → Type 0
HasVerb [] = ⊥
HasVerb (word ∷ words) = (verb : Verb) × (word ≡ verb_word verb)

-- the second word, if there is one, is a kind
abbrev pub HasKind : List (List ℕ) → Type 0
HasKind [] = Unit {0}
HasKind (word ∷ []) = Unit {0}
HasKind (word ∷ second ∷ words) = (kind : Kinds) × (second ≡ kinds_word kind)

-- the words are a rule's
abbrev pub AreRule : List (List ℕ) → Type 0
AreRule words = (rule : Rule) × IsTrue (is_rule rule) × (words ≡ rule_words rule)

-- what is wrong with a line of these words, where so many rules stand before it
abbrev pub IsWrong : ℕ → List (List ℕ) → RulesRefused → Type 0
IsWrong before words refusal.NoMemory = ⊥
IsWrong before words (refusal.BadVerb line) = ¬ HasVerb words
IsWrong before words (refusal.BadKind line) = HasVerb words × ¬ HasKind words
IsWrong before words (refusal.BadField line) = HasVerb words × HasKind words × ¬ AreRule words
IsWrong before words (refusal.TooMany line) = AreRule words × (before ≡ 256)

-- the number of the line that a refusal names
abbrev pub line_refused : RulesRefused → ℕ
line_refused refusal.NoMemory = 0
line_refused (refusal.BadVerb line) = line
line_refused (refusal.BadKind line) = line
line_refused (refusal.BadField line) = line
line_refused (refusal.TooMany line) = line

-- the first line that is wrong: those before it spell rules, and it is wrong so
pub record Refuses (text : List ℕ) (why : RulesRefused) : Type 0 where
  pub front : List (List ℕ)
  pub line : List ℕ
  pub back : List (List ℕ)
  pub is : lines_of text ≡ front ++ (line ∷ back)
  pub rules : List Rule
  pub before : LinesSpell front rules
  pub fit : IsTrue (rules_fit rules)
  pub counts : is_passed_over line ≡ false
  pub wrong : IsWrong (length rules) (words_of line) why
  pub number : line_refused why ≡ length front + 1
