-- Rules as they were given.
use Rattle.std.specs.Prelude.{◌≡◌, ℕ, List, Result, Ok, refl}
use Rattle.std.specs.Coded.{Coded, code_by, coded×, coded_ℕ, coded_list}
use Rattle.authorise_rules.specs.Reading.{and_then, read_of}
use Rattle.authorise_rules.specs.contracts.rule.Rule as rule
use Rattle.authorise_rules.specs.declared.refused.RulesRefused.{RulesRefused}
use Rattle.authorise_rules.specs.declared.rule.Rule.{Rule}

-- rules, and the text that they were read of, with all that stands beside them there
pub record GivenRules : Type 0 where
  pub text : List ℕ
  pub rules : List Rule

-- by which a proof tells two of them apart
abbrev pub given_code : Coded GivenRules
given_code =
    code_by (List ℕ × List Rule)
    (coded× (coded_list coded_ℕ) (coded_list rule.the_row.coded))
    (λ g. (g.text, g.rules))
    (λ p. record { text = p.0; rules = p.1 })
    (λ _. refl)

-- the text spells the rules
abbrev pub IsGiven : GivenRules → Type 0
IsGiven g = read_of g.text ≡ Ok g.rules

-- the rules that a text spells, with the text, or why it spells none and at which line, counted from 1
abbrev pub given_of : List ℕ → Result GivenRules RulesRefused
given_of text = and_then (read_of text) (λ rules. Ok (record { text = text; rules = rules }))
