-- Rules as they were given: what two texts spell is the same where they are.
use Rattle.std.proofs.Common.{◌≡◌, List, Result, Ok, ap, ◌∙◌}
use Rattle.authorise_rules.specs.Given.{GivenRules, IsGiven}
use Rattle.authorise_rules.specs.Reading.{read_of}
use Rattle.authorise_rules.specs.declared.refused.RulesRefused.{RulesRefused}
use Rattle.authorise_rules.specs.declared.rule.Rule.{Rule}

one_answer : (o : Result (List Rule) RulesRefused) (p q : List Rule) → o ≡ Ok p → o ≡ Ok q → p ≡ q
one_answer o p q first second = cc

pub same_given : (a b : GivenRules) → IsGiven a → IsGiven b → a.text ≡ b.text → a ≡ b
same_given a b given other text =
    let rules : a.rules ≡ b.rules = one_answer (read_of a.text) a.rules b.rules given (ap read_of text ∙ other) in
    (λ i. record { text = text i; rules = rules i })
