-- Lists of rules that get one more.
use Rattle.std.proofs.Common.{◌≡◌, ◌<◌, ◌≤◌, true, List, [], ◌∷◌, ◌++◌, length, nat_le, refl, arith, length-append}
use Rattle.std.specs.List.{list_all}
use Rattle.std.proofs.lemmas.Bool.{and_from, and_parts, le-leb, leb-true}
use Rattle.authorise_rules.specs.Forms.{is_rule, rules_fit}
use Rattle.authorise_rules.specs.declared.rule.Rule.{Rule}

pub fit_few : (rules : List Rule) → rules_fit rules ≡ true → length rules ≤ 256
fit_few rules fit = leb-true (length rules) 256 (and_parts (nat_le (length rules) 256) (list_all is_rule rules) fit).0

all_more : (rules : List Rule) (rule : Rule) → list_all is_rule rules ≡ true → is_rule rule ≡ true → list_all is_rule (rules ++ rule ∷ []) ≡ true
all_more [] rule all is = and_from (is_rule rule) true is refl
all_more (r ∷ rules) rule all is =
    let parts = and_parts (is_rule r) (list_all is_rule rules) all in
    and_from (is_rule r) (list_all is_rule (rules ++ rule ∷ [])) parts.0 (all_more rules rule parts.1 is)

pub fit_more : (rules : List Rule) (rule : Rule) → rules_fit rules ≡ true → length rules < 256 → is_rule rule ≡ true → rules_fit (rules ++ rule ∷ []) ≡ true
fit_more rules rule fit room is =
    let parts = and_parts (nat_le (length rules) 256) (list_all is_rule rules) fit in
    let long : length (rules ++ rule ∷ []) ≤ 256 = omega (arith, length-append rules (rule ∷ [])) in
    and_from (nat_le (length (rules ++ rule ∷ [])) 256) (list_all is_rule (rules ++ rule ∷ [])) (le-leb (length (rules ++ rule ∷ [])) 256 long) (all_more rules rule parts.1 is)
